use Rattle.std.proofs.Common.{◌≡◌, ℕ, ◌+◌, ◌<◌, ◌≤◌, ◌==◌, not, true, Bool, List, ap, sym, ◌∙◌}
use Rattle.std.proofs.Common.{subst, arith}
use Rattle.std.proofs.Common.{length, drop}
use Rattle.std.specs.List.{take_while}
use Rattle.omos_base.specs.Runs.{run_of}
use Rattle.omos_model.specs.Names.{is_symbol_name}
use Rattle.omos_model.specs.ElfFields.{name_of, st_name}
use Rattle.omos_model.proofs.Tested.{name_law}
use Rattle.elf_words.specs.declared.sym.Sym.{Sym}
use Rattle.elf_object.proofs.Right.{named}
use Rattle.elf_object.proofs.Spots.{stands_from}
use Rattle.elf_object.proofs.tables.Tables.name_at.Goals as goal

lawful : (c : goal.After-struct_known-1)
    → is_symbol_name (name_of c.self.inside.file.now c.args.k) ≡ true
lawful c =
    named c.self.inside.file.now c.args.k c.self.invariant.right c.requires.counted
    (rw (← c.self.view_is) at c.requires.there) (rw (← c.self.view_is) at c.requires.named)

-- the name ends within the file, and is the run of its bytes
stands : (c : goal.After-struct_known-1)
    → let at = c.self.inside.symbols.strings_at + c.symbol.result.st_name in
    let name = name_of c.self.inside.file.now c.args.k in
    (at + length name ≤ length c.self.inside.file.now)
    × (run_of at (length name) c.self.inside.file.now ≡ name)
stands c =
    let file = c.self.inside.file.now in
    let k = c.args.k in
    let table = c.self.inside.symbols in
    let there = rw (← c.self.view_is) at c.requires.there in
    let counted = c.self.invariant.symbols.counted in
    let some : 0 < table.count = omega (arith, there, counted) in
    let place : c.symbol.result.st_name ≡ st_name file k =
    ap (λ (s : Sym). s.st_name) c.symbol.ensures.read in
    let passes : ℕ → Bool = λ b. not (b == 0) in
    let is : name_of file k ≡ take_while passes (drop c.symbol.result.st_name table.strings.now) =
    ap (λ bytes. take_while passes (drop (st_name file k) bytes))
    (sym (c.self.invariant.symbols.named some))
    ∙ ap (λ n. take_while passes (drop n table.strings.now)) (sym place) in
    let long = ((name_law (name_of file k)).0 (lawful c)).0.0 in
    let name : List ℕ → Type 0 =
    λ name. (table.strings_at + c.symbol.result.st_name + length name ≤ length file)
    × (run_of (table.strings_at + c.symbol.result.st_name) (length name) file ≡ name) in
    subst name (sym is)
    (stands_from file table.strings.now table.strings_at c.symbol.result.st_name passes
    c.self.invariant.stand (subst (λ name. 1 ≤ length name) is long))

pub overflow_add-result : goal.overflow_add-result
overflow_add-result c =
    let h = (stands c).0 in let short = c.self.invariant.headers.short in omega (arith, h, short)

pub returns-clause-name : goal.returns-clause-name
returns-clause-name c = rw (c.name-name.ensures, ← c.self.view_is) (stands c).1

pub returns-clause-lawful : goal.returns-clause-lawful
returns-clause-lawful c = rw (← c.self.view_is) (lawful c)

pub returns-clause-inside : goal.returns-clause-inside
returns-clause-inside c = rw (c.name-name.ensures, ← c.self.view_is) (stands c).0
