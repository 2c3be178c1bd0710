use Rattle.std.proofs.Common.{ap, sym, ◌∙◌, arith}
use Rattle.elf_words.specs.declared.shdr.Shdr.{Shdr}
use Rattle.elf_object.proofs.Spots.{section_stands}
use Rattle.elf_object.proofs.tables.Tables.bytes_at.Goals as goal

pub overflow_cast-result : goal.overflow_cast-result
overflow_cast-result c =
    let stands = section_stands c.self.inside.file.now c.args.i c.self.invariant.right
    (rw (← c.self.view_is) at c.requires)
    (sym c.is_nobits.ensures ∙ c.if-is_nobits.false) in
    let at = ap (λ (s : Shdr). s.sh_offset) c.section-header.ensures in
    let short = c.self.invariant.headers.short in
    omega (arith, stands, at, short)

pub overflow_cast-result-2 : goal.overflow_cast-result-2
overflow_cast-result-2 c =
    let stands = section_stands c.self.inside.file.now c.args.i c.self.invariant.right
    (rw (← c.self.view_is) at c.requires)
    (sym c.is_nobits.ensures ∙ c.if-is_nobits.false) in
    let size = ap (λ (s : Shdr). s.sh_size) c.section-header.ensures in
    let short = c.self.invariant.headers.short in
    omega (arith, stands, size, short)

pub returns-clause-inside : goal.returns-clause-inside
returns-clause-inside c =
    let stands = section_stands c.self.inside.file.now c.args.i c.self.invariant.right
    (rw (← c.self.view_is) at c.requires)
    (sym c.is_nobits.ensures ∙ c.if-is_nobits.false) in
    rw (c.section-header.ensures, ← c.self.view_is) stands
