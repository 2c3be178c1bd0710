use Rattle.std.proofs.Common.{◌≡◌, ◌==◌, ◌||◌, true, sym, ap, arith, subst, ℕ}
use Rattle.omos_model.specs.ElfFields.{st_size, st_value}
use Rattle.omos_model.specs.FragmentParts.{is_alignment}
use Rattle.elf_words.specs.declared.sym.Sym.{Sym}
use Rattle.fragment_read.proofs.Right.{common_right}
use Rattle.fragment_read.proofs.pieces.piece_of_common.Goals as goal

pub alignment_of-requires : goal.alignment_of-requires
alignment_of-requires c =
    let e : c.symbol-symbol.result.st_value ≡ st_value c.args.tables.now c.args.k =
    ap (λ (s : Sym). s.st_value) c.symbol-symbol.ensures.read in
    let r = c.requires in
    subst (λ (a : ℕ). (a == 0 || is_alignment a) ≡ true) (sym e)
    (common_right c.args.tables.now c.args.k r.right r.counted r.there r.common).aligned

pub overflow_cast-result : goal.overflow_cast-result
overflow_cast-result c =
    let e : c.symbol-symbol.result.st_size ≡ st_size c.args.tables.now c.args.k =
    ap (λ (s : Sym). s.st_size) c.symbol-symbol.ensures.read in
    let r = c.requires in
    omega (
      arith,
      e,
      (common_right c.args.tables.now c.args.k r.right r.counted r.there r.common).small,
    )
