use Rattle.std.proofs.Common.{◌≡◌, ◌==◌, ◌||◌, true, sym, ap, arith, subst, ℕ}
use Rattle.omos_model.specs.ElfFields.{sh_addralign, sh_size}
use Rattle.omos_model.specs.FragmentParts.{is_alignment}
use Rattle.elf_words.specs.declared.shdr.Shdr.{Shdr}
use Rattle.fragment_read.proofs.Right.{kept_right}
use Rattle.fragment_read.proofs.pieces.piece_of_section.Goals as goal

pub alignment_of-requires : goal.alignment_of-requires
alignment_of-requires c =
    let e : c.header-header.result.sh_addralign ≡ sh_addralign c.args.tables.now c.args.i =
    ap (λ (h : Shdr). h.sh_addralign) c.header-header.ensures in
    subst (λ (a : ℕ). (a == 0 || is_alignment a) ≡ true) (sym e)
    (kept_right c.args.tables.now c.args.i c.requires.right c.requires.kept).aligned

pub overflow_cast-result : goal.overflow_cast-result
overflow_cast-result c =
    let e : c.header-header.result.sh_size ≡ sh_size c.args.tables.now c.args.i =
    ap (λ (h : Shdr). h.sh_size) c.header-header.ensures in
    omega (arith, e, (kept_right c.args.tables.now c.args.i c.requires.right c.requires.kept).small)
