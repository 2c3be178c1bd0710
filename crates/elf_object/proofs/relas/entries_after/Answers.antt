use Rattle.std.proofs.Common.{◌≡◌, ◌<◌, refl, ap, sym, ◌∙◌, true, false}
use Rattle.std.proofs.lemmas.Bool.{ne_eqb}
use Rattle.omos_model.specs.ElfValues.{sht_rela}
use Rattle.omos_model.specs.ElfFields.{e_shnum, sh_size, sh_type}
use Rattle.elf_words.specs.declared.shdr.Shdr.{Shdr}
use Rattle.elf_object.proofs.Sums.{other_kind, dropped, used, fine, is_rela, target, with_used}
use Rattle.elf_object.proofs.Sums.{without_used}
use Rattle.elf_object.proofs.relas.entries_after.Goals as goal

pub returns-then-header-ne-SHT_RELA : goal.returns-then-header-ne-SHT_RELA
returns-then-header-ne-SHT_RELA c =
    let file = c.args.file.now in
    let i = c.args.i in
    let e : c.section-header.result.sh_type ≡ sh_type file i = ap (λ (s : Shdr). s.sh_type)
    c.section-header.ensures in
    let is = other_kind file i (ne_eqb (sh_type file i) sht_rela
    (λ h. c.if-header-ne-SHT_RELA.true (e ∙ h))) in (
      is.right,
      without_used file i c.args.before c.requires.counted c.requires.sum is.unused,
      c.requires.few,
    )

pub returns-then-not-is_kept : goal.returns-then-not-is_kept
returns-then-not-is_kept c =
    let file = c.args.file.now in
    let i = c.args.i in
    let h = c.section-header.result in
    let low : h.sh_info < e_shnum file = rw c.count_of_sections.ensures
    at c.if-header-count_of_sections.false in
    let is = dropped file i (is_rela file i h c.section-header.ensures
    c.if-header-ne-SHT_RELA.false) (rw c.section-header.ensures at low)
    (target file i h _ false c.section-header.ensures c.is_kept.ensures
    c.if-not-is_kept.true) in (
      is.right,
      without_used file i c.args.before c.requires.counted c.requires.sum is.unused,
      c.requires.few,
    )

pub is_right_rela-requires-clause-sum : goal.is_right_rela-requires-clause-sum
is_right_rela-requires-clause-sum c =
    let file = c.args.file.now in
    let i = c.args.i in
    let h = c.section-header.result in
    with_used file i c.args.before c.requires.counted c.requires.sum
    (used file i (is_rela file i h c.section-header.ensures c.if-header-ne-SHT_RELA.false)
    (target file i h _ true c.section-header.ensures c.is_kept.ensures c.if-not-is_kept.false))

pub returns : goal.returns
returns c =
    let file = c.args.file.now in
    let i = c.args.i in
    let h = c.section-header.result in
    let t = is_rela file i h c.section-header.ensures c.if-header-ne-SHT_RELA.false in
    let k = target file i h _ true c.section-header.ensures c.is_kept.ensures
    c.if-not-is_kept.false in
    let is = fine file i t k (sym c.is_right_rela.ensures ∙ c.if-not-is_right_rela.false) in
    let sum = with_used file i c.args.before c.requires.counted c.requires.sum (used file i t k) in
    let e : h.sh_size ≡ sh_size file i = ap (λ (s : Shdr). s.sh_size) c.section-header.ensures in
    (is.right, rw (e, sum) refl, rw (e, ← sum) is.few)
