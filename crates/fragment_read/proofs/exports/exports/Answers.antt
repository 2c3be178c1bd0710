use Rattle.std.proofs.Common.{◌≡◌, ◌+◌, ◌-◌, ◌∷◌, ◌++◌, [], List, Bool, true, false, ℕ, sym, ap}
use Rattle.std.proofs.Common.{◌∙◌, cond, map, arith}
use Rattle.std.specs.Prelude.{filter}
use Rattle.omos_model.specs.ElfFaults.{is_export}
use Rattle.omos_model.specs.FragmentOf.{common_piece, is_common}
use Rattle.omos_model.specs.Numbers.{numbers_from}
use Rattle.omos_model.specs.declared.fragment.Export.{Export}
use Rattle.fragment_read.specs.inside.Numbered.{export_of}
use Rattle.omos_model.proofs.RightFile.{right_file}
use Rattle.fragment_read.proofs.Counted.{common_piece_more, few_kept, pick_more, pick_none}
use Rattle.fragment_read.proofs.exports.exports.Goals as goal
use Rattle.fragment_read.proofs.exports.exports.Goals.{then-is_export+in_ok-export_of+in_ok-push}
use Rattle.fragment_read.proofs.exports.exports.Goals.{else-is_export, then-is_common}
use Rattle.fragment_read.proofs.exports.exports.Goals.{else-is_common}

pub overflow_add-common : goal.overflow_add-common
overflow_add-common c =
    omega (
      arith,
      c.loop-k.invariant.few,
      c.requires.first,
      few_kept c.args.tables.now c.requires.right,
      (right_file c.args.tables.now c.requires.right).few_symbols,
    )

pub loop-k-preserved : goal.loop-k-preserved
loop-k-preserved c =
    let file = c.args.tables.now in
    let h = c.loop-k.invariant in
    let k = c.loop-k.k in
    let counted : (b : Bool) → is_common file k ≡ b
    → common_piece file (k + 1) ≡ c.loop-k.common + cond b 1 0 =
    λ b e. common_piece_more file k c.loop-k.auto.k
    ∙ ap (λ (n : ℕ). n + cond (is_common file k) 1 0) (sym h.common)
    ∙ ap (λ (x : Bool). c.loop-k.common + cond x 1 0) e in
    record {
      exports = elim c.if-is_export.branch [
        | then-is_export+in_ok-export_of+in_ok-push w ↦
            w.exports-is ∙ w.in_ok-push.ensures.added
            ∙ ap (λ (xs : List Export). xs ++ w.in_ok-export_of.field-0 ∷ []) h.exports
            ∙ ap (λ (x : Export). map (export_of file)
            (filter (is_export file) (numbers_from 1 (k - 1))) ++ x ∷ [])
            w.in_ok-export_of.ensures
            ∙ sym (pick_more (is_export file) (export_of file) k c.loop-k.auto.k
            (sym c.is_export.ensures ∙ w.if-is_export.true))
        | else-is_export w ↦
            w.exports-is ∙ h.exports
            ∙ sym (pick_none (is_export file) (export_of file) k c.loop-k.auto.k
            (sym c.is_export.ensures ∙ w.if-is_export.false))
      ];
      common = elim c.if-is_common.branch [
        | then-is_common w ↦ w.common-is
            ∙ sym (counted true (sym c.is_common.ensures ∙ w.if-is_common.true))
        | else-is_common w ↦ w.common-is
            ∙ omega (arith, counted false (sym c.is_common.ensures ∙ w.if-is_common.false))
      ];
      within = omega (arith, c.symbols-k-end.ensures.count);
      few = elim c.if-is_common.branch [
        | then-is_common w ↦ omega (arith, w.common-is, h.few)
        | else-is_common w ↦ omega (arith, w.common-is, h.few)
      ];
    }
