use Rattle.std.proofs.Common.{◌≡◌, ◌+◌, ◌-◌, Bool, true, false, ℕ, sym, ap, ◌∙◌, cond, arith}
use Rattle.std.specs.List.{count_by}
use Rattle.std.proofs.lemmas.List.Sums.{length-filter}
use Rattle.omos_model.specs.ElfFaults.{is_kept}
use Rattle.omos_model.specs.ElfFields.{e_shnum}
use Rattle.omos_model.specs.Numbers.{numbers_from}
use Rattle.fragment_read.proofs.Counted.{count_more}
use Rattle.fragment_read.proofs.numbers.kept_count.Goals as goal
use Rattle.fragment_read.proofs.numbers.kept_count.Goals.{then-kept, else-kept}

pub loop-i-preserved : goal.loop-i-preserved
loop-i-preserved c =
    let file = c.args.tables.now in
    let h = c.loop-i.invariant in
    let i = c.loop-i.i in
    let counted : (b : Bool) → is_kept file i ≡ b
    → count_by (is_kept file) (numbers_from 1 (i + 1 - 1)) ≡ c.loop-i.count + cond b 1 0 =
    λ b e. count_more (is_kept file) i c.loop-i.auto.i
    ∙ ap (λ (n : ℕ). n + cond (is_kept file i) 1 0) (sym h.count)
    ∙ ap (λ (x : Bool). c.loop-i.count + cond x 1 0) e in
    record {
      count = elim c.if-kept.branch [
        | then-kept w ↦ w.count-is ∙ sym (counted true (sym c.kept.ensures ∙ w.if-kept.true))
        | else-kept w ↦ w.count-is
            ∙ omega (arith, counted false (sym c.kept.ensures ∙ w.if-kept.false))
      ];
      within = omega (arith, c.sections-i-end.ensures.count);
      few = elim c.if-kept.branch [
        | then-kept w ↦ omega (arith, w.count-is, h.few)
        | else-kept w ↦ omega (arith, w.count-is, h.few)
      ];
    }

pub returns : goal.returns
returns c =
    let file = c.args.tables.now in
    let h = c.loop-i.invariant in
    let end : c.loop-i.i - 1 ≡ e_shnum file - 1 =
    omega (arith, c.sections-i-end.ensures.count, h.within) in
    h.count ∙ ap (λ (n : ℕ). count_by (is_kept file) (numbers_from 1 n)) end
    ∙ sym (length-filter (is_kept file) (numbers_from 1 (e_shnum file - 1))) ∙ omega arith
