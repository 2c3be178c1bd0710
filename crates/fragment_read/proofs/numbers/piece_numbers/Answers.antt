use Rattle.std.proofs.Common.{◌≡◌, ◌+◌, ◌∷◌, [], Bool, true, false, ℕ, sym, ap, ◌∙◌, cond, get_or}
use Rattle.std.proofs.Common.{length, arith, length-append}
use Rattle.omos_model.specs.ElfFaults.{is_kept}
use Rattle.omos_model.specs.ElfFields.{e_shnum}
use Rattle.omos_model.specs.FragmentOf.{section_piece}
use Rattle.elf_object.proofs.KeptTable.{each_more}
use Rattle.fragment_read.proofs.Counted.{section_piece_more}
use Rattle.fragment_read.proofs.numbers.piece_numbers.Goals as goal
use Rattle.fragment_read.proofs.numbers.piece_numbers.Goals.{then-kept, else-kept}

pub loop-i-preserved : goal.loop-i-preserved
loop-i-preserved c =
    let file = c.args.tables.now in
    let h = c.loop-i.invariant in
    let i = c.loop-i.i in
    let more = section_piece_more file i in
    let grown = ap length c.in_ok-push.ensures.added
    ∙ length-append c.loop-i.numbers (c.loop-i.count ∷ []) in
    let counted : (b : Bool) → is_kept file i ≡ b
    → section_piece file (i + 1) ≡ c.loop-i.count + cond b 1 0 =
    λ b e. more ∙ ap (λ (n : ℕ). n + cond (is_kept file i) 1 0) (sym h.count)
    ∙ ap (λ (x : Bool). c.loop-i.count + cond x 1 0) e in
    record {
      all = omega (arith, grown, h.all);
      each = λ k less.
          ap (λ xs. get_or xs k 0) c.in_ok-push.ensures.added
          ∙ each_more 0 (section_piece file) c.loop-i.numbers i c.loop-i.count h.all h.each h.count
          k less;
      count = elim c.if-kept.branch [
        | then-kept w ↦ w.count-is ∙ sym (counted true (sym c.kept.ensures ∙ w.if-kept.true))
        | else-kept w ↦ w.count-is
            ∙ omega (arith, counted false (sym c.kept.ensures ∙ w.if-kept.false))
      ];
      few = elim c.if-kept.branch [
        | then-kept w ↦ omega (arith, w.count-is, h.few)
        | else-kept w ↦ omega (arith, w.count-is, h.few)
      ];
    }

pub returns : goal.returns
returns c =
    let h = c.loop-i.invariant in
    let end : c.loop-i.i ≡ e_shnum c.args.tables.now =
    omega (arith, c.sections-i-end.ensures.count) in
    record { all = h.all ∙ end; each = λ i less. h.each i (omega (arith, less, end)) }
