use Rattle.std.proofs.Common.{◌++◌, List, sym, ap, ◌∙◌, arith}
use Rattle.std.specs.List.{filter_map}
use Rattle.omos_model.specs.ElfFaults.{entry_count, is_used_rela}
use Rattle.omos_model.specs.FragmentOf.{fixup_of}
use Rattle.omos_model.specs.declared.fragment.Fixup.{Fixup}
use Rattle.fragment_read.proofs.Counted.{row, rows_more, rows_none}
use Rattle.fragment_read.proofs.fixups.push_all.Goals as goal
use Rattle.fragment_read.proofs.fixups.push_all.Goals.{then-is_used+in_ok-push_fixups, else-is_used}

pub loop-i-preserved : goal.loop-i-preserved
loop-i-preserved c =
    let file = c.args.tables.now in
    let f = fixup_of file in
    let used = is_used_rela file in
    let i = c.loop-i.i in
    record {
      right = elim c.if-is_used.branch [
        | then-is_used+in_ok-push_fixups w ↦
            rw (w.fields-is, w.used-is) w.in_ok-push_fixups.ensures.right
        | else-is_used w ↦ rw (w.fields-is, w.used-is) c.loop-i.invariant.right
      ];
      fixups = elim c.if-is_used.branch [
        | then-is_used+in_ok-push_fixups w ↦
            rw (w.fields-is, w.used-is) (w.in_ok-push_fixups.ensures.more
            ∙ ap (λ (xs : List Fixup). xs ++ filter_map f (row f used (entry_count file) i))
            c.loop-i.invariant.fixups
            ∙ sym (rows_more f used (entry_count file) i c.loop-i.auto.i
            (sym c.is_used.ensures ∙ w.if-is_used.true)))
        | else-is_used w ↦
            rw (w.fields-is, w.used-is) (c.loop-i.invariant.fixups
            ∙ sym (rows_none f used (entry_count file) i c.loop-i.auto.i
            (sym c.is_used.ensures ∙ w.if-is_used.false)))
      ];
      within = omega (arith, c.sections-i-end.ensures.count);
    }
