use Rattle.std.proofs.Common.{◌<◌, ◌≤◌, not, ap, sym, ◌∙◌, arith}
use Rattle.omos_model.specs.ElfFaults.{is_again}
use Rattle.elf_object.proofs.DefinedBelow.{never_again}
use Rattle.elf_object.proofs.Runs.{find_here, find_next}
use Rattle.elf_object.proofs.SeenNames.{seen_still}
use Rattle.elf_object.proofs.exports.first_again.Goals as goal
use Rattle.elf_object.proofs.exports.first_again.Goals.{then-is_export+in_ok-is_new+else-not-branch}
use Rattle.elf_object.proofs.exports.first_again.Goals.{else-is_export}

pub returns-then-not-branch : goal.returns-then-not-branch
returns-then-not-branch c =
    let file = c.args.file.now in
    let k = c.loop-k.k in
    let there : k < c.args.table.count = omega arith in
    sym (c.loop-k.invariant.none
    ∙ find_here (is_again file) k c.args.table.count there
    (c.in_ok-is_new.ensures.0 ∙ ap not c.if-not-branch.true))

pub loop-k-preserved : goal.loop-k-preserved
loop-k-preserved c =
    let file = c.args.file.now in
    let k = c.loop-k.k in
    let there : k < c.args.table.count = omega arith in
    let low : 1 ≤ k = c.loop-k.auto.k in
    let next = find_next (is_again file) k c.args.table.count there in
    record {
      seen = elim c.if-is_export.branch [
        | then-is_export+in_ok-is_new+else-not-branch w ↦
            rw (w.places-is, w.others-is) (w.in_ok-is_new.ensures.1 w.if-not-branch.false)
        | else-is_export w ↦
            rw (w.places-is, w.others-is)
            (seen_still file k _ _ low (sym c.is_export.ensures ∙ w.if-is_export.false)
            c.loop-k.invariant.seen)
      ];
      none = elim c.if-is_export.branch [
        | then-is_export+in_ok-is_new+else-not-branch w ↦
            c.loop-k.invariant.none
            ∙ next (w.in_ok-is_new.ensures.0 ∙ ap not w.if-not-branch.false)
        | else-is_export w ↦
            c.loop-k.invariant.none
            ∙ next (never_again file k (sym c.is_export.ensures ∙ w.if-is_export.false))
      ];
    }
