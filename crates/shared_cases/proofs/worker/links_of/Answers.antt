use Rattle.std.proofs.Common.{subst, sym}
use Rattle.std.specs.List.{AllByRecursion}
use Rattle.omos_outside.specs.ScriptedDoor.{IsFreshPair}
use Rattle.shared_cases.proofs.Pushed.{all_pushed}
use Rattle.shared_cases.proofs.worker.links_of.Goals as goal

pub rows-preserved : goal.rows-preserved
rows-preserved g c =
    subst (AllByRecursion IsFreshPair) (sym c.in_ok-push.ensures.added)
    (all_pushed IsFreshPair c.rows.links c.in_ok-link_of.field-0 c.rows.invariant
    c.in_ok-link_of.ensures)
