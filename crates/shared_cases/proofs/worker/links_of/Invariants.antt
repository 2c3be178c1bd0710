use Rattle.std.specs.List.{AllByRecursion}
use Rattle.omos_outside.specs.ScriptedDoor.{IsFreshPair}
use Rattle.shared_cases.proofs.worker.links_of.Given as goal

abbrev pub invariant-rows : goal.invariant-rows
invariant-rows g l = AllByRecursion IsFreshPair l.links
