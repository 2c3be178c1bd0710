use Rattle.std.proofs.Common.{◌-◌, ◌≤◌, length}
use Rattle.omos_adapt.proofs.filling.read_to_limit.Given as goal

abbrev pub invariant-pieces : goal.invariant-pieces
invariant-pieces g l = length l.bytes.items ≤ l.most

abbrev pub decreases-pieces : goal.decreases-pieces
decreases-pieces g l = l.most - length l.bytes.items
