use Rattle.std.proofs.Common.{◌≡◌, ◌*◌, ◌≤◌, length}
use Rattle.workload_calls.specs.Stream.{operands}
use Rattle.workload_calls.proofs.frames.operands.Given as goal

abbrev pub invariant-operands : goal.invariant-operands
invariant-operands l = (l.text ≡ operands l.i) × (length l.text ≤ 14 * l.i)
