use Rattle.std.proofs.Common.{arith}
use Rattle.std.specs.Prelude.{codes, decimal}
use Rattle.workload_calls.proofs.Adding.{operand_more}
use Rattle.workload_calls.proofs.Joined.{piece_short}
use Rattle.workload_calls.proofs.Naming.{short_number}
use Rattle.workload_calls.proofs.frames.operands.Goals as goal

pub operands-preserved : goal.operands-preserved
operands-preserved c =
    let pushed = rw c.from.ensures at c.in_ok-push_count.ensures in
    let long =
    piece_short (codes " /o/") (decimal c.operands.i) c.operands.text c.push_count.new.line
    pushed in (
      operand_more c.operands.i c.operands.text c.push_count.new.line c.operands.invariant.0 pushed,
      omega (arith, long, short_number c.operands.i (omega arith), c.operands.invariant.1),
    )
