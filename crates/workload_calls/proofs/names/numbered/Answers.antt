use Rattle.std.proofs.Common.{arith, ap, length}
use Rattle.std.specs.Prelude.{decimal}
use Rattle.workload_calls.proofs.Joined.{piece_short}
use Rattle.workload_calls.proofs.Naming.{short_number}
use Rattle.workload_calls.proofs.names.numbered.Goals as goal

pub returns-clause-short : goal.returns-clause-short
returns-clause-short c =
    let pushed = rw c.from.ensures at c.in_ok-push_count.ensures in
    let long =
    piece_short c.args.text.now (decimal c.args.number) c.new-bytes.result c.push_count.new.line
    pushed in
    omega (arith, long, short_number c.args.number (omega arith), ap length c.new-bytes.ensures)
