use Rattle.workload_calls.proofs.Summing.{tells_of}
use Rattle.workload_calls.proofs.serving.told.Goals as goal

pub returns-in-Some : goal.returns-in-Some
returns-in-Some c =
    tells_of c.args.n c.sums_of-sums.result c.in-Some.figures c.args.written.now c.line_of.result
    c.sums_of-sums.ensures
    c.in-Some.is c.if-not-sums.true c.line_of.ensures
