use Rattle.std.proofs.Common.{arith}
use Rattle.std.specs.Prelude.{codes, decimal}
use Rattle.workload_calls.proofs.Joined.{program_by, program_short}
use Rattle.workload_calls.proofs.Naming.{short_number}
use Rattle.workload_calls.proofs.frames.program_text.Goals as goal

pub returns-clause-made : goal.returns-clause-made
returns-clause-made c =
    let first = rw c.from.ensures at c.in_ok-push_count.ensures in
    let second = rw c.from-2.ensures at c.in_ok-push_count-2.ensures in
    program_by (codes "(image (freeze f") (decimal c.args.i) (codes " (override /all ")
    (codes "/o/") (decimal c.args.i) (codes ")))")
    _ _ _ _ c.new-text.ensures first second c.in_ok-push_slice.ensures.added

pub returns-clause-short : goal.returns-clause-short
returns-clause-short c =
    let first = rw c.from.ensures at c.in_ok-push_count.ensures in
    let second = rw c.from-2.ensures at c.in_ok-push_count-2.ensures in
    let long =
    program_short (codes "(image (freeze f") (decimal c.args.i) (codes " (override /all /o/")
    (decimal c.args.i) (codes ")))")
    _ _ _ _ c.new-text.ensures first second c.in_ok-push_slice.ensures.added in
    omega (arith, long, short_number c.args.i (omega arith))
