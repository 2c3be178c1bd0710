use Rattle.std.proofs.Common.{Some, ap, arith}
use Rattle.workload_calls.proofs.Summing.{fronts}
use Rattle.workload_calls.proofs.replies.front_size.Goals as goal
use Rattle.workload_calls.proofs.replies.front_size.Goals.{else-size-ge5-via-then-size-ge5+else-size-bytes}
use Rattle.workload_calls.proofs.replies.front_size.Goals.{else-size-ge5-via-else-size-ge5}

pub returns-then-bytes-lt5-clause-reply : goal.returns-then-bytes-lt5-clause-reply
returns-then-bytes-lt5-clause-reply c = λ reply rest is few.
    let front = fronts c.args.bytes.now reply rest is few in
    absurd (omega (arith, front.long, front.there, c.if-bytes-lt5.true))

pub returns-then-size-bytes-clause-reply : goal.returns-then-size-bytes-clause-reply
returns-then-size-bytes-clause-reply c = λ reply rest is few.
    let front = fronts c.args.bytes.now reply rest is few in
    ap Some (omega (arith, front.said, c.u32_at.ensures))

pub returns-else-size-ge5-clause-reply : goal.returns-else-size-ge5-clause-reply
returns-else-size-ge5-clause-reply c = λ reply rest is few.
    let front = fronts c.args.bytes.now reply rest is few in
    elim c.else-size-ge5.branch [
      | else-size-ge5-via-then-size-ge5+else-size-bytes w ↦ absurd
          (omega (arith, front.said, front.there, c.u32_at.ensures, w.if-size-bytes.false))
      | else-size-ge5-via-else-size-ge5 w ↦ absurd
          (omega (arith, front.said, front.long, c.u32_at.ensures, w.if-size-ge5.false))
    ]
