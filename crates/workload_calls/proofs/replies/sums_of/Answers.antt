use Rattle.std.proofs.Common.{arith, length}
use Rattle.omos_wire.specs.Answer.{reply_frame}
use Rattle.workload_calls.proofs.Summing.{reads_done, reads_more}
use Rattle.workload_calls.proofs.replies.sums_of.Goals as goal

pub replies-preserved : goal.replies-preserved
replies-preserved c =
    reads_more c.args.bytes.now c.replies.rest.now c.split_at.result.0.now c.split_at.result.1.now
    c.in-Some.size c.replies.sums c.with_said-sums.result c.said_in.result
    c.replies.invariant c.in-Some.ensures.within.0 c.in-Some.ensures.within.1
    c.in-Some.ensures.reply c.requires
    c.split_at.ensures.front c.split_at.ensures.back c.split_at.ensures.front_len
    c.split_at.ensures.back_len
    c.said_in.ensures.said c.said_in.ensures.small c.with_said-sums.ensures

pub returns : goal.returns
returns c =
    reads_done c.args.bytes.now c.replies.rest.now c.replies.sums c.replies.invariant
    (λ reply more is.
    c.in_default.not-Some (length (reply_frame reply))
    (c.front_size.ensures.reply reply more is
    (omega (arith, c.replies.invariant.images, c.requires))))
