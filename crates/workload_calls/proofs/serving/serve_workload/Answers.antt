use Rattle.std.proofs.Common.{◌∙◌, arith}
use Rattle.workload_calls.specs.Workload.{replies}
use Rattle.workload_calls.proofs.Talking.{talk_fits}
use Rattle.workload_calls.proofs.serving.serve_workload.Goals as goal

pub returns : goal.returns
returns c =
    let talk = c.in_ok-sink.ensures in
    let fit =
    talk_fits c.args.n c.talk.new.store c.in_ok-sink.sink.held talk
    (omega (arith, c.record_len.ensures.len)) in
    record {
      written = c.in_ok-sink.sink.held;
      talk = talk;
      tells = c.in_ok-line.ensures (replies talk.rows) (c.bytes.ensures ∙ talk.wrote) fit;
    }
