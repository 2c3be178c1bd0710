use Rattle.std.proofs.Common.{ap, ◌∙◌}
use Rattle.omos_outside.specs.Scripted.{ScriptedSink, ScriptedSource}
use Rattle.workload_calls.proofs.Talking.{talked}
use Rattle.workload_calls.proofs.serving.talk.Goals as goal

pub returns-in-Ended : goal.returns-in-Ended
returns-in-Ended c =
    talked c.args.n c.args.store.now c.serve_owned.new.store c.new-source.result.stream
    c.serve_owned.new.source.stream
    c.in_ok-sink.sink.held c.serve_owned.new.sink.held c.in-Ended.ensures.session c.requires.empty
    (ap (λ (s : ScriptedSource). s.stream.left) c.new-source.ensures ∙ c.requires.stream)
    (ap (λ (s : ScriptedSink). s.held) c.in_ok-sink.ensures) c.requires.fits
