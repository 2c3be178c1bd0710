use Rattle.std.proofs.Common.{◌+◌, arith}
use Rattle.omos_model.specs.Numbers.{numbers_from}
use Rattle.workload_calls.specs.Stream.{put_object}
use Rattle.workload_calls.proofs.Adding.{adds_next, adds_to, below}
use Rattle.workload_calls.proofs.frames.push_objects.Goals as goal

pub objects-preserved : goal.objects-preserved
objects-preserved c =
    adds_next (put_object c.args.n) c.args.stream.now c.objects.stream c.push_object.new.stream
    (numbers_from 0 c.objects.i) (numbers_from 0 (c.objects.i + 1)) c.objects.i (below c.objects.i)
    c.objects.invariant c.in_ok-push_object.ensures

pub returns : goal.returns
returns c =
    adds_to (put_object c.args.n) c.args.stream.now c.objects.stream c.objects.i c.args.n
    (omega arith) c.objects.invariant
