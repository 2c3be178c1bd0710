use Rattle.std.proofs.Common.{map}
use Rattle.omos_model.specs.Numbers.{numbers_from}
use Rattle.workload_calls.specs.Stream.{put_object, AddsFrames}
use Rattle.workload_calls.proofs.frames.push_objects.Given as goal

abbrev pub invariant-objects : goal.invariant-objects
invariant-objects l =
    AddsFrames l.initial.stream l.stream (map (put_object l.n) (numbers_from 0 l.i))
