use Rattle.std.proofs.Common.{◌-◌, ◌≤◌, map}
use Rattle.omos_model.specs.Numbers.{numbers_from}
use Rattle.workload_calls.specs.Stream.{put_program, AddsFrames}
use Rattle.workload_calls.proofs.frames.push_programs.Given as goal

abbrev pub invariant-programs : goal.invariant-programs
invariant-programs l =
    AddsFrames l.initial.stream l.stream (map put_program (numbers_from 1 (l.i - 1))) × (1 ≤ l.i)
    × (l.i - 1 ≤ l.n - 1)
