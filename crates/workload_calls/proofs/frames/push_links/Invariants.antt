use Rattle.std.proofs.Common.{◌-◌, ◌≤◌}
use Rattle.std.specs.List.{flat_map}
use Rattle.omos_model.specs.Numbers.{numbers_from}
use Rattle.workload_calls.specs.Stream.{program_path, twice, AddsFrames}
use Rattle.workload_calls.proofs.frames.push_links.Given as goal

abbrev pub invariant-links : goal.invariant-links
invariant-links l =
    AddsFrames l.initial.stream l.stream
    (flat_map (λ i. twice (program_path i)) (numbers_from 1 (l.i - 1)))
    × (1 ≤ l.i) × (l.i - 1 ≤ l.n - 1)
