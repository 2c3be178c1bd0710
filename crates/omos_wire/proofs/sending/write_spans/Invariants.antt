use Rattle.std.proofs.Common.{◌-◌, ◌^◌, ◌<◌, ◌≤◌, length, take}
use Rattle.std.specs.Io.KnownBytes.{Appends}
use Rattle.omos_wire.proofs.Parts.{bytes_of}
use Rattle.omos_wire.proofs.sending.write_spans.Given as goal

abbrev pub invariant-placements : goal.invariant-placements
invariant-placements g l =
    (l.done ≤ length l.placements)
    × Appends (g.K.Sink.held l.initial.sink) (g.K.Sink.held l.sink)
    (bytes_of (take l.done l.placements))
    × (g.K.Sink.faults l.initial.sink ≤ g.K.Sink.faults l.sink)
    × (g.K.Sink.faults l.initial.sink < 2 ^ 64 → g.K.Sink.faults l.sink < 2 ^ 64)

abbrev pub decreases-placements : goal.decreases-placements
decreases-placements g l = length l.placements - l.done
