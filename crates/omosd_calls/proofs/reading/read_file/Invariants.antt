use Rattle.std.proofs.Common.{◌-◌, ◌≤◌, length}
use Rattle.omos_outside.specs.Stream.{Gives}
use Rattle.omosd_calls.proofs.reading.read_file.Given as goal

abbrev pub invariant-pieces : goal.invariant-pieces
invariant-pieces g l =
    (length l.file.items ≤ 1048577)
    × Gives (g.S.Source.told l.initial.source) (g.S.Source.told l.source) l.file.items
    × (g.S.Source.faults l.initial.source ≤ g.S.Source.faults l.source)

abbrev pub decreases-pieces : goal.decreases-pieces
decreases-pieces g l = 1048577 - length l.file.items
