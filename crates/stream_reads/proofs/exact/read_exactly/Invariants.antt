use Rattle.std.proofs.Common.{◌-◌, ◌≤◌, length}
use Rattle.stream_reads.specs.Exact.{Grew}
use Rattle.stream_reads.proofs.exact.read_exactly.Given as goal

abbrev pub invariant-pieces : goal.invariant-pieces
invariant-pieces g l =
    Grew (g.S.Source.told l.initial.source) (g.S.Source.told l.source) l.initial.bytes.items
    l.bytes.items
    × (length l.bytes.items ≤ l.size)
    × (g.S.Source.faults l.initial.source ≤ g.S.Source.faults l.source)

abbrev pub decreases-pieces : goal.decreases-pieces
decreases-pieces g l = l.size - length l.bytes.items
