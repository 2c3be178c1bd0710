use Rattle.std.proofs.Common.{map, take}
use Rattle.std.specs.List.{AllByRecursion}
use Rattle.omos_wire.proofs.readable.spans_fit.Given as goal
use Rattle.omos_wire.specs.Answer.{IsCodedSpan, wire_span}

abbrev pub invariant-placements : goal.invariant-placements
invariant-placements l =
    AllByRecursion IsCodedSpan (map wire_span (take l.placement-index l.placements))
