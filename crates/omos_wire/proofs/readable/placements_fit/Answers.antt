use Rattle.std.proofs.Common.{arith, map}
use Rattle.std.proofs.lemmas.List.{length-map}
use Rattle.omos_wire.proofs.Sizes.{readable_places}
use Rattle.omos_wire.proofs.readable.placements_fit.Goals as goal
use Rattle.omos_wire.specs.Answer.{wire_span}

pub returns : goal.returns
returns c =
    let ps = c.args.placements.now in
    readable_places (map wire_span ps) (omega (arith, c.requires, length-map ps wire_span))
    c.spans_fit.ensures
