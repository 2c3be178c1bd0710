use Rattle.omos_wire.proofs.Parts.{places_joined}
use Rattle.omos_wire.proofs.joining.join_places.Goals as goal

pub returns : goal.returns
returns c = λ _.
    places_joined c.args.placements.now c.loop-placement.placement-index _
    c.loop-placement-test.false
    c.loop-placement.invariant
