use Rattle.omos_outside.proofs.Written.{wrote_after, part_front}
use Rattle.omos_wire.proofs.Parts.{places_frame}
use Rattle.omos_wire.proofs.sending.write_pieces.Goals as goal

pub returns-in-All-clause-wrote : goal.returns-in-All-clause-wrote
returns-in-All-clause-wrote g c =
    let head = rw (c.as_slice.ensures.value, c.places_head.ensures) at c.in-All.ensures.wrote in
    rw (places_frame c.args.placements.now)
    (wrote_after _ _ _ _ _ _ head c.write_spans.ensures.wrote)

pub returns-in-Failed-clause-wrote : goal.returns-in-Failed-clause-wrote
returns-in-Failed-clause-wrote g c =
    let head = rw (c.as_slice.ensures.value, c.places_head.ensures) at c.in-Failed.ensures.wrote in
    rw (places_frame c.args.placements.now) (part_front _ _ _ _ head)
