use Rattle.omos_session.proofs.Making.{makes_no_room, makes_placed}
use Rattle.omos_session.proofs.linking.place.Goals as goal

pub returns-in-At-clause-made : goal.returns-in-At-clause-made
returns-in-At-clause-made g c =
    makes_placed _ _ _ c.args.ticket.now c.args.planned.now c.in-At.base _
    c.footprints_decide.ensures.own c.requires.seat c.requires.planned c.in-At.ensures.turn
    c.make_image.ensures.made

pub returns-in-NoRoom-clause-made : goal.returns-in-NoRoom-clause-made
returns-in-NoRoom-clause-made g c =
    makes_no_room _ _ _ c.args.ticket.now c.args.planned.now _ c.requires.seat c.requires.planned
    c.in-NoRoom.ensures.turn
    (rw (c.pages.ensures.pages, c.lo.ensures.lo, c.hi.ensures.hi) at c.refuse.ensures.refused)
