use Rattle.std.proofs.Common.{refl, arith}
use Rattle.hub_store.proofs.Links.{ticket_room}
use Rattle.hub_store.proofs.Ended.{after_plain, plain_ending}
use Rattle.hub_store.proofs.store.Store.note.Goals as goal

pub push_answered-requires : goal.push_answered-requires
push_answered-requires c =
    let ticket = rw (← c.self.view_is) at c.requires.ticket in
    omega (arith, ticket_room _ _ _ _ _ _ c.self.invariant.0 ticket)

pub invariant_of-self : goal.invariant_of-self
invariant_of-self c =
    let ticket = rw (← c.self.view_is) at c.requires.ticket in
    let may = rw (← c.self.view_is) at c.requires.may in
    rw (
      c.push_answered.ensures.steps,
      c.push_answered.ensures.capacity,
      c.seat.ensures,
      c.number.ensures,
    ) (
      after_plain _ _ _ _ _ _ _ c.self.invariant.0 ticket may c.requires.plain,
      c.self.invariant.1,
      c.self.invariant.2,
    )

pub returns : goal.returns
returns c =
    rw (plain_ending c.args.self.now.limits.cache c.args.self.now.steps c.args.ticket.now
    c.args.note c.requires.plain)
    (rw (
      ← c.self.view_is,
      c.push_answered.ensures.steps,
      c.push_answered.ensures.capacity,
      c.seat.ensures,
      c.number.ensures,
    ) refl)
