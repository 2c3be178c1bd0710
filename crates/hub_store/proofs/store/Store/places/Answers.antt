use Rattle.std.proofs.Common.{rules, refl, ap, ◌∙◌}
use Rattle.omos_model.specs.Places.{is_of}
use Rattle.std.specs.Prelude.{filter}
use Rattle.hub_store.proofs.Requests.{after_missed, after_looked}
use Rattle.hub_store.proofs.store.Store.places.Goals as goal

pub invariant_of-self : goal.invariant_of-self
invariant_of-self c =
    let room = c.if-not-room.ensures.0 (search rules) in
    rw (c.push_missed.ensures.steps, c.push_missed.ensures.capacity, c.tally-number.ensures.value)
    (after_missed _ _ _ _ _ _ c.self.invariant.0 room, c.self.invariant.1, c.self.invariant.2)

pub invariant_of-self-2 : goal.invariant_of-self-2
invariant_of-self-2 c =
    let room = c.if-not-room.ensures.0 (search rules) in
    rw (c.push_places.ensures.steps, c.push_places.ensures.capacity, c.tally-number.ensures.value)
    (after_looked _ _ _ _ _ _ _ c.self.invariant.0 room, c.self.invariant.1, c.self.invariant.2)

pub returns : goal.returns
returns c =
    let room = c.if-not-room.ensures.0 (search rules) in
    let found = c.in-Ok.ensures
    ∙ ap (filter (is_of c.args.path.now)) c.self.invariant.0.told.book_is in
    rw (
      ← c.self.view_is,
      c.push_places.ensures.steps,
      c.push_places.ensures.capacity,
      c.tally-number.ensures.value,
    )
    (room, found, refl)
