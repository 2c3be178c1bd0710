use Rattle.std.proofs.Common.{rules, refl, arith}
use Rattle.hub_store.proofs.Requests.{after_put}
use Rattle.hub_store.proofs.store.Store.put.Goals as goal

pub overflow_add-tally : goal.overflow_add-tally
overflow_add-tally c =
    omega (
      arith,
      c.tally-tally.ensures.small.kept,
      c.tally-tally.ensures.within,
      c.tally-tally.ensures.few,
      c.ready.invariant,
      c.from.ensures,
    )

pub overflow_add-result : goal.overflow_add-result
overflow_add-result c =
    omega (
      arith,
      c.tally-tally.ensures.small.version,
      c.tally-tally.ensures.within,
      c.tally-tally.ensures.few,
    )

pub invariant_of-self : goal.invariant_of-self
invariant_of-self c =
    let room = c.if-not-room.ensures.0 (search rules) in
    let few =
    rw (c.tally-tally.ensures.value, c.from.ensures) at c.if-tally-from-gt-MAX_KEPT.false in
    let space = rw (← c.ready.view_is, ← c.self.view_is) at c.requires in
    rw (c.push_put.ensures.steps, c.push_put.ensures.capacity, c.tally-tally.ensures.value, space) (
      after_put _ _ _ _ _ _ _ _ _ c.self.invariant.0 room few,
      c.self.invariant.1,
      c.self.invariant.2,
    )

pub returns : goal.returns
returns c =
    let room = c.if-not-room.ensures.0 (search rules) in
    let few =
    rw (c.tally-tally.ensures.value, c.from.ensures) at c.if-tally-from-gt-MAX_KEPT.false in
    rw (
      ← c.self.view_is,
      ← c.ready.view_is,
      c.push_put.ensures.steps,
      c.push_put.ensures.capacity,
      c.tally-tally.ensures.value,
    )
    (room, (λ much. omega arith), refl, refl)
