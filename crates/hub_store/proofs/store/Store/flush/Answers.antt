use Rattle.std.proofs.Common.{rules, refl, sym, ◌∙◌, append_assoc}
use Rattle.image_cache.proofs.Items.{unheld}
use Rattle.hub_store.proofs.Requests.{after_unheld, after_held, held_told}
use Rattle.hub_store.proofs.store.Store.flush.Goals as goal

pub invariant_of-self : goal.invariant_of-self
invariant_of-self c =
    let room = c.if-not-room.ensures.0 (search rules) in
    let un = c.if-not-held.ensures.held in
    let not_held = c.flush-held.ensures.held ∙ sym un in
    let told = un ∙ held_told _ _ _ _ _ c.self.invariant.0.told in
    rw (
      c.push_flushed.ensures.steps,
      c.push_flushed.ensures.capacity,
      c.flush-held.ensures.capacity,
      c.tally-number.ensures.value,
      not_held,
      c.flush-held.ensures.items,
      unheld c.args.path.now c.self.inside.cache.items (sym un),
    ) (
      after_unheld _ _ _ _ _ _ _ c.self.invariant.0 room told,
      c.self.invariant.1,
      c.self.invariant.2,
    )

pub returns-then-not-held : goal.returns-then-not-held
returns-then-not-held c =
    let room = c.if-not-room.ensures.0 (search rules) in
    let un = c.if-not-held.ensures.held in
    let not_held = c.flush-held.ensures.held ∙ sym un in
    let told = un ∙ held_told _ _ _ _ _ c.self.invariant.0.told in
    rw (
      ← c.self.view_is,
      c.push_flushed.ensures.steps,
      c.push_flushed.ensures.capacity,
      c.flush-held.ensures.capacity,
      c.tally-number.ensures.value,
      not_held,
    )
    (room, told, refl)

pub invariant_of-self-2 : goal.invariant_of-self-2
invariant_of-self-2 c =
    let room = c.if-not-room.ensures.0 (search rules) in
    let is = c.if-not-held.ensures.held in
    let held = c.flush-held.ensures.held ∙ sym is in
    let told = is ∙ held_told _ _ _ _ _ c.self.invariant.0.told in
    rw (
      c.push_evicted.ensures.steps,
      c.push_evicted.ensures.capacity,
      c.push_flushed.ensures.steps,
      c.push_flushed.ensures.capacity,
      c.flush-held.ensures.capacity,
      c.tally-number.ensures.value,
      held,
      c.flush-held.ensures.items,
    )
    (after_held _ _ _ _ _ _ _ c.self.invariant.0 room told, c.self.invariant.1, c.self.invariant.2)

pub returns : goal.returns
returns c =
    let room = c.if-not-room.ensures.0 (search rules) in
    let is = c.if-not-held.ensures.held in
    let held = c.flush-held.ensures.held ∙ sym is in
    let told = is ∙ held_told _ _ _ _ _ c.self.invariant.0.told in
    rw (
      ← c.self.view_is,
      c.push_evicted.ensures.steps,
      c.push_evicted.ensures.capacity,
      c.push_flushed.ensures.steps,
      c.push_flushed.ensures.capacity,
      c.flush-held.ensures.capacity,
      c.tally-number.ensures.value,
      held,
      append_assoc,
    )
    (room, told, refl)
