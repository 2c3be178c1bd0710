use Rattle.std.proofs.Common.{◌≡◌, length, Option, None, Some, Ok, refl, ap, sym, ◌∙◌, arith, subst}
use Rattle.std.proofs.Common.{append_assoc}
use Rattle.std.proofs.lemmas.List.{length_push}
use Rattle.link_model.specs.Answer.{answer}
use Rattle.link_model.specs.Module.{LinkedImage}
use Rattle.image_cache.specs.Items.{CacheParts, leaving}
use Rattle.history_book.specs.Due.{storing}
use Rattle.history_book.specs.declared.step.Step.{Step}
use Rattle.history_book.specs.declared.step.Step.TheVariants.{Evicted, Stored}
use Rattle.hub_store.specs.Keeps.{facts}
use Rattle.hub_store.specs.Parts.{TicketParts}
use Rattle.hub_store.proofs.Links.{ticket_room, room_answered, facts_apart}
use Rattle.hub_store.proofs.Ended.{image_may_end, after_unstored, unstored_ending}
use Rattle.hub_store.proofs.IntoCache.{after_stored, stored_ending, after_evicting, evicting_ending}
use Rattle.hub_store.proofs.Storing.{as_new_told, storing_by, storing_none}
use Rattle.hub_store.proofs.store.Store.answer.Goals as goal

-- the step that is due in this cache, once the ticket's image is answered
abbrev due_in : CacheParts → TicketParts → Option Step
due_in cache t = storing cache.capacity (facts cache.items) t.seat t.number t.path t.version

unstored : (c : goal.After-drop-image-inside)
    → due_in c.self.inside.cache c.args.ticket.now
    ≡ None
unstored c =
    let new =
    rw (c.path.ensures, c.version-version.ensures) at
    (as_new_told _ _ _ (facts_apart _ _ _ _ c.self.invariant.0.told)
    ∙ sym c.if-has_as_new.ensures) in
    storing_none c.self.inside.cache.capacity c.self.inside.cache.items c.args.ticket.now.seat
    c.args.ticket.now.number c.args.ticket.now.path c.args.ticket.now.version new

due_evicted : (c : goal.After-push_stored)
    → due_in c.self.inside.cache c.args.ticket.now
    ≡ Some (Evicted c.args.ticket.now.seat c.args.ticket.now.number c.in-Some.path)
due_evicted c =
    let image = rw (← c.self.view_is) at c.requires.image in
    let new =
    rw (c.path.ensures, c.version-version.ensures) at
    (as_new_told _ _ _ (facts_apart _ _ _ _ c.self.invariant.0.told)
    ∙ sym c.if-has_as_new.ensures) in
    let gone = ap (leaving c.self.inside.cache) (sym image.1.path)
    ∙ sym c.in-Some.ensures.leaving in
    storing_by c.self.inside.cache c.args.ticket.now (Some c.in-Some.path) c.in-Some.ensures.some new gone

due_stored : (c : goal.After-push_stored-2)
    → due_in c.self.inside.cache c.args.ticket.now
    ≡ Some (Stored c.args.ticket.now.seat c.args.ticket.now.number c.args.ticket.now.path
    c.args.ticket.now.version)
due_stored c =
    let image = rw (← c.self.view_is) at c.requires.image in
    let new =
    rw (c.path.ensures, c.version-version.ensures) at
    (as_new_told _ _ _ (facts_apart _ _ _ _ c.self.invariant.0.told)
    ∙ sym c.if-has_as_new.ensures) in
    let gone = ap (leaving c.self.inside.cache) (sym image.1.path)
    ∙ sym c.in_default.ensures.leaving in
    storing_by c.self.inside.cache c.args.ticket.now None c.in_default.ensures.some new gone

pub push_answered-requires : goal.push_answered-requires
push_answered-requires c =
    let ticket = rw (← c.self.view_is) at c.requires.ticket in
    omega (arith, ticket_room _ _ _ _ _ _ c.self.invariant.0 ticket)

pub invariant_of-self : goal.invariant_of-self
invariant_of-self c =
    let ticket = rw (← c.self.view_is) at c.requires.ticket in
    let image = rw (← c.self.view_is) at c.requires.image in
    let base = c.base.ensures.base ∙ ap (λ (l : LinkedImage). l.base) c.get-2.ensures in
    let is = subst (λ (l : LinkedImage). answer l.footprint l.path l.base ≡ Ok l.bytes)
    c.get.ensures c.is_answer.ensures in
    let may = image_may_end _ _ c.args.image image.0 ticket image.1 is in
    rw (
      c.push_answered.ensures.steps,
      c.push_answered.ensures.capacity,
      c.seat-seat.ensures,
      c.number-number.ensures,
      base,
    ) (
      after_unstored _ _ _ _ _ _ _ c.self.invariant.0 ticket may
          (unstored c),
      c.self.invariant.1,
      c.self.invariant.2,
    )

pub returns-then-has_as_new : goal.returns-then-has_as_new
returns-then-has_as_new c =
    let ticket = rw (← c.self.view_is) at c.requires.ticket in
    let image = rw (← c.self.view_is) at c.requires.image in
    let base = c.base.ensures.base ∙ ap (λ (l : LinkedImage). l.base) c.get-2.ensures in
    rw (
      ← c.self.view_is,
      c.push_answered.ensures.steps,
      c.push_answered.ensures.capacity,
      c.seat-seat.ensures,
      c.number-number.ensures,
      base,
      unstored_ending _ _ _ _ _ _ c.args.image.base c.self.invariant.0 ticket
          (unstored c),
    ) refl

pub push_evicted-requires : goal.push_evicted-requires
push_evicted-requires c =
    let ticket = rw (← c.self.view_is) at c.requires.ticket in
    omega (
      arith,
      room_answered _ _ _ _ _ _ _ _ _ c.self.invariant.0 ticket c.push_answered.ensures.steps
          c.push_answered.ensures.capacity,
    )

pub push_stored-requires : goal.push_stored-requires
push_stored-requires c =
    let ticket = rw (← c.self.view_is) at c.requires.ticket in
    omega (
      arith,
      room_answered _ _ _ _ _ _ _ _ _ c.self.invariant.0 ticket c.push_answered.ensures.steps
          c.push_answered.ensures.capacity,
      ap length c.push_evicted.ensures.steps,
      length_push c.push_answered.new.self.steps,
      c.push_evicted.ensures.capacity,
    )

pub invariant_of-self-in-Some : goal.invariant_of-self-in-Some
invariant_of-self-in-Some c =
    let ticket = rw (← c.self.view_is) at c.requires.ticket in
    let image = rw (← c.self.view_is) at c.requires.image in
    let base = c.base.ensures.base ∙ ap (λ (l : LinkedImage). l.base) c.get-2.ensures in
    let is = subst (λ (l : LinkedImage). answer l.footprint l.path l.base ≡ Ok l.bytes)
    c.get.ensures c.is_answer.ensures in
    let may = image_may_end _ _ c.args.image image.0 ticket image.1 is in
    rw (
      c.push_stored.ensures.steps,
      c.push_stored.ensures.capacity,
      c.push_evicted.ensures.steps,
      c.push_evicted.ensures.capacity,
      c.push_answered.ensures.steps,
      c.push_answered.ensures.capacity,
      c.in-Some.ensures.capacity,
      c.in-Some.ensures.items,
      c.path-in-Some.ensures,
      c.seat-seat.ensures,
      c.number-number.ensures,
      c.version-version.ensures,
      base,
    ) (
      after_evicting _ _ _ _ _ _ c.args.image image.0 c.in-Some.path c.self.invariant.0 ticket
          image.1 may (due_evicted c),
      c.self.invariant.1,
      c.self.invariant.2,
    )

pub returns-in-Some : goal.returns-in-Some
returns-in-Some c =
    let ticket = rw (← c.self.view_is) at c.requires.ticket in
    let image = rw (← c.self.view_is) at c.requires.image in
    let base = c.base.ensures.base ∙ ap (λ (l : LinkedImage). l.base) c.get-2.ensures in
    rw (
      ← c.self.view_is,
      c.push_stored.ensures.steps,
      c.push_stored.ensures.capacity,
      c.push_evicted.ensures.steps,
      c.push_evicted.ensures.capacity,
      c.push_answered.ensures.steps,
      c.push_answered.ensures.capacity,
      c.in-Some.ensures.capacity,
      c.path-in-Some.ensures,
      c.seat-seat.ensures,
      c.number-number.ensures,
      c.version-version.ensures,
      base,
      evicting_ending _ _ _ _ _ _ c.args.image.base c.in-Some.path c.self.invariant.0 ticket
          (due_evicted c),
      append_assoc,
      append_assoc,
    ) refl

pub push_stored-requires-2 : goal.push_stored-requires-2
push_stored-requires-2 c =
    let ticket = rw (← c.self.view_is) at c.requires.ticket in
    omega (
      arith,
      room_answered _ _ _ _ _ _ _ _ _ c.self.invariant.0 ticket c.push_answered.ensures.steps
          c.push_answered.ensures.capacity,
    )

pub invariant_of-self-2 : goal.invariant_of-self-2
invariant_of-self-2 c =
    let ticket = rw (← c.self.view_is) at c.requires.ticket in
    let image = rw (← c.self.view_is) at c.requires.image in
    let base = c.base.ensures.base ∙ ap (λ (l : LinkedImage). l.base) c.get-2.ensures in
    let is = subst (λ (l : LinkedImage). answer l.footprint l.path l.base ≡ Ok l.bytes)
    c.get.ensures c.is_answer.ensures in
    let may = image_may_end _ _ c.args.image image.0 ticket image.1 is in
    rw (
      c.push_stored-2.ensures.steps,
      c.push_stored-2.ensures.capacity,
      c.push_answered.ensures.steps,
      c.push_answered.ensures.capacity,
      c.in_default.ensures.capacity,
      c.in_default.ensures.items,
      c.path-2.ensures,
      c.seat-seat.ensures,
      c.number-number.ensures,
      c.version-version.ensures,
      base,
    ) (
      after_stored _ _ _ _ _ _ c.args.image image.0 c.self.invariant.0 ticket image.1 may (due_stored c),
      c.self.invariant.1,
      c.self.invariant.2,
    )

pub returns : goal.returns
returns c =
    let ticket = rw (← c.self.view_is) at c.requires.ticket in
    let image = rw (← c.self.view_is) at c.requires.image in
    let base = c.base.ensures.base ∙ ap (λ (l : LinkedImage). l.base) c.get-2.ensures in
    rw (
      ← c.self.view_is,
      c.push_stored-2.ensures.steps,
      c.push_stored-2.ensures.capacity,
      c.push_answered.ensures.steps,
      c.push_answered.ensures.capacity,
      c.in_default.ensures.capacity,
      c.path-2.ensures,
      c.seat-seat.ensures,
      c.number-number.ensures,
      c.version-version.ensures,
      base,
      stored_ending _ _ _ _ _ _ c.args.image.base c.self.invariant.0 ticket (due_stored c),
      append_assoc,
    ) refl
