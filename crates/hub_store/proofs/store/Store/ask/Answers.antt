use Rattle.std.proofs.Common.{false, rules, ◌≡◌, ◌∷◌, length}
use Rattle.std.proofs.Common.{Ok, refl, ap, sym, ◌∙◌, subst, append_assoc}
use Rattle.std.specs.List.{remove}
use Rattle.omos_model.proofs.Names.{same_name-true}
use Rattle.link_model.specs.Answer.{answer}
use Rattle.link_model.specs.Module.{LinkedImage}
use Rattle.image_cache.specs.Items.{as_found, path_of}
use Rattle.image_cache.specs.declared.item.Item.{Item}
use Rattle.history_book.specs.Told.{namespace_after}
use Rattle.hub_store.proofs.Facts.{same_item}
use Rattle.hub_store.proofs.Kept.{all_known}
use Rattle.hub_store.proofs.Links.{IsFoundAt, found_at, hit_told, after_hit, found_answers}
use Rattle.hub_store.proofs.Requests.{after_missed, after_asked}
use Rattle.hub_store.proofs.Tickets.{ticket_now, unplaced_now}
use Rattle.hub_store.proofs.store.Store.ask.Goals as goal

pub find-requires : goal.find-requires
find-requires c =
    rw c.published.ensures
    (all_known c.self.inside.history.steps _ _ c.self.invariant.0.told.space_is
    c.self.invariant.0.told.kept)

pub invariant_of-self : goal.invariant_of-self
invariant_of-self c =
    let room = c.if-not-room.ensures.0 (search rules) in
    rw (c.push_missed.ensures.steps, c.push_missed.ensures.capacity, c.tally-tally.ensures.value)
    (after_missed _ _ _ _ _ _ c.self.invariant.0 room, c.self.invariant.1, c.self.invariant.2)

pub invariant_of-self-in_default : goal.invariant_of-self-in_default
invariant_of-self-in_default c =
    let room = c.if-not-room.ensures.0 (search rules) in
    let miss = sym c.in_default.ensures ∙ hit_told _ _ _ _ _ c.self.invariant.0.told in
    rw (c.push_asked.ensures.steps, c.push_asked.ensures.capacity, c.tally-tally.ensures.value)
    (after_asked _ _ _ _ _ _ _ c.self.invariant.0 room miss, c.self.invariant.1, c.self.invariant.2)

pub returns-in_default : goal.returns-in_default
returns-in_default c =
    let room = c.if-not-room.ensures.0 (search rules) in
    let told = c.self.invariant.0.told in
    let placed = c.len-placed.ensures.value ∙ ap length told.book_is in
    rw (
      ← c.self.view_is,
      c.in-Ok.ensures,
      told.space_is,
      placed,
      c.push_asked.ensures.steps,
      c.push_asked.ensures.capacity,
      c.tally-tally.ensures.value,
    ) (
      room,
      refl,
      ticket_now _ c.args.seat c.args.path.now told.numbered,
      unplaced_now _ c.args.seat c.args.path.now _ false told.numbered,
      refl,
    )

pub invariant_of-self-in_default-twin : goal.invariant_of-self-in_default-twin
invariant_of-self-in_default-twin c =
    let room = c.if-not-room.ensures.0 (search rules) in
    rw (
      c.push_missed-in_default-twin.ensures.steps,
      c.push_missed-in_default-twin.ensures.capacity,
      c.tally-tally.ensures.value,
    )
    (after_missed _ _ _ _ _ _ c.self.invariant.0 room, c.self.invariant.1, c.self.invariant.2)

pub returns-in_default-twin : goal.returns-in_default-twin
returns-in_default-twin c =
    let room = c.if-not-room.ensures.0 (search rules) in
    rw (
      ← c.self.view_is,
      c.push_missed-in_default-twin.ensures.steps,
      c.push_missed-in_default-twin.ensures.capacity,
      c.tally-tally.ensures.value,
    )
    (room, refl)

-- the item that was found
found : (c : goal.After-touch)
    → IsFoundAt c.self.inside.snap.entries c.self.inside.cache.items c.args.path.now
    c.in-Some.position c.at.result.now
found c =
    let i = c.at.result.now in
    found_at c.self.inside.snap.entries c.self.inside.cache.items c.args.path.now
    c.in-Some.position i c.in-Some.ensures.0 c.at.ensures (c.in-Some.ensures.1 i c.at.ensures)

pub invariant_of-self-2 : goal.invariant_of-self-2
invariant_of-self-2 c =
    let room = c.if-not-room.ensures.0 (search rules) in
    let items = c.self.inside.cache.items in
    let i = c.at.result.now in
    let touched = c.touch.ensures.items in
    let same =
    same_item items c.in-Some.position i touched.0 c.in-Some.ensures.0 c.at.ensures touched.1 in
    let left =
    touched.2
    ∙ ap (λ (j : Item). as_found c.tally-tally.result.version j
    ∷ remove items c.in-Some.position) same in
    let base = c.base.ensures.base
    ∙ ap (λ (l : LinkedImage). l.base) (c.get-2.ensures ∙ c.in-Ok-twin.ensures) in
    rw (
      c.push_answered.ensures.steps,
      c.push_answered.ensures.capacity,
      c.push_asked-2.ensures.steps,
      c.push_asked-2.ensures.capacity,
      c.touch.ensures.capacity,
      left,
      base,
      c.tally-tally.ensures.value,
    ) (
      after_hit _ _ _ _ _ c.args.seat _ _ _ c.self.invariant.0 room (found c),
      c.self.invariant.1,
      c.self.invariant.2,
    )

pub returns : goal.returns
returns c =
    let room = c.if-not-room.ensures.0 (search rules) in
    let items = c.self.inside.cache.items in
    let i = c.at.result.now in
    let image = c.get.ensures ∙ c.in-Ok-twin.ensures in
    let bytes =
    subst (λ (l : LinkedImage). answer l.footprint l.path l.base ≡ Ok l.bytes) image
    c.is_answer.ensures in
    let answers =
    found_answers _ _ _ items c.args.path.now c.in-Some.position i _ c.self.invariant.0.told
    (found c) bytes in
    let base = c.base.ensures.base ∙ ap (λ (l : LinkedImage). l.base) c.get-2.ensures in
    let path = ap (λ (l : LinkedImage). l.path) c.in-Ok-twin.ensures
    ∙ sym (same_name-true c.args.path.now (path_of i) (found c).of_path) in
    rw (
      ← c.self.view_is,
      c.push_answered.ensures.steps,
      c.push_answered.ensures.capacity,
      c.push_asked-2.ensures.steps,
      c.push_asked-2.ensures.capacity,
      c.touch.ensures.capacity,
      base,
      c.tally-tally.ensures.value,
      append_assoc,
    ) (
      room,
      refl,
      path,
      subst (λ (l : LinkedImage). answer (namespace_after c.self.inside.history.steps)
          c.args.path.now l.base ≡ Ok l.bytes) (sym c.in-Ok-twin.ensures) answers,
      refl,
    )
