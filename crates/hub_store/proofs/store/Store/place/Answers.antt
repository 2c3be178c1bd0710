use Rattle.std.proofs.Common.{refl, ap, sym, ◌∙◌, arith}
use Rattle.omos_model.specs.Places.{place_for}
use Rattle.omos_model.specs.declared.placement.Place.TheVariants as place
use Rattle.place_book.proofs.Placing.{new_lawful}
use Rattle.place_book.proofs.Stays.{new_joins}
use Rattle.hub_store.proofs.Links.{ticket_room, book_room, after_placed, place_given}
use Rattle.hub_store.proofs.store.Store.place.Goals as goal

pub add-requires-clause-room : goal.add-requires-clause-room
add-requires-clause-room c =
    let ticket = rw (← c.self.view_is) at c.requires.ticket in
    omega (arith, book_room _ _ _ _ _ _ c.self.invariant.0 ticket, c.self.invariant.1)

pub add-requires-clause-apart : goal.add-requires-clause-apart
add-requires-clause-apart c = new_joins _ _ _ _ _ _ _ (sym c.in-New.ensures.place) refl refl

pub add-requires-clause-lawful : goal.add-requires-clause-lawful
add-requires-clause-lawful c =
    new_lawful _ _ c.pages-pages.result c.lo.result c.hi.result c.in-New.base _
    (sym c.in-New.ensures.place)
    (rw (c.lo.ensures.lo, c.hi.ensures.hi) c.lo.ensures.range)
    (rw c.pages-pages.ensures.pages c.pages-pages.ensures.some)
    (rw c.pages-pages.ensures.pages c.pages-pages.ensures.few) refl refl

pub push_placed-requires : goal.push_placed-requires
push_placed-requires c =
    let ticket = rw (← c.self.view_is) at c.requires.ticket in
    omega (arith, ticket_room _ _ _ _ _ _ c.self.invariant.0 ticket)

pub invariant_of-self : goal.invariant_of-self
invariant_of-self c =
    let ticket = rw (← c.self.view_is) at c.requires.ticket in
    let unplaced = rw (← c.self.view_is) at c.requires.unplaced in
    let planned = c.requires.planned in
    let new =
    sym (rw (c.path.ensures, c.pages-pages.ensures.pages, c.lo.ensures.lo, c.hi.ensures.hi) at
    c.in-New.ensures.place) in
    rw (
      c.push_placed.ensures.steps,
      c.push_placed.ensures.capacity,
      c.add.ensures.placements,
      c.add.ensures.capacity,
      c.copy.ensures,
      c.path-in-New.ensures,
      c.path-in-New-2.ensures,
      c.seat.ensures,
      c.number.ensures,
      c.pages-pages.ensures.pages,
    ) (
      after_placed _ _ _ _ _ _ _ _ c.self.invariant.0 ticket unplaced planned new,
      c.self.invariant.1,
      c.self.invariant.2,
    )

pub returns-in-New : goal.returns-in-New
returns-in-New c =
    let ticket = rw (← c.self.view_is) at c.requires.ticket in
    let new =
    sym (rw (c.path.ensures, c.pages-pages.ensures.pages, c.lo.ensures.lo, c.hi.ensures.hi) at
    c.in-New.ensures.place) in
    let at = ap
    (λ book. place_for book c.args.ticket.now.path c.args.planned.now.layout.pages
    c.args.planned.now.evaluated.lo c.args.planned.now.evaluated.hi)
    (sym c.self.invariant.0.told.book_is) ∙ new in
    let stands = rw c.pages-pages.ensures.pages at c.in-New.ensures.stands in
    rw (
      ← c.self.view_is,
      c.push_placed.ensures.steps,
      c.push_placed.ensures.capacity,
      c.path-in-New-2.ensures,
      c.seat.ensures,
      c.number.ensures,
      c.pages-pages.ensures.pages,
    )
    (place_given _ _ _ _ (place.New c.in-New.base) _ at refl refl ticket stands)
