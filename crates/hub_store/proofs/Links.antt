-- A store keeps what it is, from a link request to its image's place.
use Rattle.std.proofs.Common.{◌≡◌, ℕ, ◌+◌, ◌<◌, ◌≤◌, true, false, ◌&&◌}
use Rattle.std.proofs.Common.{List, [], ◌∷◌, ◌++◌, length, get_or, refl, ap, sym, ◌∙◌, subst, arith}
use Rattle.std.proofs.Common.{Some, Ok, append-nil}
use Rattle.std.specs.List.{All, list_any, remove}
use Rattle.std.specs.Option.{option_map}
use Rattle.std.proofs.lemmas.Bool.{and_parts}
use Rattle.std.proofs.lemmas.List.{length_push}
use Rattle.std.proofs.lemmas.List.Elements.{All-cons, All-get_or}
use Rattle.std.proofs.lemmas.List.Folds.{list_any_at}
use Rattle.omos_base.specs.Limits.{Counts as Limits}
use Rattle.omos_model.specs.Names.{Name}
use Rattle.omos_model.specs.Namespace.{Space}
use Rattle.omos_model.proofs.Names.{same_name-true}
use Rattle.link_model.specs.Answer.{answer}
use Rattle.link_model.specs.Module.{Ready}
use Rattle.link_model.specs.Plan.{Plan, plan_of}
use Rattle.omos_model.specs.Places.{place_for, Stands}
use Rattle.omos_model.specs.declared.placement.Place.{Place}
use Rattle.omos_model.specs.declared.placement.Place.TheVariants as place
use Rattle.omos_model.specs.declared.placement.Placement.{Placement}
use Rattle.place_book.proofs.Stays.{new_is_held}
use Rattle.image_cache.specs.Items as held
use Rattle.image_cache.specs.declared.item.Item.{Item}
use Rattle.history_book.specs.Steps.{Ask}
use Rattle.history_book.specs.Told.{requests, version_after, namespace_in, namespace_after, book_of}
use Rattle.history_book.specs.Told.{ask_of, is_placed, IsOpen}
use Rattle.history_book.specs.Room.{HasRoom}
use Rattle.history_book.specs.Owed.{IsNumbered}
use Rattle.history_book.specs.Cache.{CacheItem, cache_after, item_of, is_hit, is_current}
use Rattle.history_book.specs.Cache.{is_cached_as}
use Rattle.history_book.specs.Due.{storing_for}
use Rattle.history_book.specs.Legal.{HasPlace}
use Rattle.history_book.specs.declared.step.Note.TheVariants.{Image}
use Rattle.history_book.specs.declared.step.Step.{Step}
use Rattle.history_book.specs.declared.step.Step.TheVariants.{Asked, Placed}
use Rattle.history_book.specs.declared.step.Step.TheVariants.{Answered}
use Rattle.history_book.proofs.Grow.{cache_push, namespace_same, book_push}
use Rattle.history_book.proofs.Grow.{version_same}
use Rattle.history_book.proofs.Legality.{due_push, due_push_two, legal_push, legal_push_two}
use Rattle.history_book.proofs.Numbers.{asked_below, ask_now, ask_stays, fresh_ask, fresh_answer}
use Rattle.history_book.proofs.Numbered.{answered_same, numbered_other, numbered_ask}
use Rattle.history_book.proofs.Numbered.{numbered_answer}
use Rattle.history_book.proofs.Rooms.{request_fits, answered_fits, placed_fits}
use Rattle.history_book.proofs.Rooms.{room_to_answer}
use Rattle.history_book.proofs.Caches.{AreApart, caches_are_apart, front_item}
use Rattle.hub_store.specs.Keeps.{IsStore, AreTold, fact_of, facts, IsKeptItem}
use Rattle.hub_store.specs.Parts.{StoreParts, Appended, TicketParts, IsTicket, asking_of}
use Rattle.hub_store.specs.Links.{IsPlanFor, place_then}
use Rattle.hub_store.specs.Links.{place_reply, placing, MayLink, PlaceGives, place_for_ticket}
use Rattle.hub_store.specs.declared.reply.PlaceReply.{PlaceReply}
use Rattle.hub_store.proofs.Facts.{any_fact, touched, item_at_place}
use Rattle.hub_store.proofs.Facts.{All-removed}
use Rattle.hub_store.proofs.Kept.{all_kept, hit_answers}
use Rattle.hub_store.proofs.Requests.{plain_push, told_push, below_same, request, book_le}
use Rattle.hub_store.proofs.Tickets.{ticket_stays}

pub facts_apart : (P : List Step) (space : Space) (book : List Placement) (items : List Item)
    → AreTold P space book items
    → AreApart (facts items)
facts_apart P space book items t = subst AreApart (sym t.cache_is) (caches_are_apart P)

-- ---- what is found in the cache

-- whether there is a hit, as the record says it
pub hit_told : (P : List Step) (space : Space) (book : List Placement) (items : List Item)
    (path : Name)
    → AreTold P space book items
    → list_any (λ i. held.is_at path i && held.is_fresh space i) items
    ≡ is_hit (namespace_after P) (cache_after P) path
hit_told P space book items path t =
    ap (λ ns. list_any (λ i. held.is_at path i && held.is_fresh ns i) items) t.space_is
    ∙ sym (any_fact (λ i. is_cached_as path i && is_current (namespace_after P) i) items)
    ∙ ap (λ is. is_hit (namespace_after P) is path) t.cache_is

pub record IsFoundAt (space : Space) (items : List Item) (path : Name) (n : ℕ)
    (i : Item) : Type 0 where
  pub within : n < length items
  pub here : i ≡ get_or items n i
  pub of_path : held.is_at path i ≡ true
  pub current : held.is_fresh space i ≡ true

pub found_at : (space : Space) (items : List Item) (path : Name) (n : ℕ) (i : Item)
    → n < length items
    → i ≡ get_or items n i → (held.is_at path i && held.is_fresh space i) ≡ true
    → IsFoundAt space items path n i
found_at space items path n i l e t =
    let h = and_parts (held.is_at path i) (held.is_fresh space i) t in
    record { within = l; here = e; of_path = h.0; current = h.1 }

kept_at : (P : List Step) (items : List Item) (n : ℕ) (i : Item) → All (IsKeptItem P) items
    → n < length items
    → i ≡ get_or items n i → IsKeptItem P i
kept_at P items n i all l e =
    subst (IsKeptItem P) (sym e) (All-get_or (IsKeptItem P) items n i l all)

-- the item that was found is kept as one that is current now
found_kept : (P : List Step) (i : Item) → IsKeptItem P i
    → held.is_fresh (namespace_after P) i ≡ true
    → IsKeptItem P (held.as_found (version_after P) i)
found_kept P i k e = record { read = k.read; asked = k.asked; current = e; found = omega arith }

pub found_answers : (P : List Step) (space : Space) (book : List Placement) (items : List Item)
    (path : Name) (n : ℕ)
    (i : Item) (bytes : List ℕ) → AreTold P space book items → IsFoundAt space items path n i
    → answer i.image.footprint i.image.path i.image.base ≡ Ok bytes
    → answer (namespace_after P) path i.image.base ≡ Ok bytes
found_answers P space book items path n i bytes t f e =
    hit_answers P i path bytes (kept_at P items n i t.kept f.within f.here)
    (ap (λ ns. held.is_fresh ns i) (sym t.space_is) ∙ f.current)
    (same_name-true path (held.path_of i) f.of_path) e

pub after_hit : (limits : Limits) (P : List Step) (space : Space) (book : List Placement)
    (items : List Item) (seat : ℕ)
    (path : Name) (n : ℕ) (i : Item) → IsStore limits P space book items → HasRoom limits.steps P
    → IsFoundAt space items path n i
    → IsStore limits
    ((P ++ Asked seat (requests P) path (version_after P) true ∷ [])
    ++ Answered seat (requests P) (Image i.image.base) ∷ [])
    space book (held.as_found (version_after P) i ∷ remove items n)
after_hit limits P space book items seat path n i st room f =
    let m : ℕ = requests P in
    let s : Step = Asked seat m path (version_after P) true in
    let a : Step = Answered seat m (Image i.image.base) in
    let ask : Ask =
    record { seat = seat; number = m; path = path; version = version_after P; hit = true } in
    let below = st.told.numbered.below in
    let asked : ask_of (P ++ s ∷ []) m ≡ Some ask =
    ask_now P seat m path (version_after P) true (fresh_ask P m below) in
    let waiting : IsOpen (P ++ s ∷ []) ask =
    record { asked = asked; waits = answered_same P s refl m ∙ fresh_answer P m below } in
    let apart = facts_apart P space book items st.told in
    let now = ap (λ ns. held.is_fresh ns i) (sym st.told.space_is) ∙ f.current in
    let hit : true ≡ is_hit (namespace_after P) (cache_after P) path =
    sym (list_any_at (λ (j : Item). held.is_at path j && held.is_fresh space j) items n i f.within
    (ap (λ (j : Item). held.is_at path j && held.is_fresh space j) (sym f.here)
    ∙ ap (λ b. b && held.is_fresh space i) f.of_path ∙ f.current))
    ∙ hit_told P space book items path st.told in
    let there : item_of path (cache_after P) ≡ Some (fact_of i) =
    ap (item_of path) (sym st.told.cache_is)
    ∙ item_at_place path items n i apart f.within f.here f.of_path in
    let front : item_of path (cache_after (P ++ s ∷ [])) ≡ Some (fact_of i) =
    ap (item_of path) (cache_push P s) ∙ front_item path (cache_after P) (fact_of i) there in
    let first = numbered_ask P seat path (version_after P) true st.told.numbered in
    let left : List Item = held.as_found (version_after P) i ∷ remove items n in
    let kept : All (IsKeptItem P) left =
    All-cons (IsKeptItem P) (held.as_found (version_after P) i) (remove items n)
    (found_kept P i (kept_at P items n i st.told.kept f.within f.here) now)
    (All-removed (IsKeptItem P) items n st.told.kept) in
    let told : AreTold (P ++ s ∷ []) space book left =
    plain_push P space book items left s st.told refl refl
    (touched path items n i (version_after P) apart f.within f.here f.of_path)
    (all_kept P (s ∷ []) left kept) first in
    record {
      legal = legal_push_two limits.cache limits.steps P s a st.legal
          (request limits.steps P room, refl, hit)
          (due_push limits.cache P s
          ∙ ap (option_map (λ (x : CacheItem). Answered seat m (Image x.base))) front)
          (due_push_two limits.cache P s a
          ∙ ap (storing_for limits.cache (cache_after ((P ++ s ∷ []) ++ a ∷ [])) seat m)
          (ask_stays (P ++ s ∷ []) (a ∷ []) m ask asked));
      told = plain_push (P ++ s ∷ []) space book left left a told refl refl refl
          (all_kept (P ++ s ∷ []) (a ∷ []) left told.kept)
          (numbered_answer (P ++ s ∷ []) ask seat (Image i.image.base) first waiting);
      fits = omega (
        arith,
        answered_fits limits.steps (P ++ s ∷ []) ask seat (Image i.image.base)
            (request_fits limits.steps P s room) waiting,
      );
    }

-- ---- placing

pub ticket_room : (limits : Limits) (P : List Step) (space : Space) (book : List Placement)
    (items : List Item)
    (t : TicketParts) → IsStore limits P space book items → IsTicket P t
    → length P + 3 ≤ limits.steps
ticket_room limits P space book items t st ticket =
    room_to_answer limits.steps P (asking_of t) st.fits ticket.here

-- the same once the request was answered
pub room_answered : (limits : Limits) (P Q : List Step) (space : Space) (book : List Placement)
    (items : List Item)
    (t : TicketParts) (x : Step) (room : ℕ) → IsStore limits P space book items → IsTicket P t
    → Q ≡ P ++ x ∷ [] → room ≡ limits.steps → length Q + 2 ≤ room
room_answered limits P Q space book items t x room st ticket more same =
    omega (
      arith,
      ticket_room limits P space book items t st ticket,
      ap length more,
      length_push P,
      same,
    )

pub book_room : (limits : Limits) (P : List Step) (space : Space) (book : List Placement)
    (items : List Item)
    (t : TicketParts) → IsStore limits P space book items → IsTicket P t
    → length book < limits.steps
book_room limits P space book items t st ticket =
    omega (
      arith,
      ticket_room limits P space book items t st ticket,
      ap length st.told.book_is,
      book_le P,
    )

pub ticket_below : (P : List Step) (t : TicketParts) → IsNumbered P → IsTicket P t
    → t.number < requests P
ticket_below P t h ticket = asked_below P (asking_of t) h ticket.here.asked

-- the plan's place is that of its numbers
place_of_plan : (P : List Step) (t : TicketParts) (r : Ready) (plan : Plan) (at : Place)
    → IsTicket P t
    → IsPlanFor t r plan → place_for (book_of P) t.path r.layout.pages r.evaluated.lo r.evaluated.hi
    ≡ at
    → HasPlace P (asking_of t) plan at
place_of_plan P t r plan at ticket p e = record {
  planned = ap (λ ns. plan_of ns t.path) (sym ticket.space) ∙ p.planned;
  place = (λ i. place_for (book_of P) t.path (sym p.pages i) (sym p.lo i) (sym p.hi i)) ∙ e;
}

pub after_placed : (limits : Limits) (P : List Step) (space : Space) (book : List Placement)
    (items : List Item)
    (t : TicketParts) (r : Ready) (base : ℕ) → IsStore limits P space book items → IsTicket P t
    → is_placed P t.number ≡ false → ((plan : Plan) × IsPlanFor t r plan)
    → place_for book t.path r.layout.pages r.evaluated.lo r.evaluated.hi ≡ place.New base
    → IsStore limits (P ++ Placed t.seat t.number t.path base r.layout.pages ∷ []) space
    (book ++ record { path = t.path; base = base; pages = r.layout.pages } ∷ []) items
after_placed limits P space book items t r base st ticket un p e =
    let s : Step = Placed t.seat t.number t.path base r.layout.pages in
    let at = place_of_plan P t r p.0 (place.New base) ticket p.1
    (ap (λ b. place_for b t.path r.layout.pages r.evaluated.lo r.evaluated.hi) (sym st.told.book_is)
    ∙ e) in
    let number = below_same P s t.number (ticket_below P t st.told.numbered ticket) in
    record {
      legal = legal_push limits.cache limits.steps P s st.legal
          (t.version, p.0, ticket.here, un, at, sym p.1.pages) (due_push limits.cache P s);
      told = told_push P space space book _ items items s st.told
          (st.told.space_is ∙ sym (namespace_same P s refl (version_after P))
          ∙ ap (namespace_in (P ++ s ∷ [])) (sym (version_same P s refl)))
          refl refl (all_kept P (s ∷ []) items st.told.kept)
          (numbered_other P s st.told.numbered number refl refl);
      fits = placed_fits limits.steps P (asking_of t) t.seat t.path base r.layout.pages st.fits
          ticket.here un;
    }

-- what was said of the place stays true in the record that comes of it
pub stands_then : (P : List Step) (t : TicketParts) (r : Ready) (at : Place)
    → place_for_ticket P t r ≡ at
    → place_for_ticket (P ++ placing t r.layout.pages at) t r ≡ place_then (place_reply at)
stands_then P t r (place.Held base) e = ap (λ Q. place_for_ticket Q t r) (append-nil P) ∙ e
stands_then P t r place.NoRoom e = ap (λ Q. place_for_ticket Q t r) (append-nil P) ∙ e
stands_then P t r (place.New base) e =
    let s : Step = Placed t.seat t.number t.path base r.layout.pages in
    ap (λ b. place_for b t.path r.layout.pages r.evaluated.lo r.evaluated.hi) (book_push P s)
    ∙ new_is_held (book_of P) t.path r.layout.pages r.evaluated.lo r.evaluated.hi base
    (record { path = t.path; base = base; pages = r.layout.pages }) e refl refl refl

pub may_link : (at : Place) (pages : ℕ) → Stands at pages → MayLink (place_reply at) pages
may_link (place.Held base) pages h = (h.0, (let l = h.1 in omega arith))
may_link (place.New base) pages h = (h.0, (let l = h.1 in omega arith))
may_link place.NoRoom pages h = tt

ticket_then : (P : List Step) (t : TicketParts) (pages : ℕ) (at : Place) → IsTicket P t
    → IsTicket (P ++ placing t pages at) t
ticket_then P t pages (place.Held base) h = subst (λ Q. IsTicket Q t) (sym (append-nil P)) h
ticket_then P t pages place.NoRoom h = subst (λ Q. IsTicket Q t) (sym (append-nil P)) h
ticket_then P t pages (place.New base) h =
    ticket_stays P (Placed t.seat t.number t.path base pages) t h refl

pub place_given : (old new : StoreParts) (t : TicketParts) (r : Ready) (at : Place)
    (reply : PlaceReply)
    → place_for_ticket old.steps t r ≡ at → reply ≡ place_reply at
    → Appended old new (placing t r.layout.pages at)
    → IsTicket old.steps t → Stands at r.layout.pages → PlaceGives old t r reply new
place_given old new t r at reply e is n ticket stands = record {
  reply_is = is ∙ ap place_reply (sym e);
  steps = n ∙ ap (λ a. record old { steps = old.steps ++ placing t r.layout.pages a }) (sym e);
  stands = ap (λ (s : StoreParts). place_for_ticket s.steps t r) n ∙ stands_then old.steps t r at e
      ∙ ap place_then (sym is);
  ticket = subst (λ (s : StoreParts). IsTicket s.steps t) (sym n)
      (ticket_then old.steps t r.layout.pages at ticket);
  links = subst (λ p. MayLink p r.layout.pages) (sym is) (may_link at r.layout.pages stands);
}
