-- A store keeps what it is, request by request.
use Rattle.std.proofs.Common.{◌≡◌, ℕ, ◌+◌, ◌<◌, ◌≤◌, true, false, List, [], ◌∷◌, ◌++◌, length}
use Rattle.std.proofs.Common.{refl, ap, sym, ◌∙◌, arith, append-nil, None, Some, Option}
use Rattle.std.specs.List.{All, cons_option}
use Rattle.std.proofs.lemmas.List.Elements.{All-nil}
use Rattle.omos_base.specs.Limits.{Counts as Limits}
use Rattle.omos_model.specs.Names.{Name, same_name}
use Rattle.omos_model.specs.Namespace.{Space, with_entry}
use Rattle.omos_model.specs.declared.entry.Entry.{Entry}
use Rattle.omos_model.specs.declared.placement.Placement.{Placement}
use Rattle.image_cache.specs.Items as held
use Rattle.image_cache.specs.declared.item.Item.{Item}
use Rattle.history_book.specs.Steps.{is_request, is_asked, is_answer, number_of, placement_of}
use Rattle.history_book.specs.Told.{requests, puts_of, version_after, namespace_after, kept_bytes}
use Rattle.history_book.specs.Told.{book_of}
use Rattle.history_book.specs.Room.{HasRoom}
use Rattle.history_book.specs.Owed.{IsNumbered}
use Rattle.history_book.specs.Tallied.{one_if}
use Rattle.history_book.specs.Cache.{cache_after, cache_with, is_hit, is_held}
use Rattle.history_book.specs.Due.{due}
use Rattle.history_book.specs.Legal.{IsAllowed, IsRequest, max_kept}
use Rattle.history_book.specs.declared.step.Look.{Look}
use Rattle.history_book.specs.declared.step.Step.{Step}
use Rattle.history_book.specs.declared.step.Step.TheVariants.{Put, Missed, Looked, Asked}
use Rattle.history_book.specs.declared.step.Step.TheVariants.{Evicted, Flushed}
use Rattle.history_book.proofs.Grow.{requests_push, book_push, cache_push, present_same}
use Rattle.history_book.proofs.Grow.{present_put}
use Rattle.history_book.proofs.Legality.{due_push, due_push_two, legal_push, legal_push_two}
use Rattle.history_book.proofs.Legality.{legal_nothing}
use Rattle.history_book.proofs.Numbered.{numbered_other, numbered_ask, numbered_nothing}
use Rattle.history_book.proofs.Rooms.{request_fits, other_fits, room_fits}
use Rattle.hub_store.specs.Keeps.{IsStore, AreTold, facts, IsKeptItem}
use Rattle.hub_store.proofs.Facts.{any_fact, facts_without, All-without}
use Rattle.hub_store.proofs.Kept.{all_kept}

-- ---- what the steps say, with one more

pub told_push : (P : List Step) (space next : Space) (book more : List Placement)
    (items left : List Item) (s : Step)
    → AreTold P space book items → next ≡ namespace_after (P ++ s ∷ [])
    → more ≡ book ++ book_of (s ∷ [])
    → facts left ≡ cache_with P (facts items) s → All (IsKeptItem (P ++ s ∷ [])) left
    → IsNumbered (P ++ s ∷ [])
    → AreTold (P ++ s ∷ []) next more left
told_push P space next book more items left s t ns ps is kept numbered = record {
  space_is = ns;
  book_is = ps ∙ ap (λ xs. xs ++ book_of (s ∷ [])) t.book_is ∙ sym (book_push P s);
  cache_is = is ∙ ap (λ xs. cache_with P xs s) t.cache_is ∙ sym (cache_push P s);
  kept = kept;
  numbered = numbered;
}

-- a step that publishes and places nothing
pub plain_push : (P : List Step) (space : Space) (book : List Placement) (items left : List Item)
    (s : Step)
    → AreTold P space book items → puts_of (s ∷ []) ≡ [] → book_of (s ∷ []) ≡ []
    → facts left ≡ cache_with P (facts items) s → All (IsKeptItem (P ++ s ∷ [])) left
    → IsNumbered (P ++ s ∷ [])
    → AreTold (P ++ s ∷ []) space book left
plain_push P space book items left s t no_put no_place is kept numbered =
    told_push P space space book book items left s t (t.space_is ∙ sym (present_same P s no_put))
    (sym (ap (λ ps. book ++ ps) no_place ∙ append-nil book)) is kept numbered

pub below_next : (P : List Step) (s : Step) → is_request s ≡ true
    → requests P < requests (P ++ s ∷ [])
below_next P s e = omega (arith, requests_push P s, ap one_if e)

pub below_same : (P : List Step) (s : Step) (n : ℕ) → n < requests P → n < requests (P ++ s ∷ [])
below_same P s n l = omega (arith, requests_push P s)

pub request : (r : ℕ) (P : List Step) → HasRoom r P → IsRequest r P (requests P)
request r P room = record { next = refl; fits = room }

-- ---- requests that make nothing due

-- neither a publish nor a link request
after_request : (limits : Limits) (P : List Step) (space : Space) (book : List Placement)
    (items : List Item) (s : Step)
    → IsStore limits P space book items → HasRoom limits.steps P → IsAllowed limits.steps P s
    → due limits.cache (P ++ s ∷ []) ≡ None → number_of s < requests (P ++ s ∷ [])
    → is_asked s ≡ false
    → is_answer s ≡ false → puts_of (s ∷ []) ≡ [] → book_of (s ∷ []) ≡ []
    → facts items ≡ cache_with P (facts items) s
    → IsStore limits (P ++ s ∷ []) space book items
after_request limits P space book items s st room allowed none number no_asking no_answer no_put
    no_place cache = record {
      legal = legal_push limits.cache limits.steps P s st.legal allowed none;
      told = plain_push P space book items items s st.told no_put no_place cache
          (all_kept P (s ∷ []) items st.told.kept)
          (numbered_other P s st.told.numbered number no_asking no_answer);
      fits = request_fits limits.steps P s room;
    }

pub after_missed : (limits : Limits) (P : List Step) (space : Space) (book : List Placement)
    (items : List Item) (seat : ℕ)
    → IsStore limits P space book items → HasRoom limits.steps P
    → IsStore limits (P ++ Missed seat (requests P) ∷ []) space book items
after_missed limits P space book items seat st room =
    let s : Step = Missed seat (requests P) in
    after_request limits P space book items s st room (request limits.steps P room)
    (due_push limits.cache P s)
    (below_next P s refl) refl refl refl refl refl

pub after_looked : (limits : Limits) (P : List Step) (space : Space) (book : List Placement)
    (items : List Item) (seat : ℕ)
    (look : Look) → IsStore limits P space book items → HasRoom limits.steps P
    → IsStore limits (P ++ Looked seat (requests P) look ∷ []) space book items
after_looked limits P space book items seat look st room =
    let s : Step = Looked seat (requests P) look in
    after_request limits P space book items s st room (request limits.steps P room)
    (due_push limits.cache P s)
    (below_next P s refl) refl refl refl refl refl

-- whether the path's image is held, as the record says it
pub held_told : (P : List Step) (space : Space) (book : List Placement) (items : List Item)
    (path : Name)
    → AreTold P space book items → held.has_item items path ≡ is_held (cache_after P) path
held_told P space book items path t =
    sym (any_fact (λ i. same_name path i.path) items) ∙ ap (λ is. is_held is path) t.cache_is

pub after_unheld : (limits : Limits) (P : List Step) (space : Space) (book : List Placement)
    (items : List Item) (seat : ℕ)
    (path : Name) → IsStore limits P space book items → HasRoom limits.steps P
    → false ≡ is_held (cache_after P) path
    → IsStore limits (P ++ Flushed seat (requests P) path false ∷ []) space book items
after_unheld limits P space book items seat path st room un =
    let s : Step = Flushed seat (requests P) path false in
    after_request limits P space book items s st room (request limits.steps P room, un)
    (due_push limits.cache P s)
    (below_next P s refl) refl refl refl refl refl

pub after_put : (limits : Limits) (P : List Step) (space : Space) (book : List Placement)
    (items : List Item) (seat : ℕ)
    (path : Name) (entry : Entry) (size : ℕ) → IsStore limits P space book items
    → HasRoom limits.steps P
    → kept_bytes P + size ≤ max_kept
    → IsStore limits (P ++ Put seat (requests P) path entry size ∷ [])
    (with_entry (namespace_after P)
    (record { path = path; stamp = version_after P + 1; entry = entry })) book items
after_put limits P space book items seat path entry size st room few =
    let s : Step = Put seat (requests P) path entry size in
    record {
      legal = legal_push limits.cache limits.steps P s st.legal (request limits.steps P room, few)
          (due_push limits.cache P s);
      told = told_push P space _ book book items items s st.told
          (sym (present_put P seat (requests P) path entry size))
          (sym (append-nil book)) refl (all_kept P (s ∷ []) items st.told.kept)
          (numbered_other P s st.told.numbered (below_next P s refl) refl refl);
      fits = request_fits limits.steps P s room;
    }

-- ---- link requests

pub after_asked : (limits : Limits) (P : List Step) (space : Space) (book : List Placement)
    (items : List Item) (seat : ℕ)
    (path : Name) → IsStore limits P space book items → HasRoom limits.steps P
    → false ≡ is_hit (namespace_after P) (cache_after P) path
    → IsStore limits (P ++ Asked seat (requests P) path (version_after P) false ∷ []) space book
    items
after_asked limits P space book items seat path st room miss =
    let s : Step = Asked seat (requests P) path (version_after P) false in
    record {
      legal = legal_push limits.cache limits.steps P s st.legal
          (request limits.steps P room, refl, miss) (due_push limits.cache P s);
      told = plain_push P space book items items s st.told refl refl refl
          (all_kept P (s ∷ []) items st.told.kept)
          (numbered_ask P seat path (version_after P) false st.told.numbered);
      fits = request_fits limits.steps P s room;
    }

-- ---- a flush of an image that is held

pub after_held : (limits : Limits) (P : List Step) (space : Space) (book : List Placement)
    (items : List Item) (seat : ℕ)
    (path : Name) → IsStore limits P space book items → HasRoom limits.steps P
    → true ≡ is_held (cache_after P) path
    → IsStore limits
    ((P ++ Flushed seat (requests P) path true ∷ []) ++ Evicted seat (requests P) path ∷ [])
    space book
    (held.without_path path items)
after_held limits P space book items seat path st room is =
    let n : ℕ = requests P in
    let s : Step = Flushed seat n path true in
    let t : Step = Evicted seat n path in
    let first = numbered_other P s st.told.numbered (below_next P s refl) refl refl in
    let told =
    plain_push P space book items items s st.told refl refl refl
    (all_kept P (s ∷ []) items st.told.kept) first in
    record {
      legal = legal_push_two limits.cache limits.steps P s t st.legal
          (request limits.steps P room, is)
          (due_push limits.cache P s) (due_push_two limits.cache P s t);
      told = plain_push (P ++ s ∷ []) space book items (held.without_path path items) t told refl
          refl
          (facts_without path items)
          (All-without (IsKeptItem ((P ++ s ∷ []) ++ t ∷ [])) path items
          (all_kept (P ++ s ∷ []) (t ∷ []) items told.kept))
          (numbered_other (P ++ s ∷ []) t first (below_same (P ++ s ∷ []) t n (below_next P s refl))
          refl refl);
      fits = other_fits 0 limits.steps (P ++ s ∷ []) t refl
          (other_fits 1 limits.steps P s refl (omega (arith, room_fits limits.steps P room)));
    }

-- ---- the beginning

pub nothing : (limits : Limits) → IsStore limits [] [] [] []
nothing limits = record {
  legal = legal_nothing limits.cache limits.steps;
  told = record {
    space_is = refl;
    book_is = refl;
    cache_is = refl;
    kept = All-nil (IsKeptItem []);
    numbered = numbered_nothing;
  };
  fits = omega arith;
}

-- there is no more to place than steps
pub book_le : (P : List Step) → length (book_of P) ≤ length P
book_le [] = omega arith
book_le (s ∷ P) = one (placement_of s) (book_le P)
  where
    one : (o : Option Placement) → length (book_of P) ≤ length P
        → length (cons_option o (book_of P)) ≤ length (s ∷ P)
    one None h = omega arith
    one (Some p) h = omega arith
