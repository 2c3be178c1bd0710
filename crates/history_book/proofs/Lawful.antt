-- Laws of legal records.
use Rattle.std.proofs.Common.{◌≡◌, ℕ, ◌<◌, true, false, List, [], ◌∷◌, ◌++◌, reverse, Option, Some}
use Rattle.std.proofs.Common.{None, refl, ap, sym, ◌∙◌, subst, append_assoc, append-nil}
use Rattle.std.specs.List.{cons_option}
use Rattle.std.proofs.lemmas.List.Elements.{filter_map-append}
use Rattle.omos_model.specs.Names.{Name}
use Rattle.link_model.specs.Plan.{plan_of}
use Rattle.omos_model.specs.Places.{Grows, place_for}
use Rattle.omos_model.specs.declared.placement.Placement.{Placement}
use Rattle.place_book.proofs.Stays.{new_joins, held_stays, no_room_stays}
use Rattle.history_book.specs.Steps.{is_asked, number_of, placement_of, Ask}
use Rattle.history_book.specs.Told.{requests, book_of, IsOpen}
use Rattle.history_book.specs.Owed.{IsNumbered}
use Rattle.history_book.specs.Due.{due, due_behind}
use Rattle.history_book.specs.Legal.{Follows, FollowsDue, IsAllowed, Runs}
use Rattle.history_book.specs.Laws.{NumbersLaw, BookLaw, BookGrowsLaw, PlaceStaysLaw}
use Rattle.history_book.specs.Laws.{NoRoomStaysLaw}
use Rattle.history_book.specs.declared.step.Note.TheVariants.{Image}
use Rattle.history_book.specs.declared.step.Step.{Step}
use Rattle.history_book.specs.declared.step.Step.TheVariants.{Put, Missed, Looked, Asked, Placed}
use Rattle.history_book.specs.declared.step.Step.TheVariants.{Answered, Evicted, Stored, Flushed}
use Rattle.history_book.proofs.Dues.{IsDueBehind, Answer, Leaves, Comes, due_is, allowed_numbered}
use Rattle.history_book.proofs.Dues.{request_below, same_below}
use Rattle.history_book.proofs.Grow.{book_push, namespace_stays}
use Rattle.history_book.proofs.Legality.{due_push, due_nothing}
use Rattle.history_book.proofs.Numbers.{ask_now, fresh_ask, fresh_answer}
use Rattle.history_book.proofs.Numbered.{answered_same, numbered_other, numbered_ask}
use Rattle.history_book.proofs.Numbered.{numbered_answer, numbered_nothing}

-- ---- what is due

kind_behind : (s d : Step) → IsDueBehind s d → (is_asked d ≡ false) × (placement_of d ≡ None)
kind_behind s d (Answer seat number path version base a e) = (ap is_asked e, ap placement_of e)
kind_behind s d (Leaves seat number path a b e) = (ap is_asked e, ap placement_of e)
kind_behind s d (Comes seat number path version a b e) = (ap is_asked e, ap placement_of e)

-- no link request and no placement is ever due
due_kind : (c : ℕ) (P : List Step) (d : Step) → due c P ≡ Some d → (is_asked d ≡ false)
    × (placement_of d ≡ None)
unfolding due
due_kind c P d e = go (reverse P) e
  where
    go : (back : List Step) → due_behind c P back ≡ Some d → (is_asked d ≡ false)
        × (placement_of d ≡ None)
    go [] k = cc
    go (s ∷ before) k = kind_behind s d (due_is c P s before d k)

-- ---- numbers

abbrev pub IsGood : List Step → Step → Type 0
IsGood Q d = IsNumbered Q × (number_of d < requests Q)

pub record IsSound (c : ℕ) (P : List Step) : Type 0 where
  pub numbered : IsNumbered P
  pub next : (d : Step) → due c P ≡ Some d → IsGood (P ++ d ∷ []) d

hit_next : (P : List Step) (seat : ℕ) (path : Name) (version base : ℕ) → IsNumbered P
    → IsGood ((P ++ Asked seat (requests P) path version true ∷ [])
    ++ Answered seat (requests P) (Image base) ∷ []) (Answered seat (requests P) (Image base))
hit_next P seat path version base h =
    let n : ℕ = requests P in
    let s : Step = Asked seat n path version true in
    let a : Step = Answered seat n (Image base) in
    let ask : Ask =
    record { seat = seat; number = n; path = path; version = version; hit = true } in
    let waiting : IsOpen (P ++ s ∷ []) ask = record {
      asked = ask_now P seat n path version true (fresh_ask P n h.below);
      waits = answered_same P s refl n ∙ fresh_answer P n h.below;
    } in (
      numbered_answer (P ++ s ∷ []) ask seat (Image base) (numbered_ask P seat path version true h)
          waiting,
      same_below (P ++ s ∷ []) a n (request_below P s n refl refl),
    )

pub follows_good : (c r : ℕ) (P : List Step) (s : Step) → IsSound c P → Follows c r P s
    → IsGood (P ++ s ∷ []) s
follows_good c r P s h f = go (due c P) refl f
  where
    go : (o : Option Step) → due c P ≡ o → FollowsDue r P s o → IsGood (P ++ s ∷ []) s
    go (Some d) e k = subst (λ x. IsGood (P ++ x ∷ []) x) (sym k) (h.next d e)
    go None e k = let g = allowed_numbered r P s h.numbered k in (g.0, g.1)

asked_next : (c r : ℕ) (P : List Step) (s : Step) (seat number : ℕ) (path : Name) (version : ℕ)
    → Follows c r P s
    → s ≡ Asked seat number path version true → number ≡ requests P
asked_next c r P s seat number path version f is = go (due c P) refl f
  where
    go : (o : Option Step) → due c P ≡ o → FollowsDue r P s o → number ≡ requests P
    go (Some d) e k =
        let asked = ap is_asked (sym is ∙ k) ∙ (due_kind c P d e).0 in
        cc
    go None e k = let a = subst (IsAllowed r P) is k in a.0.next

pub sound_push : (c r : ℕ) (P : List Step) (s : Step) → IsSound c P → Follows c r P s
    → IsSound c (P ++ s ∷ [])
sound_push c r P s h f =
    let g = follows_good c r P s h f in
    record {
      numbered = g.0;
      next = λ d e. behind d (due_is c (P ++ s ∷ []) s (reverse P) d (sym (due_push c P s) ∙ e)) g.0
          g.1;
    }
  where
    behind : (d : Step) → IsDueBehind s d → IsNumbered (P ++ s ∷ [])
        → number_of s < requests (P ++ s ∷ [])
        → IsGood ((P ++ s ∷ []) ++ d ∷ []) d
    behind d (Answer seat number path version base is e) n l =
        let num : number ≡ requests P = asked_next c r P s seat number path version f is in
        subst (λ (x : Step). IsGood ((P ++ x ∷ []) ++ d ∷ []) d) (sym is)
        (subst (λ (y : Step). IsGood ((P ++ Asked seat number path version true ∷ []) ++ y ∷ []) y)
        (sym e)
        (subst (λ (m : ℕ). IsGood
        ((P ++ Asked seat m path version true ∷ []) ++ Answered seat m (Image base) ∷ [])
        (Answered seat m (Image base))) (sym num)
        (hit_next P seat path version base h.numbered)))
    behind d (Leaves seat number path a b e) n l =
        let t : Step = Evicted seat number path in
        let low = same_below (P ++ s ∷ []) t number (subst (λ m. m < requests (P ++ s ∷ [])) b l) in
        subst (λ (y : Step). IsGood ((P ++ s ∷ []) ++ y ∷ []) y) (sym e)
        (numbered_other (P ++ s ∷ []) t n low refl refl, low)
    behind d (Comes seat number path version a b e) n l =
        let t : Step = Stored seat number path version in
        let low = same_below (P ++ s ∷ []) t number (subst (λ m. m < requests (P ++ s ∷ [])) b l) in
        subst (λ (y : Step). IsGood ((P ++ s ∷ []) ++ y ∷ []) y) (sym e)
        (numbered_other (P ++ s ∷ []) t n low refl refl, low)

pub sound_all : (c r : ℕ) (P more : List Step) → IsSound c P → Runs c r P more
    → IsSound c (P ++ more)
sound_all c r P [] h runs = subst (IsSound c) (sym (append-nil P)) h
sound_all c r P (s ∷ more) h runs =
    subst (IsSound c) (append_assoc P (s ∷ []) more)
    (sound_all c r (P ++ s ∷ []) more (sound_push c r P s h runs.0) runs.1)

pub sound_nothing : (c : ℕ) → IsSound c []
sound_nothing c =
    record { numbered = numbered_nothing; next = λ d e. none d (sym (due_nothing c) ∙ e) }
  where
    none : (d : Step) → None ≡ Some d → IsGood ([] ++ d ∷ []) d
    none d k = cc

pub numbers_law : NumbersLaw
numbers_law c r P legal = (sound_all c r [] P (sound_nothing c) legal.runs).numbered

-- ---- the book

grows_append : (book xs ys : List Placement) → Grows book xs → Grows (book ++ xs) ys
    → Grows book (xs ++ ys)
grows_append book [] ys g h = subst (λ b. Grows b ys) (append-nil book) h
grows_append book (x ∷ xs) ys g h = (
  g.0,
  grows_append (book ++ x ∷ []) xs ys g.1
      (subst (λ b. Grows b ys) (sym (append_assoc book (x ∷ []) xs)) h),
)

allowed_grows : (r : ℕ) (P : List Step) (s : Step) → IsAllowed r P s
    → Grows (book_of P) (book_of (s ∷ []))
allowed_grows r P (Put seat number path entry size) a = tt
allowed_grows r P (Missed seat number) a = tt
allowed_grows r P (Looked seat number look) a = tt
allowed_grows r P (Asked seat number path version hit) a = tt
allowed_grows r P (Placed seat number path base pages) a = (
  new_joins (book_of P) path a.1.pages a.1.lo a.1.hi base
      (record { path = path; base = base; pages = pages }) a.4.place refl (sym a.5),
  tt,
)
allowed_grows r P (Answered seat number note) a = tt
allowed_grows r P (Evicted seat number path) a = tt
allowed_grows r P (Stored seat number path version) a = tt
allowed_grows r P (Flushed seat number path held) a = tt

nothing_grows : (book : List Placement) (d : Step) → placement_of d ≡ None
    → Grows book (book_of (d ∷ []))
nothing_grows book d e = subst (λ o. Grows book (cons_option o [])) (sym e) tt

follows_grows : (c r : ℕ) (P : List Step) (s : Step) → Follows c r P s
    → Grows (book_of P) (book_of (s ∷ []))
follows_grows c r P s f = go (due c P) refl f
  where
    go : (o : Option Step) → due c P ≡ o → FollowsDue r P s o → Grows (book_of P) (book_of (s ∷ []))
    go (Some d) e k = nothing_grows (book_of P) s (ap placement_of k ∙ (due_kind c P d e).1)
    go None e k = allowed_grows r P s k

pub book_grows : BookGrowsLaw
book_grows c r P [] runs = tt
book_grows c r P (s ∷ more) runs =
    subst (Grows (book_of P)) (sym (filter_map-append placement_of (s ∷ []) more))
    (grows_append (book_of P) (book_of (s ∷ [])) (book_of more) (follows_grows c r P s runs.0)
    (subst (λ b. Grows b (book_of more)) (book_push P s)
    (book_grows c r (P ++ s ∷ []) more runs.1)))

pub book_law : BookLaw
book_law c r P legal = book_grows c r [] P legal.runs

-- ---- places

pub place_stays : PlaceStaysLaw
place_stays c r P more a plan base runs l h = record {
  planned = ap (λ ns. plan_of ns a.path) (namespace_stays P more a.version l) ∙ h.planned;
  place = ap (λ b. place_for b a.path plan.pages plan.lo plan.hi)
      (filter_map-append placement_of P more)
      ∙ held_stays (book_of P) (book_of more) a.path plan.pages plan.lo plan.hi base h.place;
}

pub room_stays : NoRoomStaysLaw
room_stays c r P more a plan runs l h = record {
  planned = ap (λ ns. plan_of ns a.path) (namespace_stays P more a.version l) ∙ h.planned;
  place = ap (λ b. place_for b a.path plan.pages plan.lo plan.hi)
      (filter_map-append placement_of P more)
      ∙ no_room_stays (book_of P) (book_of more) a.path plan.pages plan.lo plan.hi
      (book_grows c r P more runs) h.place;
}
