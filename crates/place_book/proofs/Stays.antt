-- What a growing book keeps.
use Rattle.std.proofs.Common.{◌≡◌, ℕ, ◌≤◌, inl, inr, Bool, true, false}
use Rattle.std.proofs.Common.{List, [], ◌∷◌, ◌++◌, refl, arith, nat_le, ◌&&◌, cond, Some, None}
use Rattle.std.proofs.Common.{◌∙◌, append_assoc, append-nil, subst}
use Rattle.std.specs.List.{All, find}
use Rattle.std.proofs.lemmas.Bool.Decides.{nat_tests}
use Rattle.std.proofs.lemmas.List.Elements.{All-cons, All-head, All-tail, All-nil, All-weaker}
use Rattle.omos_model.proofs.Names.{same_name-refl}
use Rattle.omos_model.specs.Names.{Name, same_name}
use Rattle.omos_model.specs.Places.{past, past_of, serves, place_for, IsApart, CanJoin, Grows}
use Rattle.place_book.specs.Laws.{IsFreePlace, IsPlace, HeldStays, NoRoomStays, NewIsHeld}
use Rattle.omos_model.specs.declared.placement.Placement.{Placement}
use Rattle.omos_model.specs.declared.placement.Place.TheVariants.{Held, New, NoRoom}
use Rattle.place_book.proofs.Words.{to_words, from_words}

find_stays : {X : Type 0} (test : X → Bool) (xs ys : List X) (x : X) → find test xs ≡ Some x
    → find test (xs ++ ys) ≡ Some x
find_stays test [] ys x e = absurd cc
find_stays test (y ∷ xs) ys x e = go (test y) refl e (find_stays test xs ys x) where
  go : (b : Bool) → test y ≡ b → cond (test y) (Some y) (find test xs) ≡ Some x
      → (find test xs ≡ Some x → find test (xs ++ ys) ≡ Some x) →
      cond (test y) (Some y) (find test (xs ++ ys)) ≡ Some x
  go true p h rest = rw p (rw p at h)
  go false p h rest = rw p (rest (rw p at h))

find_none : {X : Type 0} (test : X → Bool) (xs ys : List X) → find test xs ≡ None
    → find test (xs ++ ys) ≡ find test ys
find_none test [] ys e = refl
find_none test (y ∷ xs) ys e = go (test y) refl e (find_none test xs ys) where
  go : (b : Bool) → test y ≡ b → cond (test y) (Some y) (find test xs) ≡ None
      → (find test xs ≡ None → find test (xs ++ ys) ≡ find test ys) →
      cond (test y) (Some y) (find test (xs ++ ys)) ≡ find test ys
  go true p h rest = absurd (let k = rw p at h in cc)
  go false p h rest = rw p (rest (rw p at h))

pub held_stays : HeldStays
held_stays book more path pages lo hi base e =
    let h = to_words book path pages lo hi (Held base) e in
    from_words (book ++ more) path pages lo hi (Held base)
    (h.0, find_stays (serves path pages lo hi) book more h.0 h.1, h.2)

-- a part of a book has all the places that are free in the whole
All-front : {X : Type 0} (P : X → Type 0) (xs ys : List X) → All P (xs ++ ys) → All P xs
All-front P [] ys a = All-nil P
All-front P (x ∷ xs) ys a =
    All-cons P x xs (All-head P x (xs ++ ys) a) (All-front P xs ys (All-tail P x (xs ++ ys) a))

free_before : (book more : List Placement) (pages lo hi base : ℕ)
    → IsFreePlace (book ++ more) pages lo hi base → IsFreePlace book pages lo hi base
free_before book more pages lo hi base f = record {
  page = f.page;
  low = f.low;
  high = f.high;
  apart = All-front (IsApart base (past base pages)) book more f.apart;
}

shrink : (base : ℕ) (pages more : ℕ) (p : Placement) → pages ≤ more
    → IsApart base (past base more) p → IsApart base (past base pages) p
shrink base pages more p le (inl c) = inl (omega arith)
shrink base pages more p le (inr c) = inr c

-- what joined and serves was room before
served_room : (book : List Placement) (p : Placement) (path : Name) (pages lo hi : ℕ)
    → CanJoin book p →
    serves path pages lo hi p ≡ true → IsFreePlace book pages lo hi p.base
served_room book p path pages lo hi c s =
    go (same_name path p.path) (nat_le pages p.pages) (nat_le lo p.base) (nat_le (past_of p) hi)
    refl refl refl s where
      go : (n a b d : Bool) → nat_le pages p.pages ≡ a → nat_le lo p.base ≡ b
          → nat_le (past_of p) hi ≡ d → (n && a && b && d) ≡ true →
          IsFreePlace book pages lo hi p.base
      go true true true true pa pb pd h =
          let le : pages ≤ p.pages = grind (arith, nat_tests, pa) in
          let low : lo ≤ p.base = grind (arith, nat_tests, pb) in
          let high : past_of p ≤ hi = grind (arith, nat_tests, pd) in
          record {
            page = c.page;
            low = low;
            high = omega arith;
            apart = All-weaker (IsApart p.base (past_of p)) (IsApart p.base (past p.base pages))
                (λ q a. shrink p.base pages p.pages q le a) book c.apart;
          }
      go false a b d pa pb pd h = absurd cc
      go true false b d pa pb pd h = absurd cc
      go true true false d pa pb pd h = absurd cc
      go true true true false pa pb pd h = absurd cc

one_more : (book : List Placement) (p : Placement) (path : Name) (pages lo hi : ℕ) → CanJoin book p
    →
    IsPlace book path pages lo hi NoRoom → IsPlace (book ++ p ∷ []) path pages lo hi NoRoom
one_more book p path pages lo hi c h = (
  go (serves path pages lo hi p) refl,
  λ base f. h.1 base (free_before book (p ∷ []) pages lo hi base f),
) where
  go : (b : Bool) → serves path pages lo hi p ≡ b
      → find (serves path pages lo hi) (book ++ p ∷ []) ≡ None
  go true s = absurd (h.1 p.base (served_room book p path pages lo hi c s))
  go false s = find_none (serves path pages lo hi) book (p ∷ []) h.0 ∙ rw s refl

words_stay : (book more : List Placement) (path : Name) (pages lo hi : ℕ) → Grows book more
    → IsPlace book path pages lo hi NoRoom → IsPlace (book ++ more) path pages lo hi NoRoom
words_stay book [] path pages lo hi g h = rw append-nil h
words_stay book (p ∷ more) path pages lo hi g h =
    subst (λ (b : List Placement). IsPlace b path pages lo hi NoRoom)
    (append_assoc book (p ∷ []) more)
    (words_stay (book ++ p ∷ []) more path pages lo hi g.1 (one_more book p path pages lo hi g.0 h))

pub no_room_stays : NoRoomStays
no_room_stays book more path pages lo hi g e =
    from_words (book ++ more) path pages lo hi NoRoom
    (words_stay book more path pages lo hi g (to_words book path pages lo hi NoRoom e))

joined_serves : (path : Name) (pages lo hi base : ℕ) (p : Placement) → lo ≤ base
    → past base pages ≤ hi →
    p.base ≡ base → p.pages ≡ pages → p.path ≡ path → serves path pages lo hi p ≡ true
joined_serves path pages lo hi base p low high b n e =
    rw (b, n, e) (rw (same_name-refl path path refl) (grind (arith, nat_tests, low, high)))

pub new_is_held : NewIsHeld
new_is_held book path pages lo hi base p new b n e =
    let h = to_words book path pages lo hi (New base) new in
    let serves_it = joined_serves path pages lo hi base p h.1.low h.1.high b n e in
    from_words (book ++ p ∷ []) path pages lo hi (Held base)
    (p, find_none (serves path pages lo hi) book (p ∷ []) h.0 ∙ rw serves_it refl, b)

-- a placement at a new place joins the book
pub new_joins : (book : List Placement) (path : Name) (pages lo hi base : ℕ) (p : Placement)
    → place_for book path pages lo hi ≡ New base → p.base ≡ base → p.pages ≡ pages → CanJoin book p
new_joins book path pages lo hi base p new b n =
    let h = to_words book path pages lo hi (New base) new in
    record {
      page = rw b h.1.page;
      apart = rw (b, n) h.1.apart;
    }
