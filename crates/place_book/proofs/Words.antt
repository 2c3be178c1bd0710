-- A place in words.
use Rattle.std.proofs.Common.{◌≡◌, ℕ, suc, zero, ◌+◌, ◌*◌, ◌/◌, ◌%◌, ◌<◌, ◌≤◌, ◌⊎◌, inl, inr}
use Rattle.std.proofs.Common.{Bool, true, false, List, [], ◌∷◌, map, cond, Option, Some, None}
use Rattle.std.proofs.Common.{refl, sym, ap, ◌∙◌, arith, nat_le, ◌&&◌, ◌||◌, subst, true≢false}
use Rattle.std.specs.List.{All, find, list_all}
use Rattle.std.proofs.lemmas.Bool.Decides.{nat_tests}
use Rattle.std.proofs.lemmas.List.Elements.{All-cons, All-head, All-tail, All-nil}
use Rattle.omos_model.specs.Names.{Name}
use Rattle.omos_model.specs.Numbers.{numbers_from}
use Rattle.omos_model.specs.Places.{past, past_of, is_apart, is_free, least_free, held}
use Rattle.omos_model.specs.Places.{unless_held, place_for, IsApart}
use Rattle.place_book.specs.Laws.{IsFreePlace, IsPlace, PlaceLaw}
use Rattle.omos_model.specs.declared.placement.Placement.{Placement}
use Rattle.omos_model.specs.declared.placement.Place.{Place}
use Rattle.omos_model.specs.declared.placement.Place.TheVariants.{Held, New, NoRoom}

-- ---- the first multiple of 4,096 that passes

abbrev start : ℕ → ℕ
start n = 4096 * n

-- it passes, and none does from one number on up to it
record IsFirst (p : ℕ → Bool) (from n : ℕ) : Type 0 where
  pub passes : p (start n) ≡ true
  pub before : (m : ℕ) → from ≤ m → m < n → p (start m) ≡ false

here_or_later : (a b : ℕ) → a ≤ b → (a ≡ b) ⊎ (a + 1 ≤ b)
here_or_later a b l = go (nat_le (a + 1) b) refl
  where
    go : (t : Bool) → nat_le (a + 1) b ≡ t → (a ≡ b) ⊎ (a + 1 ≤ b)
    go true e = inr (grind (arith, nat_tests, e))
    go false e = let h : b < a + 1 = grind (arith, nat_tests, e) in inl (omega arith)

first : (p : ℕ → Bool) (from count x : ℕ) → find p (map start (numbers_from from count)) ≡ Some x
    → (n : ℕ) × (x ≡ start n) × IsFirst p from n
first p from zero x e = absurd cc
first p from (suc count) x e = go (p (start from)) refl e (first p (from + 1) count x)
  where
    earlier : (m n : ℕ) → p (start from) ≡ false → IsFirst p (from + 1) n → (from ≡ m)
        ⊎ (from + 1 ≤ m)
        → m < n → p (start m) ≡ false
    earlier m n d f (inl same) h = ap (λ k. p (start k)) (sym same) ∙ d
    earlier m n d f (inr later) h = f.before m later h

    go : (b : Bool) → p (start from) ≡ b
        → cond b (Some (start from)) (find p (map start (numbers_from (from + 1) count))) ≡ Some x
        → (find p (map start (numbers_from (from + 1) count)) ≡ Some x → (n : ℕ) × (x ≡ start n)
        × IsFirst p (from + 1) n)
        → (n : ℕ) × (x ≡ start n) × IsFirst p from n
    go true d k i =
        let same : start from ≡ x = cc in
        (from, sym same, record { passes = d; before = λ m l h. absurd (omega arith) })
    go false d k i =
        let found = i k in (
          found.0,
          found.1,
          record {
            passes = found.2.passes;
            before = λ m l h. earlier m found.0 d found.2 (here_or_later from m l) h;
          },
        )

none_passes : (p : ℕ → Bool) (from count m : ℕ)
    → find p (map start (numbers_from from count)) ≡ None → from ≤ m → m < from + count
    → p (start m) ≡ false
none_passes p from zero m e l h = absurd (omega arith)
none_passes p from (suc count) m e l h =
    go (p (start from)) refl e (here_or_later from m l) (none_passes p (from + 1) count m)
  where
    go : (b : Bool) → p (start from) ≡ b
        → cond b (Some (start from)) (find p (map start (numbers_from (from + 1) count))) ≡ None
        → (from ≡ m) ⊎ (from + 1 ≤ m)
        → (find p (map start (numbers_from (from + 1) count)) ≡ None → from + 1 ≤ m
        → m < from + 1 + count → p (start m) ≡ false)
        → p (start m) ≡ false
    go true d k s i = cc
    go false d k (inl same) i = ap (λ j. p (start j)) (sym same) ∙ d
    go false d k (inr later) i = i k later (omega arith)

-- ---- what is free

apart_true : (from to : ℕ) (p : Placement) → is_apart from to p ≡ true → IsApart from to p
apart_true from to p e = go (nat_le to p.base) refl e
  where
    go : (b : Bool) → nat_le to p.base ≡ b → (b || nat_le (past_of p) from) ≡ true
        → IsApart from to p
    go true d k = inl (grind (arith, nat_tests, d))
    go false d k = inr (grind (arith, nat_tests, k))

apart_from : (from to : ℕ) (p : Placement) → IsApart from to p → is_apart from to p ≡ true
apart_from from to p (inl l) = let t : nat_le to p.base ≡ true =
    grind (arith, nat_tests, l) in rw t refl
apart_from from to p (inr l) = go (nat_le to p.base) (grind (arith, nat_tests, l))
  where
    go : (b : Bool) → nat_le (past_of p) from ≡ true → (b || nat_le (past_of p) from) ≡ true
    go true k = refl
    go false k = k

all_apart : (from to : ℕ) (ps : List Placement) → list_all (is_apart from to) ps ≡ true
    → All (IsApart from to) ps
all_apart from to [] e = All-nil (IsApart from to)
all_apart from to (p ∷ ps) e = go (is_apart from to p) refl e (all_apart from to ps)
  where
    go : (b : Bool) → is_apart from to p ≡ b → (b && list_all (is_apart from to) ps) ≡ true
        → (list_all (is_apart from to) ps ≡ true → All (IsApart from to) ps)
        → All (IsApart from to) (p ∷ ps)
    go true d k i = All-cons (IsApart from to) p ps (apart_true from to p d) (i k)
    go false d k i = absurd (true≢false (sym k))

apart_all : (from to : ℕ) (ps : List Placement) → All (IsApart from to) ps
    → list_all (is_apart from to) ps ≡ true
apart_all from to [] a = refl
apart_all from to (p ∷ ps) a =
    rw (apart_from from to p (All-head (IsApart from to) p ps a))
    (apart_all from to ps (All-tail (IsApart from to) p ps a))

pub free_true : (book : List Placement) (pages lo hi base : ℕ) → base % 4096 ≡ 0
    → is_free book pages lo hi base ≡ true → IsFreePlace book pages lo hi base
free_true book pages lo hi base page e =
    go (nat_le lo base) (nat_le (past base pages) hi) refl refl e
  where
    go : (a b : Bool) → nat_le lo base ≡ a → nat_le (past base pages) hi ≡ b
        → (a && b && list_all (is_apart base (past base pages)) book) ≡ true
        → IsFreePlace book pages lo hi base
    go true true l h k = record {
      page = page;
      low = grind (arith, nat_tests, l);
      high = grind (arith, nat_tests, h);
      apart = all_apart base (past base pages) book k;
    }
    go true false l h k = absurd (true≢false (sym k))
    go false b l h k = absurd (true≢false (sym k))

pub free_from : (book : List Placement) (pages lo hi base : ℕ) → IsFreePlace book pages lo hi base
    → is_free book pages lo hi base ≡ true
free_from book pages lo hi base f =
    let l : nat_le lo base ≡ true = grind (arith, nat_tests, f.low) in
    let h : nat_le (past base pages) hi ≡ true = grind (arith, nat_tests, f.high) in
    rw (l, h) (apart_all base (past base pages) book f.apart)

-- ---- the least that is free

-- a free base is one of those that are tried
number_of : (book : List Placement) (pages lo hi base : ℕ) → IsFreePlace book pages lo hi base
    → (n : ℕ) × (base ≡ start n) × (lo / 4096 ≤ n) × (n < lo / 4096 + (hi / 4096 + 1))
number_of book pages lo hi base f =
    let page = f.page in
    let low = f.low in
    let high = f.high in
    (base / 4096, omega arith, omega arith, omega arith)

least : (book : List Placement) (pages lo hi base : ℕ) → least_free book pages lo hi ≡ Some base
    → IsFreePlace book pages lo hi base
    × ((other : ℕ) → IsFreePlace book pages lo hi other → base ≤ other)
least book pages lo hi base e =
    go (first (is_free book pages lo hi) (lo / 4096) (hi / 4096 + 1) base e)
  where
    below : (n other : ℕ) → base ≡ start n → IsFirst (is_free book pages lo hi) (lo / 4096) n
        → IsFreePlace book pages lo hi other → base ≤ other
    below n other same f free = by (number_of book pages lo hi other free)
      where
        by : (m : ℕ) × (other ≡ start m) × (lo / 4096 ≤ m) × (m < lo / 4096 + (hi / 4096 + 1))
            → base ≤ other
        by h = again (nat_le n h.0) refl
          where
            again : (b : Bool) → nat_le n h.0 ≡ b → base ≤ other
            again true d = let l : n ≤ h.0 = grind (arith, nat_tests, d) in let o =
                h.1 in omega arith
            again false d =
                let l : h.0 < n = grind (arith, nat_tests, d) in
                absurd (true≢false (sym (free_from book pages lo hi other free)
                ∙ ap (is_free book pages lo hi) h.1 ∙ f.before h.0 h.2 l))

    go : (n : ℕ) × (base ≡ start n) × IsFirst (is_free book pages lo hi) (lo / 4096) n
        → IsFreePlace book pages lo hi base
        × ((other : ℕ) → IsFreePlace book pages lo hi other → base ≤ other)
    go h =
        let same = h.1 in (
          free_true book pages lo hi base (omega arith) (ap (is_free book pages lo hi) same
              ∙ h.2.passes),
          λ other free. below h.0 other same h.2 free,
        )

nothing_free : (book : List Placement) (pages lo hi base : ℕ) → least_free book pages lo hi ≡ None
    → IsFreePlace book pages lo hi base → ⊥
nothing_free book pages lo hi base e f = go (number_of book pages lo hi base f)
  where
    go : (n : ℕ) × (base ≡ start n) × (lo / 4096 ≤ n) × (n < lo / 4096 + (hi / 4096 + 1)) → ⊥
    go h =
        true≢false (sym (free_from book pages lo hi base f) ∙ ap (is_free book pages lo hi) h.1
        ∙ none_passes (is_free book pages lo hi) (lo / 4096) (hi / 4096 + 1) h.0 e h.2 h.3)

-- ---- both ways

pub in_words : (book : List Placement) (path : Name) (pages lo hi : ℕ)
    → IsPlace book path pages lo hi (place_for book path pages lo hi)
unfolding place_for
in_words book path pages lo hi =
    go (held book path pages lo hi) refl (least_free book pages lo hi) refl
  where
    go : (h : Option Placement) → held book path pages lo hi ≡ h → (o : Option ℕ)
        → least_free book pages lo hi ≡ o
        → IsPlace book path pages lo hi (unless_held h o)
    go (Some p) d o e = (p, d, refl)
    go None d (Some base) e = let l = least book pages lo hi base e in (d, l.0, l.1)
    go None d None e = (d, λ base f. nothing_free book pages lo hi base e f)

-- there is one answer
pub one_place : (book : List Placement) (path : Name) (pages lo hi : ℕ) (a b : Place)
    → IsPlace book path pages lo hi a → IsPlace book path pages lo hi b → a ≡ b
one_place book path pages lo hi (Held x) (Held y) h k =
    let same : h.0 ≡ k.0 = (let e = sym h.1 ∙ k.1 in cc) in
    ap Held (sym h.2 ∙ ap (λ (p : Placement). p.base) same ∙ k.2)
one_place book path pages lo hi (Held x) (New y) h k = absurd (let e = sym h.1 ∙ k.0 in cc)
one_place book path pages lo hi (Held x) NoRoom h k = absurd (let e = sym h.1 ∙ k.0 in cc)
one_place book path pages lo hi (New x) (Held y) h k = absurd (let e = sym k.1 ∙ h.0 in cc)
one_place book path pages lo hi (New x) (New y) h k =
    let l = h.2 y k.1 in
    let m = k.2 x h.1 in
    ap New (omega arith)
one_place book path pages lo hi (New x) NoRoom h k = absurd (k.1 x h.1)
one_place book path pages lo hi NoRoom (Held y) h k = absurd (let e = sym k.1 ∙ h.0 in cc)
one_place book path pages lo hi NoRoom (New y) h k = absurd (h.1 y k.1)
one_place book path pages lo hi NoRoom NoRoom h k = refl

pub from_words : (book : List Placement) (path : Name) (pages lo hi : ℕ) (at : Place)
    → IsPlace book path pages lo hi at → place_for book path pages lo hi ≡ at
from_words book path pages lo hi at h =
    one_place book path pages lo hi (place_for book path pages lo hi) at
    (in_words book path pages lo hi) h

pub to_words : (book : List Placement) (path : Name) (pages lo hi : ℕ) (at : Place)
    → place_for book path pages lo hi ≡ at → IsPlace book path pages lo hi at
to_words book path pages lo hi at e =
    subst (IsPlace book path pages lo hi) e (in_words book path pages lo hi)

pub place_law : PlaceLaw
place_law book path pages lo hi at =
    (to_words book path pages lo hi at, from_words book path pages lo hi at)
