-- Tests on runs of numbers, and on what is made of those that pass one.
use Rattle.std.proofs.Common.{◌≡◌, ℕ, zero, suc, ◌+◌, ◌<◌, ◌≤◌, Bool, true, false, not, ◌&&◌}
use Rattle.std.proofs.Common.{List, [], ◌∷◌, length, Option, Some, None, refl, sym, ap, ◌∙◌}
use Rattle.std.proofs.Common.{◌⊎◌, inl, inr, cond, map, arith, length-append}
use Rattle.std.specs.Prelude.{filter, slice_get}
use Rattle.std.specs.List.{find, list_any, list_all, flat_map, filter_map, cons_option, sum_by}
use Rattle.std.proofs.lemmas.Bool.{cases_eq, or_parts, and_parts, and_from, not_from_false}
use Rattle.std.proofs.lemmas.List.Folds.{list_all-append, list_all-map}
use Rattle.std.proofs.lemmas.List.Sums.{sum_by-cons}
use Rattle.omos_model.specs.Numbers.{numbers_from}

pub record InRange (start count n : ℕ) : Type 0 where
  pub low : start ≤ n
  pub high : n < start + count

-- a number of a run is its first, or one of the rest
in_rest : (s c n : ℕ) → InRange s (suc c) n → (n ≡ s) ⊎ InRange (s + 1) c n
in_rest s c n h =
    elim (cases_eq n s) [
      | inl e ↦ inl e
      | inr d ↦ inr
          (record { low = omega (arith, h.low); high = omega (arith, h.high) })
    ]

pub first_in : (s c : ℕ) → InRange s (suc c) s
first_in s c = record { low = omega arith; high = omega arith }

pub rest_in : (s c n : ℕ) → InRange (s + 1) c n → InRange s (suc c) n
rest_in s c n h = record { low = omega (arith, h.low); high = omega (arith, h.high) }

none_in : {P : Type 0} (s n : ℕ) → InRange s zero n → P
none_in s n h = absurd (omega (arith, h.low, h.high))

-- ---- no number passes

pub find_none : (p : ℕ → Bool) (s c : ℕ) → find p (numbers_from s c) ≡ None → (n : ℕ)
    → InRange s c n → p n ≡ false
find_none p s zero e n h = none_in s n h
find_none p s (suc c) e n h = go (p s) refl e (λ d i. find_none p (s + 1) c d n i)
  where
    go : (b : Bool) → p s ≡ b → cond b (Some s) (find p (numbers_from (s + 1) c)) ≡ None
        → (find p (numbers_from (s + 1) c) ≡ None → InRange (s + 1) c n → p n ≡ false) → p n ≡ false
    go true d e k = cc
    go false d e k = elim (in_rest s c n h) [ inl i ↦ ap p i ∙ d | inr i ↦ k e i ]

pub any_none : (p : ℕ → Bool) (s c : ℕ) → list_any p (numbers_from s c) ≡ false → (n : ℕ)
    → InRange s c n → p n ≡ false
any_none p s zero e n h = none_in s n h
any_none p s (suc c) e n h =
    let parts = or_parts (p s) (list_any p (numbers_from (s + 1) c)) e in
    elim (in_rest s c n h) [ inl i ↦ ap p i ∙ parts.0 | inr i ↦ any_none p (s + 1) c parts.1 n i ]

pub none_found : {X : Type 0} (p : X → Bool) (xs : List X) → find p xs ≡ None
    → list_all (λ x. not (p x)) xs ≡ true
none_found p [] e = refl
none_found p (x ∷ xs) e = go (p x) refl e (none_found p xs)
  where
    go : (b : Bool) → p x ≡ b → cond b (Some x) (find p xs) ≡ None
        → (find p xs ≡ None → list_all (λ y. not (p y)) xs ≡ true)
        → (not (p x) && list_all (λ y. not (p y)) xs) ≡ true
    go true d e k = cc
    go false d e k = and_from _ _ (not_from_false (p x) d) (k e)

-- ---- each number passes

pub all_range : (t : ℕ → Bool) (s c : ℕ) → ((n : ℕ) → InRange s c n → t n ≡ true)
    → list_all t (numbers_from s c) ≡ true
all_range t s zero h = refl
all_range t s (suc c) h =
    and_from _ _ (h s (first_in s c)) (all_range t (s + 1) c (λ n i. h n (rest_in s c n i)))

pub all_filtered : (q t : ℕ → Bool) (s c : ℕ) → ((n : ℕ) → InRange s c n → q n ≡ true → t n ≡ true)
    → list_all t (filter q (numbers_from s c)) ≡ true
all_filtered q t s zero h = refl
all_filtered q t s (suc c) h =
    go (q s) refl (all_filtered q t (s + 1) c (λ n i. h n (rest_in s c n i)))
  where
    go : (b : Bool) → q s ≡ b → list_all t (filter q (numbers_from (s + 1) c)) ≡ true
        → list_all t
        (cond b (s ∷ filter q (numbers_from (s + 1) c)) (filter q (numbers_from (s + 1) c)))
        ≡ true
    go true d i = and_from _ _ (h s (first_in s c) d) i
    go false d i = i

pub length_filtered : (q : ℕ → Bool) (s c : ℕ) → length (filter q (numbers_from s c)) ≤ c
length_filtered q s zero = omega arith
length_filtered q s (suc c) = go (q s) (length_filtered q (s + 1) c)
  where
    go : (b : Bool) → length (filter q (numbers_from (s + 1) c)) ≤ c
        → length (cond b (s ∷ filter q (numbers_from (s + 1) c))
        (filter q (numbers_from (s + 1) c))) ≤ suc c
    go true i = omega (arith, i)
    go false i = omega (arith, i)

-- the one that passes after d others is at the place that those who pass before it give
pub at_filtered : (q : ℕ → Bool) (s c d : ℕ) → d < c → q (s + d) ≡ true
    → slice_get (filter q (numbers_from s c)) (length (filter q (numbers_from s d))) ≡ Some (s + d)
at_filtered q s zero d h e = absurd (omega (arith, h))
at_filtered q s (suc c) zero h e =
    let same : s + zero ≡ s = omega arith in
    let here : q s ≡ true = ap q (sym same) ∙ e in rw here (ap Some (sym same))
at_filtered q s (suc c) (suc d) h e =
    let same : s + 1 + d ≡ s + suc d = omega arith in
    go (q s) (at_filtered q (s + 1) c d (omega (arith, h)) (ap q same ∙ e) ∙ ap Some same)
  where
    go : (b : Bool)
        → slice_get (filter q (numbers_from (s + 1) c)) (length (filter q (numbers_from (s + 1) d)))
        ≡ Some (s + suc d)
        → slice_get
        (cond b (s ∷ filter q (numbers_from (s + 1) c)) (filter q (numbers_from (s + 1) c)))
        (length (cond b (s ∷ filter q (numbers_from (s + 1) d))
        (filter q (numbers_from (s + 1) d))))
        ≡ Some (s + suc d)
    go true i = i
    go false i = i

-- ---- sums over those that pass

filter_snoc : (q : ℕ → Bool) (s c : ℕ) → q (s + c) ≡ false
    → filter q (numbers_from s (suc c)) ≡ filter q (numbers_from s c)
filter_snoc q s zero e =
    let same : s + zero ≡ s = omega arith in
    let here : q s ≡ false = ap q (sym same) ∙ e in rw here refl
filter_snoc q s (suc c) e =
    let same : s + 1 + c ≡ s + suc c = omega arith in
    ap (λ ns. cond (q s) (s ∷ ns) ns) (filter_snoc q (s + 1) c (ap q same ∙ e))

-- where the sum up to each that passes has a bound, the whole sum has it
pub total_bound : (q : ℕ → Bool) (size : ℕ → ℕ) (most c : ℕ)
    → ((i : ℕ) → InRange 1 c i → q i ≡ true → sum_by size (filter q (numbers_from 1 i)) ≤ most)
    → sum_by size (filter q (numbers_from 1 c)) ≤ most
total_bound q size most zero h = omega arith
total_bound q size most (suc c) h =
    go (q (1 + c)) refl
    (total_bound q size most c
    (λ i r. h i (record { low = r.low; high = omega (arith, r.high) })))
  where
    go : (b : Bool) → q (1 + c) ≡ b → sum_by size (filter q (numbers_from 1 c)) ≤ most
        → sum_by size (filter q (numbers_from 1 (suc c))) ≤ most
    go true d i =
        let same : 1 + c ≡ suc c = omega arith in
        h (suc c) (record { low = omega arith; high = omega arith }) (ap q (sym same) ∙ d)
    go false d i = rw (filter_snoc q 1 c d) i

-- ---- pairs

abbrev pub pairs : (ℕ → ℕ) → List ℕ → List (ℕ × ℕ)
pairs count is = flat_map (λ i. map (λ j. (i, j)) (numbers_from 0 (count i))) is

pub length-numbers_from : (s c : ℕ) → length (numbers_from s c) ≡ c
length-numbers_from s zero = refl
length-numbers_from s (suc c) = let e : length (numbers_from (s + 1) c) ≡ c =
    length-numbers_from (s + 1) c in omega (arith, e)

pub length-map : {X Y : Type 0} (f : X → Y) (xs : List X) → length (map f xs) ≡ length xs
length-map f [] = refl
length-map f (x ∷ xs) = ap suc (length-map f xs)

pub length-pairs : (count : ℕ → ℕ) (is : List ℕ) → length (pairs count is) ≡ sum_by count is
length-pairs count [] = refl
length-pairs count (i ∷ is) =
    length-append (map (λ j. (i, j)) (numbers_from 0 (count i))) (pairs count is)
    ∙ ap (λ n. n + length (pairs count is))
    (length-map (λ (j : ℕ). (i, j)) (numbers_from 0 (count i))
    ∙ length-numbers_from 0 (count i))
    ∙ ap (λ n. count i + n) (length-pairs count is)
    ∙ sym (sum_by-cons count i is)

pub all_pairs : (q : ℕ → Bool) (count : ℕ → ℕ) (t : ℕ × ℕ → Bool) (s c : ℕ)
    → ((i j : ℕ) → InRange s c i → q i ≡ true → j < count i → t (i, j) ≡ true)
    → list_all t (pairs count (filter q (numbers_from s c))) ≡ true
all_pairs q count t s zero h = refl
all_pairs q count t s (suc c) h =
    go (q s) refl (all_pairs q count t (s + 1) c (λ i j r. h i j (rest_in s c i r)))
  where
    go : (b : Bool) → q s ≡ b → list_all t (pairs count (filter q (numbers_from (s + 1) c))) ≡ true
        → list_all t
        (pairs count
        (cond b (s ∷ filter q (numbers_from (s + 1) c)) (filter q (numbers_from (s + 1) c))))
        ≡ true
    go true d i =
        list_all-append t (map (λ j. (s, j)) (numbers_from 0 (count s)))
        (pairs count (filter q (numbers_from (s + 1) c)))
        ∙ and_from _ _
        (list_all-map t (λ (j : ℕ). (s, j)) (numbers_from 0 (count s))
        ∙ all_range (λ j. t (s, j)) 0 (count s)
        (λ j r. h s j (first_in s c) d (omega (arith, r.high))))
        i
    go false d i = i

-- ---- lists of answers

pub all_both : {X : Type 0} (t u : X → Bool) (xs : List X) → list_all t xs ≡ true
    → list_all u xs ≡ true → list_all (λ x. t x && u x) xs ≡ true
all_both t u [] h k = refl
all_both t u (x ∷ xs) h k =
    let a = and_parts (t x) (list_all t xs) h in
    let b = and_parts (u x) (list_all u xs) k in
    and_from _ _ (and_from _ _ a.0 b.0) (all_both t u xs a.1 b.1)

pub length-filter_map : {X Y : Type 0} (f : X → Option Y) (xs : List X)
    → length (filter_map f xs) ≤ length xs
length-filter_map {X} {Y} f [] = omega arith
length-filter_map {X} {Y} f (x ∷ xs) = go (f x) (length-filter_map f xs)
  where
    go : (o : Option Y) → length (filter_map f xs) ≤ length xs
        → length (cons_option o (filter_map f xs)) ≤ suc (length xs)
    go None i = omega (arith, i)
    go (Some y) i = omega (arith, i)

pub all_made : {X Y : Type 0} (f : X → Option Y) (u : X → Bool) (t : Y → Bool) (xs : List X)
    → ((x : X) (y : Y) → u x ≡ true → f x ≡ Some y → t y ≡ true) → list_all u xs ≡ true
    → list_all t (filter_map f xs) ≡ true
all_made {X} {Y} f u t [] h k = refl
all_made {X} {Y} f u t (x ∷ xs) h k = go (f x) refl (all_made f u t xs h parts.1)
  where
    parts : (u x ≡ true) × (list_all u xs ≡ true)
    parts = and_parts (u x) (list_all u xs) k

    go : (o : Option Y) → f x ≡ o → list_all t (filter_map f xs) ≡ true
        → list_all t (cons_option o (filter_map f xs)) ≡ true
    go None e i = i
    go (Some y) e i = and_from _ _ (h x y parts.0 e) i
