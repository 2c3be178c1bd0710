-- Sums over lists, and places in them.
use Rattle.std.proofs.Common.{◌≡◌, ◌⊎◌, ℕ, zero, suc, ◌+◌, ◌*◌, ◌<◌, ◌≤◌, List, [], ◌∷◌, ◌++◌}
use Rattle.std.proofs.Common.{length, set, Bool, true, false, true≢false, refl, sym, ap, ◌∙◌, inl}
use Rattle.std.proofs.Common.{inr, ⊎_elim, arith, suc-mul}
use mathlib.Core.Option.{Option as Maybe, some, some-ne-none, some-injective}
use lib.ListN.{get_elem?}
use Rattle.turn_lock.specs.Views.{total}

module _ {V : Type 0} (f : V → ℕ) where
  pub total_set : (vs : List V) (i : ℕ) (v w : V) → get_elem? vs i ≡ some v
      → total f (set vs i w) + f v ≡ total f vs + f w
  total_set [] i v w e = absurd (some-ne-none v (sym e))
  total_set (x ∷ xs) zero v w e = let h : f x ≡ f v = ap f (some-injective x v e) in omega arith
  total_set (x ∷ xs) (suc i) v w e = let h = total_set xs i v w e in omega (arith, h)

  pub total_snoc : (vs : List V) (w : V) → total f (vs ++ w ∷ []) ≡ total f vs + f w
  total_snoc [] w = omega arith
  total_snoc (x ∷ xs) w = let h = total_snoc xs w in omega (arith, h)

  pub total_le : (vs : List V) (m : ℕ) → ((i : ℕ) (v : V) → get_elem? vs i ≡ some v → f v ≤ m)
      → total f vs ≤ length vs * m
  total_le [] m h = omega arith
  total_le (x ∷ xs) m h =
      let one : f x ≤ m = h zero x refl in
      let more : total f xs ≤ length xs * m = total_le xs m (λ i v e. h (suc i) v e) in
      omega (arith, suc-mul (length xs) m)

  pub total_none : (vs : List V) → ((i : ℕ) (v : V) → get_elem? vs i ≡ some v → f v ≡ 0)
      → total f vs ≡ 0
  total_none [] h = refl
  total_none (x ∷ xs) h =
      let one : f x ≡ 0 = h zero x refl in
      let more = total_none xs (λ i v e. h (suc i) v e) in
      omega (arith, more)

pub inside : {A : Type 0} (l : List A) (i : ℕ) (a : A) → get_elem? l i ≡ some a → i < length l
inside [] i a e = absurd (some-ne-none a (sym e))
inside (x ∷ xs) zero a e = omega arith
inside (x ∷ xs) (suc i) a e = let h = inside xs i a e in omega (arith, h)

pub same_some : {A : Type 0} (m : Maybe A) (a b : A) → m ≡ some a → m ≡ some b → a ≡ b
same_some m a b e f = some-injective a b (sym e ∙ f)

pub not_both : (b : Bool) → b ≡ true → b ≡ false → ⊥
not_both b t f = true≢false (sym t ∙ f)

pub snoc_cases : {A : Type 0} (l : List A) (a b : A) (j : ℕ) → get_elem? (l ++ a ∷ []) j ≡ some b
    → (get_elem? l j ≡ some b) ⊎ ((j ≡ length l) × (a ≡ b))
snoc_cases [] a b zero e = inr (refl, some-injective a b e)
snoc_cases [] a b (suc j) e = absurd (some-ne-none b (sym e))
snoc_cases (x ∷ xs) a b zero e = inl e
snoc_cases (x ∷ xs) a b (suc j) e =
    ⊎_elim (λ h. inl h) (λ (h : (j ≡ length xs) × (a ≡ b)). inr (ap suc h.0, h.1))
    (snoc_cases xs a b j e)

-- of two beginnings of one list, the shorter begins the longer
pub overlap : {X : Type 0} (xs us ys vs : List X) → xs ++ us ≡ ys ++ vs → length xs ≤ length ys
    → (d : List X) × (ys ≡ xs ++ d) × (us ≡ d ++ vs)
overlap [] us ys vs e le = (ys, refl, e)
overlap (x ∷ xs) us [] vs e le = absurd (omega arith)
overlap (x ∷ xs) us (y ∷ ys) vs e le =
    let tails : xs ++ us ≡ ys ++ vs = cc in
    let heads : x ≡ y = cc in
    let h = overlap xs us ys vs tails (omega arith) in
    (h.0, (λ i. sym heads i ∷ h.1 i), h.2)

pub none_front : {X : Type 0} (xs ys : List X) → xs ++ ys ≡ [] → xs ≡ []
none_front [] ys e = refl
none_front (x ∷ xs) ys e = cc

pub none_back : {X : Type 0} (xs ys : List X) → xs ++ ys ≡ [] → ys ≡ []
none_back [] ys e = e
none_back (x ∷ xs) ys e = cc
