-- Sums over lists, and how often a number stands in one.
use Rattle.std.proofs.Common.{◌≡◌, ℕ, zero, suc, ◌+◌, ◌≤◌, List, [], ◌∷◌, ◌++◌, set, cond, eqb}
use Rattle.std.proofs.Common.{refl, sym, ap, arith}
use mathlib.Core.Option.{some, some-ne-none, some-injective}
use lib.ListN.{get_elem?}
use Rattle.std.proofs.lemmas.Bool.Decides.{nat_tests}
use Rattle.worker_line.specs.Numbers.{times, once_below}
use Rattle.worker_line.specs.inside.Shares.{sum_over}

module _ {V : Type 0} (f : V → ℕ) where
  pub total_set : (vs : List V) (i : ℕ) (v w : V) → get_elem? vs i ≡ some v
      → sum_over f (set vs i w) + f v ≡ sum_over f vs + f w
  total_set [] i v w e = absurd (some-ne-none v (sym e))
  total_set (x ∷ xs) zero v w e = let h : f x ≡ f v = ap f (some-injective x v e) in omega arith
  total_set (x ∷ xs) (suc i) v w e = let h = total_set xs i v w e in omega (arith, h)

  pub total_snoc : (vs : List V) (w : V) → sum_over f (vs ++ w ∷ []) ≡ sum_over f vs + f w
  total_snoc [] w = omega arith
  total_snoc (x ∷ xs) w = let h = total_snoc xs w in omega (arith, h)

  pub total_none : (vs : List V) → ((i : ℕ) (v : V) → get_elem? vs i ≡ some v → f v ≡ 0)
      → sum_over f vs ≡ 0
  total_none [] h = refl
  total_none (x ∷ xs) h =
      let one : f x ≡ 0 = h zero x refl in
      let more = total_none xs (λ i v e. h (suc i) v e) in
      omega (arith, more)

  pub total_at : (vs : List V) (i : ℕ) (v : V) → get_elem? vs i ≡ some v → f v ≤ sum_over f vs
  total_at [] i v e = absurd (some-ne-none v (sym e))
  total_at (x ∷ xs) zero v e = let h : f x ≡ f v = ap f (some-injective x v e) in omega arith
  total_at (x ∷ xs) (suc i) v e = let h = total_at xs i v e in omega (arith, h)

module _ {V : Type 0} (f g : V → ℕ) where
  pub total_mono : (vs : List V) → ((i : ℕ) (v : V) → get_elem? vs i ≡ some v → f v ≤ g v)
      → sum_over f vs ≤ sum_over g vs
  total_mono [] h = omega arith
  total_mono (x ∷ xs) h =
      let one : f x ≤ g x = h zero x refl in
      let more = total_mono xs (λ i v e. h (suc i) v e) in
      omega (arith, more)

  -- one has all that f counts, so it has all that g counts
  pub all_in_one : (vs : List V) (i : ℕ) (v : V) → get_elem? vs i ≡ some v → sum_over f vs ≤ f v
      → ((j : ℕ) (u : V) → get_elem? vs j ≡ some u → f u ≡ 0 → g u ≡ 0) → sum_over g vs ≡ g v
  all_in_one [] i v e le idle = absurd (some-ne-none v (sym e))
  all_in_one (x ∷ xs) zero v e le idle =
      let is : x ≡ v = some-injective x v e in
      let h : f x ≡ f v = ap f is in
      let k : g x ≡ g v = ap g is in
      let none_left : sum_over g xs ≡ 0 = total_none g xs
      (λ j u a. let b = total_at f xs j u a in idle (suc j) u a (omega (arith, le, h, b))) in
      omega (arith, k, none_left)
  all_in_one (x ∷ xs) (suc i) v e le idle =
      let b = total_at f xs i v e in
      let first : g x ≡ 0 = idle zero x refl (omega (arith, le, b)) in
      let more = all_in_one xs i v e (omega (arith, le)) (λ j u a. idle (suc j) u a) in
      omega (arith, first, more)

pub times-append : (x : ℕ) (xs ys : List ℕ) → times x (xs ++ ys) ≡ times x xs + times x ys
times-append x [] ys = omega arith
times-append x (y ∷ xs) ys = let h = times-append x xs ys in omega (arith, h)

pub once_more : (x n : ℕ) → once_below x (n + 1) ≡ once_below x n + (cond (eqb n x) 1 0 + 0)
once_more x n = grind (arith, nat_tests)

pub once_one : (x n : ℕ) → once_below x n ≤ 1
once_one x n = grind (arith, nat_tests)

pub once_not : (n : ℕ) → once_below n n ≡ 0
once_not n = grind (arith, nat_tests)
