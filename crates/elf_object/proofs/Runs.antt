-- A run of numbers as it is counted up: the first that passes a test, and all that pass it.
use Rattle.std.proofs.Common.{◌≡◌, ℕ, zero, suc, ◌+◌, ◌-◌, ◌<◌, ◌≤◌, Bool, true, false, Option}
use Rattle.std.proofs.Common.{Some, None}
use Rattle.std.proofs.Common.{List, ◌∷◌, ◌++◌, refl, sym, ap, subst, ◌∙◌, cond, arith}
use Rattle.std.specs.Prelude.{filter}
use Rattle.std.specs.List.{find}
use Rattle.std.specs.Option.{is_some, option_to_list}
use Rattle.omos_model.specs.Numbers.{numbers_from}
use Rattle.omos_model.proofs.Ranges.{InRange, first_in, rest_in}

split : (i n : ℕ) → i < n → n - i ≡ suc (n - (i + 1))
split i n h = omega arith

-- none passes at its first number
pub find_next : (p : ℕ → Bool) (i n : ℕ) → i < n → p i ≡ false
    → find p (numbers_from i (n - i)) ≡ find p (numbers_from (i + 1) (n - (i + 1)))
find_next p i n h miss =
    ap (λ (c : ℕ). find p (numbers_from i c)) (split i n h)
    ∙ ap (λ (b : Bool). cond b (Some i) (find p (numbers_from (i + 1) (n - (i + 1))))) miss

-- its first number passes
pub find_here : (p : ℕ → Bool) (i n : ℕ) → i < n → p i ≡ true
    → find p (numbers_from i (n - i)) ≡ Some i
find_here p i n h hit =
    ap (λ (c : ℕ). find p (numbers_from i c)) (split i n h)
    ∙ ap (λ (b : Bool). cond b (Some i) (find p (numbers_from (i + 1) (n - (i + 1))))) hit

-- its numbers begin
pub find_begin : (p : ℕ → Bool) (n : ℕ)
    → find p (numbers_from 0 n) ≡ find p (numbers_from 0 (n - 0))
find_begin p n = let all : n ≡ n - 0 = omega arith in ap (λ (c : ℕ). find p (numbers_from 0 c)) all

-- its numbers are at an end
pub find_done : (p : ℕ → Bool) (i n : ℕ) → n ≤ i → find p (numbers_from i (n - i)) ≡ None
find_done p i n h =
    let none : n - i ≡ 0 = omega arith in ap (λ (c : ℕ). find p (numbers_from i c)) none

pub filter_next : (p : ℕ → Bool) (i n : ℕ) → i < n → p i ≡ false
    → filter p (numbers_from i (n - i)) ≡ filter p (numbers_from (i + 1) (n - (i + 1)))
filter_next p i n h miss =
    let rest = filter p (numbers_from (i + 1) (n - (i + 1))) in
    ap (λ (c : ℕ). filter p (numbers_from i c)) (split i n h)
    ∙ ap (λ (b : Bool). cond b (i ∷ rest) rest) miss

pub filter_here : (p : ℕ → Bool) (i n : ℕ) → i < n → p i ≡ true
    → filter p (numbers_from i (n - i)) ≡ i ∷ filter p (numbers_from (i + 1) (n - (i + 1)))
filter_here p i n h hit =
    let rest = filter p (numbers_from (i + 1) (n - (i + 1))) in
    ap (λ (c : ℕ). filter p (numbers_from i c)) (split i n h)
    ∙ ap (λ (b : Bool). cond b (i ∷ rest) rest) hit

-- ---- those that pass, of which one was found at most

none_yet : (o : Option ℕ) → is_some o ≡ false → o ≡ None
none_yet None e = refl
none_yet (Some x) e = cc

pub one_found : (p : ℕ → Bool) (xs : List ℕ) (o now : Option ℕ) (i n : ℕ) → i < n → p i ≡ true
    → is_some o ≡ false → now ≡ Some i
    → xs ≡ option_to_list o ++ filter p (numbers_from i (n - i))
    → xs ≡ option_to_list now ++ filter p (numbers_from (i + 1) (n - (i + 1)))
one_found p xs o now i n h hit first is e =
    e ∙ rw (none_yet o first, is) (filter_here p i n h hit)

pub none_found : (p : ℕ → Bool) (xs : List ℕ) (o now : Option ℕ) (i n : ℕ) → i < n → p i ≡ false
    → now ≡ o
    → xs ≡ option_to_list o ++ filter p (numbers_from i (n - i))
    → xs ≡ option_to_list now ++ filter p (numbers_from (i + 1) (n - (i + 1)))
none_found p xs o now i n h miss is e =
    e ∙ rw is (ap (λ ys. option_to_list o ++ ys) (filter_next p i n h miss))

-- ---- what was found

pub found_in : (p : ℕ → Bool) (s c k : ℕ) → find p (numbers_from s c) ≡ Some k
    → InRange s c k × (p k ≡ true)
found_in p s zero k e = cc
found_in p s (suc c) k e = go (p s) refl e (found_in p (s + 1) c k)
  where
    go : (b : Bool) → p s ≡ b → cond b (Some s) (find p (numbers_from (s + 1) c)) ≡ Some k
        → (find p (numbers_from (s + 1) c) ≡ Some k → InRange (s + 1) c k × (p k ≡ true))
        → InRange s (suc c) k × (p k ≡ true)
    go true d i rest =
        let same : s ≡ k = cc in
        (subst (λ n. InRange s (suc c) n) same (first_in s c), ap p (sym same) ∙ d)
    go false d i rest = let more = rest i in (rest_in s c k more.0, more.1)
