-- Streams to which frames are added.
use Rattle.std.proofs.Common.{◌≡◌, ℕ, zero, suc, ◌+◌, ◌-◌, ◌≤◌, List, [], ◌∷◌, ◌++◌, sym, ap, subst}
use Rattle.std.proofs.Common.{◌∙◌, arith, append_assoc, append-nil, map}
use Rattle.std.proofs.lemmas.Grind.{flat_map-append}
use Rattle.std.proofs.lemmas.List.{map-append}
use Rattle.std.specs.List.{AllByRecursion, flat_map}
use Rattle.omos_model.specs.Numbers.{numbers_from}
use Rattle.omos_wire.specs.Message.{Message, frame, HasFrame}
use Rattle.std.specs.Prelude.{codes, decimal}
use Rattle.workload_calls.specs.Stream.{object_path, operands, AddsFrames}

all_both : {X : Type 0} (P : X → Type 0) (xs ys : List X) → AllByRecursion P xs
    → AllByRecursion P ys → AllByRecursion P (xs ++ ys)
all_both P [] ys a b = b
all_both P (x ∷ xs) ys a b = (a.0, all_both P xs ys a.1 b)

-- nothing was added
pub adds_none : (old : List ℕ) → AddsFrames old old []
adds_none old = (sym (append-nil old), tt)

-- one after the other
pub adds_then : (a b c : List ℕ) (xs ys : List Message) → AddsFrames a b xs → AddsFrames b c ys
    → AddsFrames a c (xs ++ ys)
adds_then a b c xs ys one two = (
  two.0 ∙ ap (λ (l : List ℕ). l ++ flat_map frame ys) one.0
      ∙ append_assoc a (flat_map frame xs) (flat_map frame ys)
      ∙ ap (λ (l : List ℕ). a ++ l) (sym (flat_map-append frame xs ys)),
  all_both HasFrame xs ys one.1 two.1,
)

pub numbers_from-last : (s c : ℕ) → numbers_from s (c + 1) ≡ numbers_from s c ++ (s + c) ∷ []
numbers_from-last s zero =
    let e : s ≡ s + zero = omega arith in ap (λ n. n ∷ []) e
numbers_from-last s (suc c) =
    let d : suc c + 1 ≡ suc (c + 1) = omega arith in
    let e : s + 1 + c ≡ s + suc c = omega arith in
    ap (numbers_from s) d
    ∙ ap (λ ns. s ∷ ns) (numbers_from-last (s + 1) c ∙ ap (λ n. numbers_from (s + 1) c ++ n ∷ []) e)

-- the numbers from 0 below i, and i
pub below : (i : ℕ) → numbers_from 0 (i + 1) ≡ numbers_from 0 i ++ i ∷ []
below i = let e : 0 + i ≡ i = omega arith in
    numbers_from-last 0 i ∙ ap (λ n. numbers_from 0 i ++ n ∷ []) e

-- the numbers from 1 below i, and i
pub up_to : (i : ℕ) → 1 ≤ i → numbers_from 1 (i + 1 - 1) ≡ numbers_from 1 (i - 1) ++ i ∷ []
up_to i h =
    let e : i + 1 - 1 ≡ i - 1 + 1 = omega arith in
    let f : 1 + (i - 1) ≡ i = omega arith in
    ap (numbers_from 1) e ∙ numbers_from-last 1 (i - 1)
    ∙ ap (λ n. numbers_from 1 (i - 1) ++ n ∷ []) f

-- one number's request more
pub adds_next : (f : ℕ → Message) (a b c : List ℕ) (is js : List ℕ) (i : ℕ) → js ≡ is ++ i ∷ []
    → AddsFrames a b (map f is) → AddsFrames b c (f i ∷ []) → AddsFrames a c (map f js)
adds_next f a b c is js i more one two =
    subst (λ (ms : List Message). AddsFrames a c ms)
    (sym (ap (map f) more ∙ map-append f is (i ∷ [])))
    (adds_then a b c (map f is) (f i ∷ []) one two)

-- one number's requests more
pub adds_more : (f : ℕ → List Message) (a b c : List ℕ) (is js : List ℕ) (i : ℕ) → js ≡ is ++ i ∷ []
    → AddsFrames a b (flat_map f is) → AddsFrames b c (f i) → AddsFrames a c (flat_map f js)
adds_more f a b c is js i more one two =
    subst (λ (ms : List Message). AddsFrames a c ms)
    (sym (ap (flat_map f) more ∙ flat_map-append f is (i ∷ [])
    ∙ ap (λ (ms : List Message). flat_map f is ++ ms) (append-nil (f i))))
    (adds_then a b c (flat_map f is) (f i) one two)

-- all numbers' requests
pub adds_mapped : (f : ℕ → Message) (a b c : List ℕ) (xs : List Message) (i n : ℕ) → i - 1 ≡ n - 1
    → AddsFrames a b xs → AddsFrames b c (map f (numbers_from 1 (i - 1)))
    → AddsFrames a c (xs ++ map f (numbers_from 1 (n - 1)))
adds_mapped f a b c xs i n same one two =
    adds_then a b c xs (map f (numbers_from 1 (n - 1))) one
    (subst (λ (k : ℕ). AddsFrames b c (map f (numbers_from 1 k))) same two)

pub adds_all : (f : ℕ → List Message) (a b c : List ℕ) (xs : List Message) (i n : ℕ) → i - 1 ≡ n - 1
    → AddsFrames a b xs → AddsFrames b c (flat_map f (numbers_from 1 (i - 1)))
    → AddsFrames a c (xs ++ flat_map f (numbers_from 1 (n - 1)))
adds_all f a b c xs i n same one two =
    adds_then a b c xs (flat_map f (numbers_from 1 (n - 1))) one
    (subst (λ (k : ℕ). AddsFrames b c (flat_map f (numbers_from 1 k))) same two)

pub adds_to : (f : ℕ → Message) (a b : List ℕ) (i n : ℕ) → i ≡ n
    → AddsFrames a b (map f (numbers_from 0 i)) → AddsFrames a b (map f (numbers_from 0 n))
adds_to f a b i n same one = subst (λ (k : ℕ). AddsFrames a b (map f (numbers_from 0 k))) same one

-- ---- operands

pub operand_more : (i : ℕ) (old new : List ℕ) → old ≡ operands i
    → new ≡ old ++ codes " /o/" ++ decimal i → new ≡ operands (i + 1)
operand_more i old new before is =
    is ∙ append_assoc old (codes " /o/") (decimal i)
    ∙ ap (λ (l : List ℕ). l ++ (codes " /o/" ++ decimal i)) before
    ∙ sym (ap (flat_map (λ k. codes " " ++ object_path k)) (below i)
    ∙ flat_map-append (λ k. codes " " ++ object_path k) (numbers_from 0 i) (i ∷ [])
    ∙ ap (λ (l : List ℕ). operands i ++ l) (append-nil (codes " " ++ object_path i)))
