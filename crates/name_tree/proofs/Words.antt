-- Bytes in the order of the numbers that they make.
use Rattle.std.proofs.Common.{◌≡◌, ◌≢◌, ℕ, zero, suc, ◌+◌, ◌*◌, ◌<◌, ◌≤◌, nat_lt, List, []}
use Rattle.std.proofs.Common.{◌∷◌}
use Rattle.std.proofs.Common.{length, take, drop, get_or, refl, ap, sym, ◌∙◌, ◌⊎◌, inl, inr, arith}
use Rattle.std.proofs.Common.{Fits, w8, w32, w64}
use Rattle.std.specs.Int.{from_be_bytes}
use Rattle.std.specs.Cmp.Lexicographic.{slice_cmp}
use Rattle.std.specs.Ordering.{nat_cmp, ordering_then, is_lt, MatchOrdering}
use Rattle.std.specs.declared.cmp.Ordering.{Ordering}
use Rattle.std.specs.declared.cmp.Ordering.TheVariants.{Less, Equal, Greater}
use Rattle.std.proofs.lemmas.Bool.Decides.{nat_tests}
use Rattle.std.proofs.lemmas.Cmp.{ranked}
use Rattle.std.proofs.lemmas.List.{get_or-drop, drop-drop, length-drop, length-take-le}
use Rattle.omos_model.specs.Names.{name_cmp}
use Rattle.name_tree.specs.Order.{number_before}

-- each is a byte
abbrev pub AreBytes : List ℕ → Type 0
AreBytes xs = (k : ℕ) → Fits w8 (get_or xs k 0)

pub bytes_drop : (n : ℕ) (xs : List ℕ) → AreBytes xs → AreBytes (drop n xs)
bytes_drop n xs h k = rw (get_or-drop n xs k 0) (h (n + k))

is_less : (x y : ℕ) → x < y → nat_cmp x y ≡ Less
is_less x y l = grind (arith, nat_tests, l)

is_greater : (x y : ℕ) → y < x → nat_cmp x y ≡ Greater
is_greater x y l = grind (arith, nat_tests, l)

-- one byte more decides where the numbers are the same
digit : (m n x y : ℕ) → x < 256 → y < 256
    → nat_cmp (m * 256 + x) (n * 256 + y) ≡ ordering_then (nat_cmp m n) (nat_cmp x y)
digit m n x y a b = go (nat_cmp m n) refl (ranked m n (nat_cmp m n) refl)
  where
    last : (o : Ordering) → m ≡ n → MatchOrdering o (x < y) (x ≡ y) (y < x)
        → nat_cmp (m * 256 + x) (n * 256 + y) ≡ o
    last Less e l = is_less (m * 256 + x) (n * 256 + y) (omega arith)
    last Equal e l =
        let same : m * 256 + x ≡ n * 256 + y = omega arith in
        grind (arith, nat_tests, same)
    last Greater e l = is_greater (m * 256 + x) (n * 256 + y) (omega arith)

    go : (o : Ordering) → nat_cmp m n ≡ o → MatchOrdering o (m < n) (m ≡ n) (n < m)
        → nat_cmp (m * 256 + x) (n * 256 + y) ≡ ordering_then o (nat_cmp x y)
    go Less e l = is_less (m * 256 + x) (n * 256 + y) (omega arith)
    go Equal e l = last (nat_cmp x y) l (ranked x y (nat_cmp x y) refl)
    go Greater e l = is_greater (m * 256 + x) (n * 256 + y) (omega arith)

then_then : (o p q : Ordering)
    → ordering_then o (ordering_then p q) ≡ ordering_then (ordering_then o p) q
then_then Less p q = refl
then_then Equal p q = refl
then_then Greater p q = refl

words : (m n k : ℕ) (xs ys : List ℕ) → k ≤ length xs → k ≤ length ys → AreBytes xs → AreBytes ys
    → ordering_then (nat_cmp m n) (slice_cmp nat_cmp xs ys)
    ≡ ordering_then (nat_cmp (number_before m (take k xs)) (number_before n (take k ys)))
    (slice_cmp nat_cmp (drop k xs) (drop k ys))
words m n zero xs ys p q a b = refl
words m n (suc k) [] ys p q a b = absurd (omega arith)
words m n (suc k) (x ∷ xs) [] p q a b = absurd (omega arith)
words m n (suc k) (x ∷ xs) (y ∷ ys) p q a b =
    then_then (nat_cmp m n) (nat_cmp x y) (slice_cmp nat_cmp xs ys)
    ∙ ap (λ o. ordering_then o (slice_cmp nat_cmp xs ys))
    (sym (digit m n x y (a 0).fits (b 0).fits))
    ∙ words (m * 256 + x) (n * 256 + y) k xs ys (omega arith) (omega arith) (λ i. a (suc i))
    (λ i. b (suc i))

-- the first bytes of each from a position on
first : (w at : ℕ) (xs ys : List ℕ) → at + w ≤ length xs → at + w ≤ length ys → AreBytes xs
    → AreBytes ys
    → slice_cmp nat_cmp (drop at xs) (drop at ys)
    ≡ ordering_then
    (nat_cmp (number_before 0 (take w (drop at xs))) (number_before 0 (take w (drop at ys))))
    (slice_cmp nat_cmp (drop (at + w) xs) (drop (at + w) ys))
first w at xs ys p q a b =
    let o = nat_cmp (number_before 0 (take w (drop at xs)))
    (number_before 0 (take w (drop at ys))) in
    words 0 0 w (drop at xs) (drop at ys) (omega (arith, length-drop at xs))
    (omega (arith, length-drop at ys))
    (bytes_drop at xs a) (bytes_drop at ys b)
    ∙ ap (λ zs. ordering_then o (slice_cmp nat_cmp zs (drop w (drop at ys)))) (drop-drop w at xs)
    ∙ ap (λ zs. ordering_then o (slice_cmp nat_cmp (drop (at + w) xs) zs)) (drop-drop w at ys)

-- the numbers decide
decided : (x y : ℕ) (o : Ordering) → x ≢ y → nat_lt x y ≡ is_lt (ordering_then (nat_cmp x y) o)
decided x y o n = go (nat_cmp x y) refl (ranked x y (nat_cmp x y) refl)
  where
    go : (p : Ordering) → nat_cmp x y ≡ p → MatchOrdering p (x < y) (x ≡ y) (y < x)
        → nat_lt x y ≡ is_lt (ordering_then p o)
    go Less e l = grind (arith, nat_tests, l)
    go Equal e l = absurd (n l)
    go Greater e l = grind (arith, nat_tests, l)

pub word_decides : (w at x y : ℕ) (xs ys : List ℕ) → at + w ≤ length xs → at + w ≤ length ys
    → AreBytes xs
    → AreBytes ys → x ≡ number_before 0 (take w (drop at xs))
    → y ≡ number_before 0 (take w (drop at ys))
    → x ≢ y
    → nat_lt x y ≡ is_lt (name_cmp (drop at xs) (drop at ys))
word_decides w at x y xs ys p q a b e f n =
    let rest = slice_cmp nat_cmp (drop (at + w) xs) (drop (at + w) ys) in
    decided x y rest n
    ∙ ap (λ m. is_lt (ordering_then (nat_cmp m y) rest)) e
    ∙ ap (λ m. is_lt (ordering_then (nat_cmp (number_before 0 (take w (drop at xs))) m) rest)) f
    ∙ sym (ap is_lt (first w at xs ys p q a b))

-- where they are the same, the rest does
level : (x y : ℕ) → x ≡ y → nat_cmp x y ≡ Equal
level x y e = grind (arith, nat_tests, e)

pub word_passes : (w at x y : ℕ) (xs ys : List ℕ) → at + w ≤ length xs → at + w ≤ length ys
    → AreBytes xs
    → AreBytes ys → x ≡ number_before 0 (take w (drop at xs))
    → y ≡ number_before 0 (take w (drop at ys))
    → x ≡ y
    → name_cmp (drop (at + w) xs) (drop (at + w) ys) ≡ name_cmp (drop at xs) (drop at ys)
word_passes w at x y xs ys p q a b e f s =
    let rest = slice_cmp nat_cmp (drop (at + w) xs) (drop (at + w) ys) in
    sym (first w at xs ys p q a b
    ∙ ap (λ o. ordering_then o rest)
    (level (number_before 0 (take w (drop at xs))) (number_before 0 (take w (drop at ys)))
    (sym e ∙ s ∙ f)))

both_more : (m n : ℕ) → nat_lt (suc m) (suc n) ≡ nat_lt m n
both_more m n = grind (arith, nat_tests)

-- where one of both has ended, the shorter is below
pub ended : (at : ℕ) (xs ys : List ℕ) → at ≤ length xs → at ≤ length ys
    → (length xs ≤ at) ⊎ (length ys ≤ at)
    → nat_lt (length xs) (length ys) ≡ is_lt (name_cmp (drop at xs) (drop at ys))
ended zero [] [] p q m = refl
ended zero [] (y ∷ ys) p q m = grind (arith, nat_tests)
ended zero (x ∷ xs) [] p q m = grind (arith, nat_tests)
ended zero (x ∷ xs) (y ∷ ys) p q (inl l) = absurd (omega arith)
ended zero (x ∷ xs) (y ∷ ys) p q (inr l) = absurd (omega arith)
ended (suc at) [] ys p q m = absurd (omega arith)
ended (suc at) (x ∷ xs) [] p q m = absurd (omega arith)
ended (suc at) (x ∷ xs) (y ∷ ys) p q (inl l) =
    both_more (length xs) (length ys)
    ∙ ended at xs ys (omega arith) (omega arith) (inl (omega arith))
ended (suc at) (x ∷ xs) (y ∷ ys) p q (inr l) =
    both_more (length xs) (length ys)
    ∙ ended at xs ys (omega arith) (omega arith) (inr (omega arith))

-- a number read from eight bytes
eight_read : (xs : List ℕ) → length xs ≡ 8 → from_be_bytes w64 xs ≡ number_before 0 xs
eight_read (b0 ∷ b1 ∷ b2 ∷ b3 ∷ b4 ∷ b5 ∷ b6 ∷ b7 ∷ []) e = omega arith
eight_read (b0 ∷ b1 ∷ b2 ∷ b3 ∷ b4 ∷ b5 ∷ b6 ∷ b7 ∷ b8 ∷ bs) e = absurd (omega arith)
eight_read [] e = absurd (omega arith)
eight_read (b0 ∷ []) e = absurd (omega arith)
eight_read (b0 ∷ b1 ∷ []) e = absurd (omega arith)
eight_read (b0 ∷ b1 ∷ b2 ∷ []) e = absurd (omega arith)
eight_read (b0 ∷ b1 ∷ b2 ∷ b3 ∷ []) e = absurd (omega arith)
eight_read (b0 ∷ b1 ∷ b2 ∷ b3 ∷ b4 ∷ []) e = absurd (omega arith)
eight_read (b0 ∷ b1 ∷ b2 ∷ b3 ∷ b4 ∷ b5 ∷ []) e = absurd (omega arith)
eight_read (b0 ∷ b1 ∷ b2 ∷ b3 ∷ b4 ∷ b5 ∷ b6 ∷ []) e = absurd (omega arith)

pub word_is : (at : ℕ) (xs : List ℕ) → at + 8 ≤ length xs
    → from_be_bytes w64 (take 8 (drop at xs)) ≡ number_before 0 (take 8 (drop at xs))
word_is at xs l =
    eight_read (take 8 (drop at xs))
    (length-take-le 8 (drop at xs) (omega (arith, length-drop at xs)))

-- and one read from four
four_read : (xs : List ℕ) → length xs ≡ 4 → from_be_bytes w32 xs ≡ number_before 0 xs
four_read (b0 ∷ b1 ∷ b2 ∷ b3 ∷ []) e = omega arith
four_read (b0 ∷ b1 ∷ b2 ∷ b3 ∷ b4 ∷ bs) e = absurd (omega arith)
four_read [] e = absurd (omega arith)
four_read (b0 ∷ []) e = absurd (omega arith)
four_read (b0 ∷ b1 ∷ []) e = absurd (omega arith)
four_read (b0 ∷ b1 ∷ b2 ∷ []) e = absurd (omega arith)

pub half_is : (at : ℕ) (xs : List ℕ) → at + 4 ≤ length xs
    → from_be_bytes w32 (take 4 (drop at xs)) ≡ number_before 0 (take 4 (drop at xs))
half_is at xs l =
    four_read (take 4 (drop at xs))
    (length-take-le 4 (drop at xs) (omega (arith, length-drop at xs)))
