-- Values at a place each: their keys are the numbers from 0.
use Rattle.std.proofs.Common.{◌≡◌, ℕ, zero, suc, ◌+◌, ◌<◌, ◌≤◌, List, [], ◌∷◌, ◌++◌}
use Rattle.std.proofs.Common.{length, ap, ◌∙◌, refl, arith}
use Rattle.std.specs.List.{cons_option, range_with_len, slice_get}
use Rattle.std.proofs.lemmas.List.Elements.{All-nil, All-cons}
use Rattle.dict_row.specs.Keys.{AreKeys, decoded}

pub range_more : (a n : ℕ) → range_with_len a (suc n) ≡ range_with_len a n ++ (a + n) ∷ []
range_more a zero = ap (λ m. m ∷ []) (omega arith)
range_more a (suc n) =
    ap (λ ns. a ∷ ns)
    (range_more (a + 1) n ∙ ap (λ m. range_with_len (a + 1) n ++ m ∷ []) (omega arith))

below : (a n count : ℕ) → a + n ≤ count → AreKeys (range_with_len a n) count
below a zero count h = All-nil (λ key. key < count)
below a (suc n) count h =
    All-cons (λ key. key < count) a (range_with_len (a + 1) n) (omega (arith, h))
    (below (a + 1) n count (omega (arith, h)))

pub are_own_keys : (count : ℕ) → AreKeys (range_with_len 0 count) count
are_own_keys count = below 0 count count (omega arith)

behind_first : {T : Type 0} (x : T) (values : List T) (a n : ℕ)
    → decoded (x ∷ values) (range_with_len (a + 1) n) ≡ decoded values (range_with_len a n)
unfolding decoded
behind_first x values a zero = refl
behind_first x values a (suc n) =
    let next : a + 1 ≡ suc a = omega arith in
    ap (λ o. cons_option o (decoded (x ∷ values) (range_with_len (a + 1 + 1) n)))
    (ap (slice_get (x ∷ values)) next)
    ∙ ap (cons_option (slice_get values a)) (behind_first x values (a + 1) n)

pub decoded_by_own : {T : Type 0} (values : List T)
    → decoded values (range_with_len 0 (length values)) ≡ values
unfolding decoded
decoded_by_own [] = refl
decoded_by_own (x ∷ values) =
    ap (λ xs. x ∷ xs) (behind_first x values 0 (length values) ∙ decoded_by_own values)
