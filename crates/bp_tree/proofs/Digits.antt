-- Digits that are a number, and those that are none.
use Rattle.std.proofs.Common.{◌≡◌, ◌≤◌, ◌<◌, ◌^◌, ◌==◌, ℕ, zero, suc, List, [], ◌∷◌, refl, sym}
use Rattle.std.proofs.Common.{subst, ◌∙◌, ap, inl, inr, arith, length, false, slice_index, Option}
use Rattle.std.proofs.Common.{Some, None, MatchOption}
use Rattle.std.specs.Char.{digit_value}
use Rattle.std.specs.Str.{IsAscii, IsUtf8}
use Rattle.std.specs.Str.Parse.{AllDigits, IsNumeral, digits_value, without_leading_plus}
use Rattle.std.proofs.lemmas.Str.{IsUtf8-from_ascii}
use Rattle.bp_tree.specs.Numerals.{IsNumeralOf, IsDecimalOf, IsNoNumeral}

small_digit : (c : ℕ) → digit_value c < 36 → c < 128
small_digit c h = grind arith

ascii : (base : ℕ) (ds : List ℕ) → base ≤ 16 → AllDigits base ds → IsAscii ds
ascii base [] b d i = omega arith
ascii base (c ∷ cs) b d zero = small_digit c (omega (arith, d.0))
ascii base (c ∷ cs) b d (suc i) = ascii base cs b d.1 i

pub utf8 : (base : ℕ) (ds : List ℕ) → base ≤ 16 → (IsUtf8 ds → ⊥) → IsNoNumeral base ds
utf8 base ds b none h = none (IsUtf8-from_ascii ds (ascii base ds b h.0.1))

plus_value : digit_value 43 ≡ 36
plus_value = refl

pub plus : (base : ℕ) (ds : List ℕ) → base ≤ 16 → slice_index ds 0 ≡ 43 → IsNoNumeral base ds
plus base [] b e h = omega (arith, h.0.0)
plus base (c ∷ cs) b e h =
    let near : digit_value 43 < base = subst (λ d. digit_value d < base) e h.0.1.0 in omega arith

pub no_plus : (ds : List ℕ) → (slice_index ds 0 ≡ 43 → ⊥) → without_leading_plus ds ≡ ds
no_plus ds other = let e : (slice_index ds 0 == 43) ≡ false = grind arith in rw e refl

-- ---- words

pub hex_number : (word ds : List ℕ) (n : ℕ) → word ≡ 48 ∷ 120 ∷ ds → length ds ≤ 16 → n < 2 ^ 64
    → IsNumeral 16 ds × (n ≡ digits_value 16 ds) → IsNumeralOf word n
hex_number word ds n e short small h = (inr (ds, e, h.0, short, h.1), small)

no_decimal : (word ds : List ℕ) (n : ℕ) → word ≡ 48 ∷ 120 ∷ ds → IsDecimalOf word n → ⊥
no_decimal word ds n e h =
    let P : List ℕ → Type 0 = IsNumeral 10 in
    let k : IsNumeral 10 (48 ∷ 120 ∷ ds) = subst P e h.0 in
    let far : digit_value 120 < 10 = k.1.1.0 in omega arith

pub no_hex_number : (word ds : List ℕ) → word ≡ 48 ∷ 120 ∷ ds → (length ds ≤ 16 → IsNoNumeral 16 ds)
    → (n : ℕ) → IsNumeralOf word n → ⊥
no_hex_number word ds e none n h =
    elim h.0 [
      | inl d ↦ no_decimal word ds n e d
      | inr x ↦
          let q : 48 ∷ 120 ∷ ds ≡ 48 ∷ 120 ∷ x.0 = sym e ∙ x.1 in
          let same : ds ≡ x.0 = cc in
          let P : List ℕ → Type 0 = λ us. IsNumeral 16 us in
          let small : digits_value 16 ds < 2 ^ 64 = rw same (omega (arith, x.4, h.1)) in
          let short : length ds ≤ 16 = rw same x.3 in
          none short (subst P (sym same) x.2, small)
    ]

pub decimal_number : (word : List ℕ) (n : ℕ) → length word ≤ 20 → n < 2 ^ 64
    → IsNumeral 10 word × (n ≡ digits_value 10 word) → IsNumeralOf word n
decimal_number word n short small h = (inl (h.0, short, h.1), small)

pub no_decimal_number : (word : List ℕ) → ((ds : List ℕ) → word ≡ 48 ∷ 120 ∷ ds → ⊥)
    → (length word ≤ 20 → IsNoNumeral 10 word) → (n : ℕ) → IsNumeralOf word n → ⊥
no_decimal_number word plain none n h =
    elim h.0 [
      | inl d ↦ none d.1 (d.0, omega (arith, d.2, h.1))
      | inr x ↦ plain x.0 x.1
    ]

-- a word is one number
pub one_number : (word : List ℕ) (n m : ℕ) → IsNumeralOf word n → IsNumeralOf word m → n ≡ m
one_number word n m h k =
    elim h.0 [
      | inl d ↦
          elim k.0 [
            | inl e ↦ d.2 ∙ sym e.2
            | inr y ↦ absurd (no_decimal word y.0 n y.1 d)
          ]
      | inr x ↦
          elim k.0 [
            | inl e ↦ absurd (no_decimal word x.0 m x.1 e)
            | inr y ↦
                let q : 48 ∷ 120 ∷ x.0 ≡ 48 ∷ 120 ∷ y.0 = sym x.1 ∙ y.1 in
                let same : x.0 ≡ y.0 = cc in x.4 ∙ ap (digits_value 16) same ∙ sym y.4
          ]
    ]

pub option_onward : {T : Type 0} (r : Option T) (N N' : Type 0) (P P' : T → Type 0)
    → MatchOption r N P → (N → N') → ((v : T) → P v → P' v) → MatchOption r N' P'
option_onward None N N' P P' h f g = f h
option_onward (Some v) N N' P P' h f g = g v h
