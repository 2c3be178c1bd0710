-- Numbers in texts.
use Rattle.std.specs.Prelude.{◌≡◌, ℕ, ◌<◌, ◌≤◌, ◌^◌, ◌⊎◌, List, ◌∷◌, length}
use Rattle.std.specs.Str.Parse.{IsNumeral, digits_value}

-- 1 to 20 decimal digits
abbrev pub IsDecimalOf : List ℕ → ℕ → Type 0
IsDecimalOf word n = IsNumeral 10 word × (length word ≤ 20) × (n ≡ digits_value 10 word)

-- `0x` and 1 to 16 hexadecimal digits, of either case
abbrev pub IsHexOf : List ℕ → ℕ → Type 0
IsHexOf word n =
    (ds : List ℕ) × (word ≡ 48 ∷ 120 ∷ ds) × IsNumeral 16 ds × (length ds ≤ 16)
    × (n ≡ digits_value 16 ds)

-- the word is the number, which is at most 2^64 - 1
abbrev pub IsNumeralOf : List ℕ → ℕ → Type 0
IsNumeralOf word n = (IsDecimalOf word n ⊎ IsHexOf word n) × (n < 2 ^ 64)

-- the bytes are no digits of the base, or their number is too large
abbrev pub IsNoNumeral : ℕ → List ℕ → Type 0
IsNoNumeral base ds = IsNumeral base ds × (digits_value base ds < 2 ^ 64) → ⊥
