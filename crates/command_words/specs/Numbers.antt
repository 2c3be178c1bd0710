-- The words of a command line that are numbers.
use Rattle.std.specs.Prelude.{ℕ, ◌+◌, ◌-◌, ◌*◌, ◌==◌, nat_le, Bool, false, not, ◌&&◌, List, ◌∷◌}
use Rattle.std.specs.Prelude.{length, fold, Option, None, Some, if◌then◌else◌}
use Rattle.std.specs.List.{list_all}

-- `0` to `9`
abbrev pub is_digit : ℕ → Bool
is_digit byte = nat_le 48 byte && nat_le byte 57

-- a zero stands before another digit
abbrev pub has_lead : List ℕ → Bool
has_lead (first ∷ second ∷ rest) = first == 48
has_lead _ = false

-- 1 to 9 decimal digits, of which the first is a zero only where it is the only one
abbrev pub is_number : List ℕ → Bool
is_number word =
    nat_le 1 (length word) && nat_le (length word) 9 && list_all is_digit word
    && not (has_lead word)

-- the value of decimal digits
abbrev pub decimal_value : List ℕ → ℕ
decimal_value word = fold (λ value byte. 10 * value + (byte - 48)) 0 word

-- the number that a word says, if it says one
abbrev pub number_said : List ℕ → Option ℕ
number_said word = if is_number word then Some (decimal_value word) else None
