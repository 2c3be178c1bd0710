-- What isn't found in a list counts as if it followed the last.
use Rattle.std.proofs.Common.{◌≡◌, Bool, true, false, cond, not, List, length, Some, None, refl}
use Rattle.std.proofs.Common.{arith}
use Rattle.std.specs.Prelude.{nat_lt}
use Rattle.std.specs.List.{position, position_or_len}
use Rattle.std.proofs.lemmas.Bool.{ltb-false}
use Rattle.std.proofs.lemmas.List.Sums.{prefix_len-le-length}

pub not_found : {X : Type 0} (p : X → Bool) (xs : List X) → position p xs ≡ None
    → length xs ≡ position_or_len p xs
not_found p xs none = go (nat_lt (position_or_len p xs) (length xs)) refl none
  where
    go : (b : Bool) → nat_lt (position_or_len p xs) (length xs) ≡ b
        → cond b (Some (position_or_len p xs)) None ≡ None → length xs ≡ position_or_len p xs
    go true e h = absurd (cc)
    go false e h =
        omega (
          arith,
          ltb-false (position_or_len p xs) (length xs) e,
          prefix_len-le-length (λ x. not (p x)) xs,
        )
