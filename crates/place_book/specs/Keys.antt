-- Numbers by which paths are told apart in most cases.
use Rattle.std.specs.Prelude.{ℕ, ◌+◌, ◌*◌, ◌%◌, nat_eq, Bool, List, drop}
use Rattle.std.specs.List.{fold, position_or_len, list_any}
use Rattle.omos_model.specs.Names.{Name}
use Rattle.omos_model.specs.declared.placement.Placement.{Placement}

abbrev pub key_with : ℕ → ℕ → ℕ
key_with key byte = (key * 37 + byte) % 4294967296

-- the bytes as a number to the base 37, below 2^32
abbrev pub key_of : Name → ℕ
key_of path = fold key_with 0 path

abbrev pub key_of_placement : Placement → ℕ
key_of_placement p = key_of p.path

-- the first position from one on at which the key stands, or the number of keys
abbrev pub next_of : ℕ → ℕ → List ℕ → ℕ
next_of key from keys = from + position_or_len (nat_eq key) (drop from keys)

-- one of the keys is the path's
abbrev pub is_listed : List ℕ → Name → Bool
is_listed keys path = list_any (nat_eq (key_of path)) keys
