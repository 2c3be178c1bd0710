-- The symbols that relocations name, each kept once.
use Rattle.std.specs.Prelude.{◌≡◌, ℕ, zero, suc, ◌+◌, ◌^◌, ◌<◌, Bool, true, List, [], ◌∷◌, ◌++◌}
use Rattle.std.specs.Prelude.{Some, length, slice_index, ⊤}
use Rattle.std.specs.List.{list_all, slice_get}
use Rattle.dict_row.specs.Keys.{AreKeys, decoded}
use Rattle.fragment_read.specs.declared.used.Used.{Used}

-- at a symbol stands 0, or one more than its place in the list of symbols
abbrev pub IsPlaced : List ℕ → ℕ → ℕ → Type 0
IsPlaced symbols k zero = ⊤
IsPlaced symbols k (suc place) = slice_get symbols place ≡ Some k

-- how many symbols have none
abbrev pub free : List ℕ → ℕ
free [] = 0
free (zero ∷ places) = suc (free places)
free (suc place ∷ places) = free places

pub record AreUsed (u : Used) : Type 0 where
  pub keys : AreKeys u.keys (length u.symbols)
  pub placed : (k : ℕ) → IsPlaced u.symbols k (slice_index u.places.items k)
  pub few : free u.places.items + length u.symbols ≡ length u.places.items
  pub bound : length u.places.items < 2 ^ 32

-- the symbols as they were named
abbrev pub named_symbols : Used → List ℕ
named_symbols u = decoded u.symbols u.keys

-- a symbol was named once more
pub record HasNamed (old new : Used) (k : ℕ) : Type 0 where
  pub used : AreUsed new
  pub places : length new.places.items ≡ length old.places.items
  pub symbols : named_symbols new ≡ named_symbols old ++ k ∷ []
  pub each : (p : ℕ → Bool) → list_all p old.symbols ≡ true → p k ≡ true
      → list_all p new.symbols ≡ true
