-- Values that stand in rows of eight.
use Rattle.std.specs.Prelude.{◌≡◌, ℕ, ◌+◌, ◌-◌, ◌*◌, ◌<◌, ◌≤◌, List, [], ◌∷◌, length, get_or}
use Rattle.std.specs.List.{flat_map}
use Rattle.name_tree.specs.declared.few.Rows.{Rows}
use Rattle.name_tree.specs.declared.few.Rows.TheVariants.{One, Two, Four, Six, Eight}

-- the values of rows
abbrev pub row_values : {X : Type 0} → List (List X) → List X
row_values rows = flat_map (λ row. row) rows

-- eight of the values, from a number on; behind the last number stand any
pub record IsRow {X : Type 0} (xs : List X) (at last : ℕ) (row : List X) : Type 0 where
  pub long : length row ≡ 8
  pub same : (k : ℕ) (d : X) → k < 8 → at + k ≤ last → get_or row k d ≡ get_or xs (at + k) d

-- rows of eight of the values each, one behind the other
abbrev pub AreRows : {X : Type 0} → List X → ℕ → ℕ → List (List X) → Type 0
AreRows xs at last [] = Unit {0}
AreRows xs at last (row ∷ rows) = IsRow xs at last row × AreRows xs (at + 8) last rows

abbrev pub rows_of : {X : Type 0} → Rows X → List (List X)
rows_of (One rows) = rows
rows_of (Two rows) = rows
rows_of (Four rows) = rows
rows_of (Six rows) = rows
rows_of (Eight rows) = rows

-- so many of the values, from a number on, stand in the rows
pub record HoldRows {X : Type 0} (xs : List X) (from count : ℕ) (rows : Rows X) : Type 0 where
  pub each : AreRows xs from (from + (count - 1)) (rows_of rows)
  pub few : length (rows_of rows) ≤ 8
  pub room : count ≤ 8 * length (rows_of rows)
