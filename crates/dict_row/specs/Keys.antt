-- A list by its values and a key a place.
use Rattle.std.specs.Prelude.{ℕ, ◌<◌, List, All}
use Rattle.std.specs.List.{filter_map, slice_get}

-- each key is the place of one of so many values
abbrev pub AreKeys : List ℕ → ℕ → Type 0
AreKeys keys count = All (λ key. key < count) keys

-- for each key the value at its place
unfoldable pub decoded : {T : Type 0} → List T → List ℕ → List T
decoded values keys = filter_map (slice_get values) keys
