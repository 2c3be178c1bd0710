-- Pieces in a list of bytes.
use Rattle.std.specs.Prelude.{◌≡◌, ℕ, ◌+◌, ◌-◌, ◌<◌, ◌≤◌, List, All, length, Option, slice_index}
use Rattle.std.specs.List.{find, flat_map, zip}
use Rattle.std.specs.Option.{option_map}
use Rattle.omos_model.specs.declared.entry.Entry.{Entry}
use Rattle.omos_model.specs.declared.fragment.Piece.{Piece}
use Rattle.link_model.specs.ImageBytes.{covers}
use Rattle.link_layout.specs.Pieces.{all_pieces, pieces_in}

abbrev pub PlacedPiece : Type 0
PlacedPiece = ℕ × Piece

abbrev pub byte_at : ℕ → PlacedPiece → ℕ
byte_at x y = slice_index y.1.bytes (x - y.0)

-- of the first of these pieces that has a byte there
abbrev pub first_byte : List PlacedPiece → ℕ → Option ℕ
first_byte placed x = option_map (byte_at x) (find (λ y. covers y.0 (length y.1.bytes) x) placed)

-- the bytes of a piece, if it has some, lie in so many
pub record IsInside (size : ℕ) (y : PlacedPiece) : Type 0 where
  pub inside : 0 < length y.1.bytes → y.0 + length y.1.bytes ≤ size

-- each piece of a leaf has its place, and lies in so many bytes
pub record IsLeafInside (size : ℕ) (x : List ℕ × Entry) : Type 0 where
  pub count : length x.0 ≡ length (pieces_in x.1)
  pub each : All (IsInside size) (zip x.0 (pieces_in x.1))

-- the same for each of these leaves
pub record AreInside (size : ℕ) (places : List (List ℕ)) (leaves : List Entry) : Type 0 where
  pub count : length places ≡ length leaves
  pub each : All (IsLeafInside size) (zip places leaves)

-- the pieces of leaves with their places
abbrev pub placed_in : List (List ℕ) → List Entry → List PlacedPiece
placed_in places leaves = zip (flat_map (λ row. row) places) (all_pieces leaves)
