-- The pieces of leaves.
use Rattle.std.specs.Prelude.{◌≤◌, List, All, length}
use Rattle.std.specs.List.{flat_map}
use Rattle.omos_model.specs.FragmentParts.{IsFragment, max_pieces, max_size}
use Rattle.omos_model.specs.declared.entry.Entry.{Entry}
use Rattle.omos_model.specs.declared.fragment.Piece.{Piece}
use Rattle.link_model.specs.Program.{object_of}

-- the pieces of a leaf
abbrev pub pieces_in : Entry → List Piece
pieces_in leaf = (object_of leaf).pieces

-- the pieces of all leaves, by leaf, then by number
abbrev pub all_pieces : List Entry → List Piece
all_pieces leaves = flat_map pieces_in leaves

-- how large a piece of a fragment is, and how it is aligned, at most
pub record IsBoundedPiece (p : Piece) : Type 0 where
  pub size : p.size ≤ max_size
  pub some : 1 ≤ p.align
  pub align : p.align ≤ 4096

-- how many pieces a fragment has at most, and how large each is
pub record AreBounded (pieces : List Piece) : Type 0 where
  pub count : length pieces ≤ max_pieces
  pub each : All IsBoundedPiece pieces

-- a leaf's object is lawful
abbrev pub IsLawful : Entry → Type 0
IsLawful leaf = IsFragment (object_of leaf)
