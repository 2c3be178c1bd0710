-- Where the pieces of a layout stand.
use Rattle.std.specs.Prelude.{◌≡◌, ℕ, ◌+◌, ◌≤◌, List, All, length}
use Rattle.std.specs.List.{zip}
use Rattle.omos_model.specs.declared.entry.Entry.{Entry}
use Rattle.link_model.specs.Layout.{end_of, group_begin, program_pieces}
use Rattle.link_model.specs.Program.{Parts}
use Rattle.link_layout.specs.Pieces.{pieces_in}
use Rattle.image_write.specs.inside.Sections.{PlacedPiece}

-- a piece stands in its group
pub record StandsInGroup (parts : Parts) (y : PlacedPiece) : Type 0 where
  pub from : group_begin y.1.group parts ≤ y.0
  pub to : y.0 + y.1.size ≤ group_begin y.1.group parts + end_of y.1.group (program_pieces parts)

-- the pieces of a leaf do
pub record LeafStands (parts : Parts) (x : List ℕ × Entry) : Type 0 where
  pub count : length x.0 ≡ length (pieces_in x.1)
  pub each : All (StandsInGroup parts) (zip x.0 (pieces_in x.1))

-- the pieces of all leaves do
pub record LeavesStand (parts : Parts) (places : List (List ℕ)) (leaves : List Entry) : Type 0 where
  pub count : length places ≡ length leaves
  pub each : All (LeafStands parts) (zip places leaves)
