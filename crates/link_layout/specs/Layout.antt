-- Sizes, begins and places, as numbers by group.
use Rattle.std.specs.Prelude.{◌≡◌, ℕ, List, [], ◌∷◌, ◌++◌}
use Rattle.omos_model.specs.declared.entry.Entry.{Entry}
use Rattle.omos_model.specs.declared.fragment.Group.{Group}
use Rattle.omos_model.specs.declared.fragment.Piece.{Piece}
use Rattle.link_model.specs.Program.{Parts}
use Rattle.link_model.specs.Layout.{end_of, group_begin, group_size, places_behind}
use Rattle.link_model.specs.declared.groups.ByGroup.{ByGroup}
use Rattle.link_model.specs.Groups.{bytes_of}
use Rattle.link_layout.specs.Pieces.{pieces_in}

-- the groups that have these pieces end there
abbrev pub AreEnds : ByGroup → List Piece → Type 0
AreEnds ends pieces = (g : Group) → bytes_of ends g ≡ end_of g pieces

-- the groups of these parts have these sizes
abbrev pub AreSizes : ByGroup → Parts → Type 0
AreSizes sizes parts = (g : Group) → bytes_of sizes g ≡ group_size g parts

-- the groups of these parts begin there
abbrev pub AreBegins : ByGroup → Parts → Type 0
AreBegins begins parts = (g : Group) → bytes_of begins g ≡ group_begin g parts

-- where the pieces of these leaves stand, behind the pieces before them
abbrev pub places_over : Parts → List Piece → List Entry → List (List ℕ)
places_over parts before [] = []
places_over parts before (x ∷ xs) =
    places_behind parts before (pieces_in x) ∷ places_over parts (before ++ pieces_in x) xs
