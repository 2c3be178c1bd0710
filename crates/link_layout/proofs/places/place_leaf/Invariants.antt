use Rattle.std.proofs.Common.{◌≡◌, ◌+◌, ◌*◌, ◌≤◌, List, take, fold}
use Rattle.omos_model.specs.declared.fragment.Group.{Group}
use Rattle.omos_model.specs.declared.fragment.Piece.{Piece}
use Rattle.link_model.specs.Layout.{end_with, places_behind}
use Rattle.link_model.specs.Program.{Parts}
use Rattle.link_model.specs.Groups.{bytes_of}
use Rattle.link_layout.specs.Layout.{AreBegins, AreEnds}
use Rattle.link_layout.proofs.places.place_leaf.Given as goal

abbrev pub invariant-loop-piece : goal.invariant-loop-piece
invariant-loop-piece l =
    record {
      places : (parts : Parts) (before : List Piece)
          → AreBegins l.begins parts → AreEnds l.fn.ends before
          → l.places.items ≡ places_behind parts before (take l.piece-index l.pieces);
      ends : (g : Group) → bytes_of l.ends g
          ≡ fold (end_with g) (bytes_of l.fn.ends g) (take l.piece-index l.pieces);
      near : (g : Group) → bytes_of l.ends g ≤ bytes_of l.fn.ends g + l.piece-index * 8392704;
    }
