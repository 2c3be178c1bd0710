use Rattle.std.proofs.Common.{◌≡◌, ◌+◌, ◌*◌, ◌≤◌, take, fold}
use Rattle.omos_model.specs.declared.fragment.Group.{Group}
use Rattle.link_model.specs.Layout.{end_with}
use Rattle.link_model.specs.Groups.{bytes_of}
use Rattle.link_layout.proofs.pieces.lay_pieces.Given as goal

abbrev pub invariant-loop-piece : goal.invariant-loop-piece
invariant-loop-piece l =
    record {
      ends : (g : Group) → bytes_of l.ends g
          ≡ fold (end_with g) (bytes_of l.fn.ends g) (take l.piece-index l.pieces);
      near : (g : Group) → bytes_of l.ends g ≤ bytes_of l.fn.ends g + l.piece-index * 8392704;
    }
