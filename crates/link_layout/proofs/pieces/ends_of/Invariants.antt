use Rattle.std.proofs.Common.{◌≡◌, ◌*◌, ◌≤◌, take}
use Rattle.omos_model.specs.declared.fragment.Group.{Group}
use Rattle.link_model.specs.Layout.{end_of}
use Rattle.link_model.specs.Groups.{bytes_of}
use Rattle.link_layout.specs.Pieces.{all_pieces}
use Rattle.link_layout.proofs.pieces.ends_of.Given as goal

abbrev pub invariant-loop-leaf : goal.invariant-loop-leaf
invariant-loop-leaf l =
    record {
      ends : (g : Group) → bytes_of l.ends g ≡ end_of g (all_pieces (take l.leaf-index l.leaves));
      near : (g : Group) → bytes_of l.ends g ≤ l.leaf-index * 1099511627776;
    }
