use Rattle.std.proofs.Common.{◌≡◌, ◌*◌, ◌≤◌, [], take}
use Rattle.omos_model.specs.declared.fragment.Group.{Group}
use Rattle.link_model.specs.Program.{Parts}
use Rattle.link_model.specs.Groups.{bytes_of}
use Rattle.link_layout.specs.Layout.{AreBegins, AreEnds, places_over}
use Rattle.link_layout.specs.Pieces.{all_pieces}
use Rattle.link_layout.proofs.places.places_of.Given as goal

abbrev pub invariant-loop-leaf : goal.invariant-loop-leaf
invariant-loop-leaf l =
    record {
      places : (parts : Parts) → AreBegins l.begins parts
          → l.places.items ≡ places_over parts [] (take l.leaf-index l.leaves);
      ends : AreEnds l.ends (all_pieces (take l.leaf-index l.leaves));
      near : (g : Group) → bytes_of l.ends g ≤ l.leaf-index * 1099511627776;
    }
