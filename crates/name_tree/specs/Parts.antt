-- What a list becomes that may be too long for one part, and the branches of a root.
use Rattle.std.specs.Prelude.{List}
use Rattle.omos_model.specs.Namespace.{Space}
use Rattle.name_tree.specs.declared.joint.Parts.{Parts}
use Rattle.name_tree.specs.declared.joint.Parts.TheVariants.{One, Two}
use Rattle.name_tree.specs.declared.root.Root.{Root}
use Rattle.name_tree.specs.declared.root.Root.TheVariants.{Small, Few, Many}

abbrev pub one_list : {X : Type 0} → Parts X → List X
one_list (One parts) = parts
one_list (Two parts) = parts

abbrev pub branches_of : Root → List (List Space)
branches_of (Small branches) = branches
branches_of (Few branches) = branches
branches_of (Many branches) = branches
