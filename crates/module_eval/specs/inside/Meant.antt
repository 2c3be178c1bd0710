-- What a part of a walk has of the term that it came through.
use Rattle.std.specs.Prelude.{◌≡◌, Bool, true, Option, Some, None, Result, Ok, Err}
use Rattle.omos_model.specs.FirstRefusal.{first_refusal}
use Rattle.omos_model.specs.Term.{Term}
use Rattle.omos_model.specs.declared.refusal.Refusal.{Refusal}
use Rattle.module_table.specs.Stands.{IsLeaf, StandsFor}
use Rattle.module_table.specs.TableParts.{TableParts}
use Rattle.module_eval.specs.declared.part.Part.{Part}
use Rattle.module_eval.specs.declared.part.Part.TheVariants.{Built, Failed, Leaf, Counted}

-- a table of the term where nothing is refused, or the refusal, or the leaf that the term is;
-- nothing is known of a part that was only counted, and it comes only where the walk counts
abbrev pub MeansWhere : Bool → Part → Term → Option Refusal → Type 0
MeansWhere counting (Built table) t refused = StandsFor table t × (refused ≡ None)
MeansWhere counting (Failed x) t refused = refused ≡ Some x
MeansWhere counting (Leaf leaf) t refused = IsLeaf leaf.number leaf.entry t × (refused ≡ None)
MeansWhere counting Counted t refused = counting ≡ true

-- a table of the term, or the first refusal of its operators, or the leaf that the term is
abbrev pub Means : Bool → Part → Term → Type 0
Means counting part t = MeansWhere counting part t (first_refusal t)

-- the table of a part, or its refusal, or neither where it was only counted
abbrev pub IsBuilt : Option (Result TableParts Refusal) → Part → Type 0
IsBuilt (Some (Ok table)) part =
    (counting : Bool) (t : Term) → Means counting part t → Means counting (Built table) t
IsBuilt (Some (Err x)) part =
    (counting : Bool) (t : Term) → Means counting part t → Means counting (Failed x) t
IsBuilt None part = (counting : Bool) (t : Term) → Means counting part t → counting ≡ true
