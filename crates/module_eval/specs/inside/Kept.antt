-- Tables of blueprints that are kept for further uses.
use Rattle.std.specs.Prelude.{◌≡◌, ℕ, true, false, List, Option, None, Some, Result, Ok}
use Rattle.std.specs.Prelude.{Err}
use Rattle.std.specs.List.{AllByRecursion}
use Rattle.omos_model.specs.Expansion.{Blueprint, source}
use Rattle.omos_model.specs.FirstRefusal.{first_refusal}
use Rattle.omos_model.specs.Names.{Name}
use Rattle.omos_model.specs.Namespace.{Space}
use Rattle.omos_model.specs.Term.{Term}
use Rattle.omos_model.specs.Tree.{Tree}
use Rattle.omos_model.specs.declared.refusal.Refusal.{Refusal}
use Rattle.omos_model.specs.Visit.{Visit}
use Rattle.module_share.specs.Places.{tree_at}
use Rattle.module_table.specs.Stands.{StandsFor}
use Rattle.module_table.specs.TableParts.{TableParts}
use Rattle.module_eval.specs.Costs.{is_built}
use Rattle.module_eval.specs.inside.Reaches.{IsReach}
use Rattle.module_eval.specs.inside.Times.{moved, away}
use Rattle.module_eval.specs.declared.memo.Found.{Found}
use Rattle.module_eval.specs.declared.memo.Found.TheVariants as found
use Rattle.module_eval.specs.declared.memo.Kept.{Kept}

-- somewhere the blueprint's expression is expanded to this term, its first leaf having this number
pub record IsRun (ns : Space) (path : Name) (first : ℕ) (t : Term) : Type 0 where
  pub tree : Tree
  pub room : ℕ
  pub above : List Name
  pub start : Visit
  pub after : Visit
  pub there : source ns path ≡ Some (Blueprint tree)
  pub node : start.node ≡ 0
  pub leaves : start.leaves ≡ first
  pub expanded : tree_at (source ns) room above path tree start ≡ Ok (t, after)

-- a table of the term, in which nothing is refused, or its first refusal; nothing where it was
-- moved to its only use
abbrev pub StandsOr : Option (Result TableParts Refusal) → Term → Type 0
StandsOr (Some (Ok table)) t = StandsFor table t × (first_refusal t ≡ None)
StandsOr (Some (Err x)) t = first_refusal t ≡ Some x
StandsOr None t = Unit {0}

-- what is kept is of such a term, and its reach is the blueprint's
pub record IsKept (ns : Space) (path : Name) (kept : Kept) : Type 0 where
  pub term : Term
  pub reach : IsReach ns path kept.reach
  pub run : IsRun ns path kept.first term
  pub stands : StandsOr kept.built term

pub record AreKept (ns : Space) (all : List (Name × Kept)) : Type 0 where
  pub each : AllByRecursion (λ e. IsKept ns e.0 e.1) all

-- what is found of a path among what is kept
abbrev pub Finds : Found → List (Name × Kept) → Name → Type 0
Finds (found.Kept kept) all path =
    (is_built all path ≡ true) × ((ns : Space) → AreKept ns all → IsKept ns path kept)
    × (away all path ≡ 0 → moved kept.built ≡ 0)
Finds found.Nothing all path = is_built all path ≡ false
Finds found.NoMemory all path = Unit {0}
