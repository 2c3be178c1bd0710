-- Which blueprints are open, and which paths are done with.
use Rattle.std.specs.Prelude.{◌≡◌, ◌≤◌, ℕ, Bool, false, true, ◌&&◌, List, Option, None, Some}
use Rattle.std.specs.Borrow.{Bor}
use Rattle.std.specs.Map.{keys_of}
use Rattle.omos_model.specs.Expansion.{Source, Object, Blueprint, max_blueprints, source}
use Rattle.omos_model.specs.Names.{Name}
use Rattle.omos_model.specs.NameLists.{is_among}
use Rattle.omos_model.specs.Namespace.{Space}
use Rattle.omos_model.specs.Tree.{Tree}
use Rattle.omos_model.specs.declared.entry.Stamped.{Stamped}
use Rattle.module_share.specs.Places.{AllNamed}
use Rattle.module_eval.specs.Costs.{IsRead, is_built}
use Rattle.module_eval.specs.declared.memo.Kept.{Kept}

-- an object, or a blueprint that is kept
abbrev pub is_closed : Option Source → Bool → Bool
is_closed None built = false
is_closed (Some (Object f)) built = true
is_closed (Some (Blueprint x)) built = built

abbrev pub is_closed_in : Space → List (Name × Kept) → Name → Bool
is_closed_in ns all q = is_closed (source ns q) (is_built all q)

-- the path was read, and nothing under it is still to be gone through
abbrev pub is_done : Space → List Name → List (Name × Kept) → Name → Bool
is_done ns read all q = is_among read q && is_closed_in ns all q

-- each blueprint that was read is open or kept, and one that is kept names paths that are done
-- with; none that is open is kept where they are apart, as until one is opened again
pub record AreKnown
    (ns : Space) (above : List Name) (read : List (Name × Bor Stamped)) (apart : Bool)
    (all : List (Name × Kept)) : Type 0 where
  pub each : (q : Name) (x : Tree) → source ns q ≡ Some (Blueprint x) → IsRead read q
      → is_among above q ≡ false → is_built all q ≡ true
  pub closed : (q : Name) (x : Tree) → source ns q ≡ Some (Blueprint x)
      → is_built all q ≡ true
      → AllNamed (λ r. is_done ns (keys_of read) all r ≡ true) x
  pub unkept : apart ≡ true → (q : Name) → is_among above q ≡ true
      → is_closed_in ns all q ≡ false

-- blueprints stand inside one another no less deep than before, and no deeper than they may
pub record Deepens (old new : ℕ) : Type 0 where
  pub deeper : old ≤ new
  pub low : new ≤ max_blueprints
