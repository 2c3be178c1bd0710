-- What a step of a walk needs, where it goes, and what it has left where it comes back.
use Rattle.std.specs.Prelude.{◌≡◌, ◌+◌, ◌≤◌, ℕ, Bool, true, false, length, List, Some, Result}
use Rattle.omos_base.specs.declared.fault.Fault.{Fault}
use Rattle.omos_model.specs.Expansion.{Blueprint, max_blueprints, source}
use Rattle.omos_model.specs.Names.{Name}
use Rattle.omos_model.specs.Namespace.{Space, look_up}
use Rattle.omos_model.specs.Term.{Term}
use Rattle.omos_model.specs.Tree.{tree_of}
use Rattle.omos_model.specs.declared.refusal.Refusal.{Refusal}
use Rattle.omos_model.specs.Visit.{Visit}
use Rattle.module_share.specs.Trails.{Trail}
use Rattle.module_eval.specs.Costs.{StayBuilt, read_of}
use Rattle.module_eval.specs.inside.Counted.{AreCounted, visit_of}
use Rattle.module_eval.specs.inside.Found.{AreFound}
use Rattle.module_eval.specs.inside.Kept.{AreKept}
use Rattle.module_eval.specs.inside.Known.{AreKnown, Deepens}
use Rattle.module_eval.specs.inside.Pendings.{EndsIn}
use Rattle.module_eval.specs.inside.Plans.{AreSpent}
use Rattle.module_eval.specs.inside.Times.{Affords, Spares, once}
use Rattle.module_eval.specs.inside.Walked.{IsLimit, Walked, path_in}
use Rattle.module_eval.specs.declared.counts.Counts.{Counts}
use Rattle.module_eval.specs.declared.part.Part.{Part}
use Rattle.module_eval.specs.declared.pending.Pending.{Pending}
use Rattle.module_eval.specs.declared.plan.Plan.TheVariants.{Unmade}
use Rattle.module_eval.specs.declared.walk.BlueprintAt.{BlueprintAt}
use Rattle.module_eval.specs.declared.walk.Place.{Place}
use Rattle.module_eval.specs.declared.walk.Walk.{Walk}

-- the namespace that a walk goes through
abbrev pub space_of : Place → Space
space_of place = place.snap.now.entries

-- the blueprints that were read are open or kept, so that what is kept can be used again
abbrev pub AreOpenOrKept : Space → Walk → Type 0
AreOpenOrKept ns walk =
    AreKnown ns walk.above walk.counts.read.entries walk.memo.apart walk.memo.kept.entries

-- no table is gone that is wanted again
abbrev pub HasSpent : Space → Walk → Type 0
HasSpent ns walk = AreSpent ns walk.plan walk.counts.read.entries walk.memo.kept.entries

-- there is a table for each use that is still owed
abbrev pub CanUse : Space → Bool → (Name → ℕ) → Walk → Type 0
CanUse ns counting owed walk =
    Affords ns counting owed walk.counts.read.entries walk.memo.kept.entries

-- those that were owed and aren't any more were made
abbrev pub Uses : Space → Bool → (Name → ℕ) → (Name → ℕ) → Walk → Walk → Type 0
Uses ns counting owed left before after =
    Spares ns counting owed left before.counts.read.entries after.counts.read.entries
    before.memo.kept.entries after.memo.kept.entries

-- a use of the path is owed, but for the requested one, before which nothing was counted
pub record IsOwed (ns : Space) (counting counted : Bool) (path : Name) (walk : Walk) : Type 0 where
  pub due : counted ≡ true → CanUse ns counting (λ p. once p path) walk
  pub first : counted ≡ false → walk.plan ≡ Unmade

-- a walk may go on: nothing passes its limit, and what is kept is right
pub record MayGoOn (ns : Space) (walk : Walk) : Type 0 where
  pub counted : AreCounted walk.counts
  pub room : length walk.above ≤ max_blueprints
  pub low : walk.memo.deepest ≤ max_blueprints
  pub kept : AreKept ns walk.memo.kept.entries
  pub known : AreOpenOrKept ns walk
  pub away : HasSpent ns walk

-- the blueprint is what stands at its path
pub record IsThere (ns : Space) (blueprint : BlueprintAt) : Type 0 where
  pub entry : look_up ns blueprint.path.now ≡ Some blueprint.found.now
  pub opens : source ns blueprint.path.now ≡ Some (Blueprint (tree_of blueprint.image.now.body))

-- a path that is named here is gone to as expansion goes to it, under any limit on blueprints
-- inside
-- one another that the walk hasn't passed
abbrev pub GoesTo : Place → Bool → Name → Result Part (Fault Refusal) → Walk → Walk → Type 0
GoesTo place counted path result before after =
    (limit : ℕ) → IsLimit result after.memo.deepest limit
    → Walked place.counting result
    (path_in (space_of place) limit before.above counted place.at.now path (visit_of before.counts))
    after.counts

-- how it ends from a term on, inside these pending nodes
abbrev pub EndsFrom : Place → ℕ → Walk → List Pending → Term → Visit → Trail Term → Type 0
EndsFrom place limit walk pending =
    EndsIn place.counting (space_of place) limit walk.above place.at.now pending

-- the counts are within their limits, and no node was taken off them
pub record CountOn (before after : Counts) : Type 0 where
  pub counted : AreCounted after
  pub least : before.nodes ≤ after.nodes

-- it has come back: what it opened is closed, each path that it read has its entry beside it, and
-- what was kept still is; the node of the requested path isn't counted, nor its blueprint kept
pub record ComesBack (ns : Space) (counted : Bool) (before after : Walk) : Type 0 where
  pub above : after.above ≡ before.above
  pub found : AreFound ns before.counts.read.entries → AreFound ns after.counts.read.entries
  pub kept : AreKept ns after.memo.kept.entries
  pub stays : StayBuilt before.memo.kept.entries after.memo.kept.entries
  pub deepens : Deepens before.memo.deepest after.memo.deepest
  pub known : counted ≡ true → AreOpenOrKept ns after
  pub away : HasSpent ns after

-- the steps since are no more than the operators that were owed, less those that still are, and the
-- operators of the blueprints that were read since
abbrev pub IsCharged : Space → ℕ → ℕ → Counts → Counts → ℕ → ℕ → Type 0
IsCharged ns owed left before after old new =
    new + left + read_of ns before.read.entries ≤ old + owed + read_of ns after.read.entries

-- the same where operators are applied; where nodes are only counted, none is but in blueprints
-- that are gone through for the first time
pub record Charges
    (ns : Space) (counting : Bool) (owed left : ℕ) (before after : Counts)
    (old new : ℕ) : Type 0 where
  pub applied : counting ≡ false → IsCharged ns owed left before after old new
  pub idle : counting ≡ true → IsCharged ns 0 0 before after old new
