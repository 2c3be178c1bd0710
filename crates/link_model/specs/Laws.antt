-- Laws of evaluated modules.
use Rattle.std.specs.Prelude.{◌≡◌, ◌↔◌, ◌≤◌, ◌==◌, ℕ, List, [], Option, Some, Ok, IsTrue, length}
use Rattle.std.specs.Prelude.{map, slice_get, unwrap_or}
use Rattle.std.specs.List.{AllByRecursion, IsDistinct, sum_by}
use Rattle.std.specs.Option.{option_map}
use Rattle.omos_model.specs.Names.{Name}
use Rattle.omos_model.specs.Namespace.{Space, look_up, namespace_at}
use Rattle.omos_model.specs.Term.{Term, leaf_numbers}
use Rattle.omos_model.specs.State.{is_open, landing, state}
use Rattle.omos_model.specs.Expansion.{expansion, max_leaves, max_sum}
use Rattle.omos_model.specs.Footprint.{footprint}
use Rattle.omos_model.specs.declared.entry.Entry.{Entry}
use Rattle.omos_model.specs.declared.entry.Stamped.{Stamped}
use Rattle.omos_model.specs.declared.mark.Landing.{Landing}
use Rattle.omos_model.specs.declared.mark.Mark.TheVariants.{Open}
use Rattle.omos_model.specs.Visit.{Visit}
use Rattle.link_model.specs.Answer.{answer}
use Rattle.link_model.specs.Module.{Module, IsModule, landing_at, plan_of_module}
use Rattle.link_model.specs.Plan.{plan_of}
use Rattle.link_model.specs.Program.{Parts, Reference, parts_of_term, references}

-- a module has at most 256 leaves, and 524,288 references in all
pub record IsBounded (m : Module) : Type 0 where
  pub leaves : length m.leaves ≤ max_leaves
  pub references : sum_by length m.landings ≤ max_sum

abbrev pub BoundsLaw : Type 0
BoundsLaw = (m : Module) → IsModule m → IsBounded m

-- an image's file has at most 8,388,608 bytes
abbrev pub SizeLaw : Type 0
SizeLaw =
    (ns : Space) (path : Name) (base : ℕ) (bytes : List ℕ) → answer ns path base ≡ Ok bytes
    → length bytes ≤ 8388608

-- the plan of a module is that of its path on the namespace that its footprint lists
abbrev pub OwnPlanLaw : Type 0
OwnPlanLaw = (m : Module) → IsModule m → plan_of m.footprint m.path ≡ plan_of_module m

-- ---- references, found by descent at each use

-- in a module each fixup lands on what descent through the path's term finds for it
abbrev pub ModuleLandingsLaw : Type 0
ModuleLandingsLaw =
    (m : Module) → IsModule m → (t : Term) (v : Visit) → expansion m.footprint m.path ≡ Ok (t, v)
    → (leaf k : ℕ) → landing_at m leaf k ≡ landing t leaf k

-- what fixup k of a part lands on, if it is there
abbrev pub landing_in : Parts → ℕ → ℕ → Option Landing
landing_in parts leaf k = slice_get (unwrap_or (slice_get (map (λ p. p.landings) parts) leaf) []) k

-- and so it does in the program of which a path's plan is made
abbrev pub ProgramLandingsLaw : Type 0
ProgramLandingsLaw =
    (ns : Space) (path : Name) (t : Term) (v : Visit) → expansion ns path ≡ Ok (t, v)
    → (leaf k : ℕ) → landing_in (parts_of_term t) leaf k ≡ landing t leaf k

-- each reference of that program lands on what descent finds for its leaf and number
abbrev pub ReferencesLaw : Type 0
ReferencesLaw =
    (ns : Space) (path : Name) (t : Term) (v : Visit) → expansion ns path ≡ Ok (t, v)
    → AllByRecursion (λ r. landing t r.leaf r.number ≡ Some r.landing)
    (references (parts_of_term t))

-- no two leaves of an expansion have one number
abbrev pub LeavesApartLaw : Type 0
LeavesApartLaw =
    (ns : Space) (path : Name) (t : Term) (v : Visit) → expansion ns path ≡ Ok (t, v)
    → IsDistinct ◌==◌ (leaf_numbers t)

-- descent finds some fixup of a leaf that is open under x
abbrev pub IsOpenAt : Term → Name → Type 0
IsOpenAt t x = (leaf : ℕ) × (k : ℕ) × (state t leaf k ≡ Some (Open x))

-- where no two leaves have one number, a name is open in the list of all references where descent
-- finds it open
abbrev pub OpenLaw : Type 0
OpenLaw =
    (t : Term) → IsDistinct ◌==◌ (leaf_numbers t) → (x : Name)
    → IsTrue (is_open t x) ↔ IsOpenAt t x

-- ---- what a path depends on

-- each of these stands under its path
abbrev pub HasEntries : Space → List Stamped → Type 0
HasEntries ns entries = AllByRecursion (λ s. look_up ns s.path ≡ Some s) entries

-- a path is the same on both
pub record SameLink (path : Name) (a b : Space) : Type 0 where
  pub expanded : expansion a path ≡ expansion b path
  pub entry : look_up a path ≡ look_up b path
  pub listed : footprint a path ≡ footprint b path
  pub planned : plan_of a path ≡ plan_of b path
  pub answered : (base : ℕ) → answer a path base ≡ answer b path base

-- a path depends on its footprint alone: where b has the same entries with the same stamps under
-- the paths that are read on a, the path is the same on both
abbrev pub FrameLaw : Type 0
FrameLaw =
    (a b : Space) (path : Name) (entries : List Stamped) → footprint a path ≡ Some entries
    → HasEntries b entries → SameLink path a b

-- the namespace that a footprint lists is such a one
abbrev pub OwnFrameLaw : Type 0
OwnFrameLaw =
    (ns : Space) (path : Name) (entries : List Stamped) → footprint ns path ≡ Some entries
    → SameLink path ns entries

-- ---- in one history of publishes

-- a stamp is of one entry, whatever the versions and paths under which it is found
abbrev pub StampLaw : Type 0
StampLaw =
    (puts : List (Name × Entry)) (v w : ℕ) (p q : Name) (x y : Stamped)
    → look_up (namespace_at puts v) p ≡ Some x → look_up (namespace_at puts w) q ≡ Some y
    → x.stamp ≡ y.stamp → x ≡ y

abbrev pub stamp_at : Space → Name → Option ℕ
stamp_at ns path = option_map (λ s. s.stamp) (look_up ns path)

-- the stamps of these entries are the stamps there
abbrev pub IsCurrent : Space → List Stamped → Type 0
IsCurrent ns entries = AllByRecursion (λ s. stamp_at ns s.path ≡ Some s.stamp) entries

-- while the stamps of its footprint stand, a path is the same on a later version
abbrev pub CurrentLaw : Type 0
CurrentLaw =
    (puts : List (Name × Entry)) (v w : ℕ) (path : Name) (entries : List Stamped)
    → footprint (namespace_at puts v) path ≡ Some entries → IsCurrent (namespace_at puts w) entries
    → SameLink path (namespace_at puts v) (namespace_at puts w)
