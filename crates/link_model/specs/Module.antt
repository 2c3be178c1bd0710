-- Evaluated modules, their layout and their images, as values of the types that keep them.
use Rattle.std.specs.Prelude.{◌≡◌, ℕ, ◌+◌, ◌*◌, ◌^◌, ◌≤◌, List, [], ◌∷◌, map, Option, Some, None}
use Rattle.std.specs.Prelude.{Result, Ok, slice_get, unwrap_or}
use Rattle.std.specs.List.{find, zip}
use Rattle.std.specs.Option.{option_map}
use Rattle.omos_model.specs.Names.{Name, same_name}
use Rattle.omos_model.specs.Namespace.{Space, look_up}
use Rattle.omos_model.specs.Term.{Term}
use Rattle.omos_model.specs.Definition.{definition}
use Rattle.omos_model.specs.State.{states}
use Rattle.omos_model.specs.FirstRefusal.{first_refusal}
use Rattle.omos_model.specs.Expansion.{expansion}
use Rattle.omos_model.specs.Footprint.{footprint}
use Rattle.omos_model.specs.declared.entry.Entry.{Entry}
use Rattle.omos_model.specs.declared.entry.Stamped.{Stamped}
use Rattle.omos_model.specs.declared.entry.Start.{Start}
use Rattle.omos_model.specs.declared.mark.Landing.{Landing}
use Rattle.omos_model.specs.declared.mark.Target.{Target}
use Rattle.omos_model.specs.declared.refusal.Refusal.{Refusal}
use Rattle.omos_model.specs.Visit.{Visit}
use Rattle.link_model.specs.declared.evaluated.Found.{Found}
use Rattle.link_model.specs.declared.groups.Groups.{Groups}
use Rattle.link_model.specs.Groups.{groups_of}
use Rattle.link_model.specs.Program.{Part, Parts, Terms, landings_of, object_of, terms_of}
use Rattle.link_model.specs.Plan.{Plan, plan_of, plan_of_parts}
use Rattle.link_model.specs.Answer.{answer}

-- what contracts see of an evaluated module
pub record Module : Type 0 where
  pub path : Name
  pub leaves : List Entry
  pub landings : List (List Landing)
  pub names : List Found
  pub footprint : List Stamped
  pub start : Start
  pub lo : ℕ
  pub hi : ℕ

abbrev pub module_of : Name → List Entry → List (List Landing) → List Found → List Stamped → Start
    → ℕ → ℕ → Module
module_of path leaves landings names footprint start lo hi =
    record {
      path = path;
      leaves = leaves;
      landings = landings;
      names = names;
      footprint = footprint;
      start = start;
      lo = lo;
      hi = hi;
    }

-- what a fixup of a leaf lands on, if it is there
abbrev pub landing_at : Module → ℕ → ℕ → Option Landing
landing_at m leaf fixup = slice_get (unwrap_or (slice_get m.landings leaf) []) fixup

-- what a name is found as
abbrev pub found : List Found → Name → Option Target
found names n = option_map (λ x. x.target) (find (λ x. same_name n x.name) names)

abbrev pub terms_of_module : Module → Terms
terms_of_module m = record { start = m.start; lo = m.lo; hi = m.hi }

-- a leaf, and what its references land on
abbrev pub part_with : Entry × List Landing → Part
part_with x = record { object = object_of x.0; landings = x.1 }

-- the parts of a module, from left to right
abbrev pub parts_of_module : Module → Parts
parts_of_module m = map part_with (zip m.leaves m.landings)

-- the plan of a module, or the first of L9 to L11
abbrev pub plan_of_module : Module → Result Plan Refusal
plan_of_module m = plan_of_parts (parts_of_module m) (found m.names) (terms_of_module m)

-- nothing is refused in the path's term on the namespace, which lists what the term reads
pub record IsTermOf (path : Name) (ns : Space) (given : Terms) (t : Term) (v : Visit) : Type 0 where
  pub expanded : expansion ns path ≡ Ok (t, v)
  pub unrefused : first_refusal t ≡ None
  pub listed : footprint ns path ≡ Some ns
  pub terms : option_map (λ s. terms_of s.entry) (look_up ns path) ≡ Some given

abbrev pub terms_with : Start → ℕ → ℕ → Terms
terms_with start lo hi = record { start = start; lo = lo; hi = hi }

-- the namespace that holds an entry alone
abbrev pub alone : Name → Entry → Space
alone path entry = record { path = path; stamp = 1; entry = entry } ∷ []

-- the module is the path's, on the namespace that its footprint lists, by this term
pub record IsEvaluation (m : Module) (t : Term) (v : Visit) : Type 0 where
  pub expanded : expansion m.footprint m.path ≡ Ok (t, v)
  pub unrefused : first_refusal t ≡ None
  pub leaves : m.leaves ≡ map (λ r. r.entry) (states t)
  pub landings : m.landings ≡ map (landings_of t) (states t)
  pub names : (n : Name) → found m.names n ≡ definition t n
  pub footprint : footprint m.footprint m.path ≡ Some m.footprint
  pub terms : option_map (λ s. terms_of s.entry) (look_up m.footprint m.path)
      ≡ Some (terms_of_module m)

abbrev pub IsModule : Module → Type 0
IsModule m = (t : Term) × (v : Visit) × IsEvaluation m t v

-- what contracts see of a layout: all that laying out finds
pub record Placing : Type 0 where
  pub pages : ℕ
  pub groups : Groups
  pub places : List (List ℕ)
  pub slots : List Target
  pub entry : Option Target

-- where a piece of a leaf stands, if it is there
abbrev pub piece_place : Placing → ℕ → ℕ → Option ℕ
piece_place l leaf piece = slice_get (unwrap_or (slice_get l.places leaf) []) piece

abbrev pub placing_of : Plan → Placing
placing_of plan =
    record {
      pages = plan.pages;
      groups = groups_of plan.parts;
      places = plan.places;
      slots = plan.slots;
      entry = plan.entry;
    }

-- a module with its layout
pub record Ready : Type 0 where
  pub evaluated : Module
  pub layout : Placing

abbrev pub ready_of : Module → Placing → Ready
ready_of m layout = record { evaluated = m; layout = layout }

-- the layout is that of the module's plan
abbrev pub IsReady : Ready → Type 0
IsReady r =
    IsModule r.evaluated
    × ((plan : Plan) × (plan_of r.evaluated.footprint r.evaluated.path ≡ Ok plan)
    × (r.layout ≡ placing_of plan))

-- what contracts see of a linked image
pub record LinkedImage : Type 0 where
  pub path : Name
  pub base : ℕ
  pub pages : ℕ
  pub bytes : List ℕ
  pub footprint : List Stamped

abbrev pub linked_image : Name → ℕ → ℕ → List ℕ → List Stamped → LinkedImage
linked_image path base pages bytes footprint =
    record { path = path; base = base; pages = pages; bytes = bytes; footprint = footprint }

-- the image of a plan at a base
abbrev pub linked_of : Ready → ℕ → List ℕ → LinkedImage
linked_of r base bytes =
    linked_image r.evaluated.path base r.layout.pages bytes r.evaluated.footprint

-- the bytes are the answer on the namespace that the footprint lists, the pages the plan's, which
-- end in user space, and the footprint is the path's
pub record IsLinked (x : LinkedImage) : Type 0 where
  pub plan : Plan
  pub planned : plan_of x.footprint x.path ≡ Ok plan
  pub pages : x.pages ≡ plan.pages
  pub within : x.base + 4096 * x.pages ≤ 2 ^ 47
  pub answered : answer x.footprint x.path x.base ≡ Ok x.bytes
  pub listed : footprint x.footprint x.path ≡ Some x.footprint
