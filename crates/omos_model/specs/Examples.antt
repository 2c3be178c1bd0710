-- Worked examples.
use Rattle.std.specs.Prelude.{◌≡◌, ℕ, ◌+◌, ◌-◌, ◌/◌, ◌%◌, ◌==◌, if◌then◌else◌, List, [], ◌∷◌, ◌++◌}
use Rattle.std.specs.Prelude.{length, map, replicate, Option, Some, None, Ok, Err, codes, negsuc}
use Rattle.std.specs.Prelude.{false}
use Rattle.std.specs.Map.{lookup}
use Rattle.omos_model.specs.Names.{Name, same_name}
use Rattle.omos_model.specs.Numbers.{numbers_from}
use Rattle.omos_model.specs.Op.{Rename, Restrict, Freeze, Hide, Show, CopyAs}
use Rattle.omos_model.specs.Term.{Term, leaf_numbers}
use Rattle.omos_model.specs.Tree.{Tree, Path, Merge, More, Override, Apply}
use Rattle.omos_model.specs.Definition.{definition}
use Rattle.omos_model.specs.State.{state, landing}
use Rattle.omos_model.specs.FirstRefusal.{first_refusal}
use Rattle.omos_model.specs.Expansion.{Source, Object, Blueprint, Visited, expand, expansion_by}
use Rattle.omos_model.specs.Expansion.{first_visit, site_of, max_blueprints}
use Rattle.omos_model.specs.declared.fragment.Group.TheVariants.{Code}
use Rattle.omos_model.specs.declared.fragment.Kind.TheVariants.{Plt32}
use Rattle.omos_model.specs.declared.fragment.Spot.TheVariants as spot
use Rattle.omos_model.specs.declared.fragment.Aim.TheVariants as aim
use Rattle.omos_model.specs.declared.mark.Landing.{Landing}
use Rattle.omos_model.specs.declared.mark.Landing.TheVariants.{On, Nothing}
use Rattle.omos_model.specs.declared.mark.Mark.{Mark}
use Rattle.omos_model.specs.declared.mark.Mark.TheVariants.{Bound, Open}
use Rattle.omos_model.specs.declared.mark.Target.{Target}
use Rattle.omos_model.specs.declared.mark.Target.TheVariants.{Inside}
use Rattle.omos_model.specs.declared.refusal.Refusal.{Refusal}
use Rattle.omos_model.specs.declared.refusal.Refusal.TheVariants as refused
use Rattle.omos_model.specs.Visit.{Visit}

-- ---- objects of 16 bytes of code

-- the offset of each name that is defined, and that of each call with the name that it calls
abbrev object : List (ℕ × Name) → List (ℕ × Name) → Source
object defs calls =
    Object (
    record {
      pieces = record { group = Code; align = 16; size = 16; bytes = replicate 16 0 } ∷ [];
      exports = map (λ d. record { name = d.1; spot = spot.Inside 0 d.0 }) defs;
      fixups = map (
          λ c.
          record {
            piece = 0;
            offset = c.0;
            kind = Plt32;
            addend = negsuc 3;
            aim = aim.Name c.1 false;
          }
          ) calls;
    }
    )

abbrev malloc : Name
malloc = codes "malloc"

abbrev grab : Name
grab = codes "grab"

abbrev puts : Name
puts = codes "puts"

abbrev printed : Name
printed = codes "print"

abbrev old : Name
old = codes "old_malloc"

abbrev zip : Name
zip = codes "zip"

abbrev lib : Name
lib = codes "/lib"

abbrev new : Name
new = codes "/new"

abbrev trace : Name
trace = codes "/trace"

abbrev user : Name
user = codes "/user"

abbrev ba : Name
ba = codes "/ba"

abbrev ab : Name
ab = codes "/ab"

abbrev made : Name
made = codes "/made"

-- `grab` calls `malloc`; another `malloc`; one that calls the old one; `print` and a call of `puts`
abbrev objects : List (Name × Source)
objects =
    (lib, object ((0, malloc) ∷ (8, grab) ∷ []) ((9, malloc) ∷ []))
    ∷ (new, object ((0, malloc) ∷ []) [])
    ∷ (trace, object ((0, malloc) ∷ []) ((1, old) ∷ []))
    ∷ (user, object ((8, printed) ∷ []) ((1, puts) ∷ []))
    ∷ (ba, object ((0, codes "b") ∷ (1, codes "a") ∷ []) [])
    ∷ (ab, object ((0, codes "a") ∷ (1, codes "b") ∷ []) [])
    ∷ []

-- ---- what a link of `/made` meets

abbrev with : List (Name × Source) → Name → Option Source
with more p = lookup (same_name p) (objects ++ more)

abbrev expanded : Tree → Visited Term
expanded x = expansion_by (with ((made, Blueprint x) ∷ [])) made

abbrev refusal_in : Visited Term → Option Refusal
refusal_in (Ok r) = first_refusal r.0
refusal_in (Err x) = Some x

abbrev landing_in : ℕ → ℕ → Visited Term → Option Landing
landing_in leaf k (Ok r) = landing r.0 leaf k
landing_in leaf k (Err x) = None

abbrev state_in : ℕ → ℕ → Visited Term → Option Mark
state_in leaf k (Ok r) = state r.0 leaf k
state_in leaf k (Err x) = None

abbrev definition_in : Name → Visited Term → Option Target
definition_in n (Ok r) = definition r.0 n
definition_in n (Err x) = None

abbrev refusal : Tree → Option Refusal
refusal x = refusal_in (expanded x)

-- fixup 0 of a leaf at the root, and at the top of the module
abbrev lands : Tree → ℕ → Option Landing
lands x leaf = landing_in leaf 0 (expanded x)

abbrev mark : Tree → ℕ → Option Mark
mark x leaf = state_in leaf 0 (expanded x)

abbrev defines : Tree → Name → Option Target
defines x n = definition_in n (expanded x)

-- ---- operators

-- `old_malloc` is what `malloc` was, and `malloc` that of /trace
abbrev wrapped : Tree
wrapped =
    Apply (Hide old) (
    Merge (Apply (Restrict malloc) (Apply (CopyAs malloc old) (Path lib))) (Path trace)
    )

abbrev three : Tree
three = More (Merge (Path lib) (Path user)) (Path ab)

pub record OperatorExamples : Type 0 where
  -- of the two names that both define the lesser is refused, and the operands' order doesn't count
  pub conflict : refusal (Merge (Path ba) (Path ab))
      ≡ Some (refused.Conflict (site_of made 0) (codes "a"))
  pub swapped : refusal (Merge (Path ab) (Path ba))
      ≡ Some (refused.Conflict (site_of made 0) (codes "a"))
  -- a merge of three is one node, also where it is the third that conflicts
  pub third : refusal (Apply (Freeze grab) (More (Merge (Path lib) (Path user)) (Path new)))
      ≡ Some (refused.Conflict (site_of made 1) malloc)
  pub nodes_after : refusal (Override three (Apply (Hide zip) (Path new)))
      ≡ Some (refused.NoDefinition (site_of made 5) zip)
  -- the call follows the definition that wins, unless it was bound before
  pub override : lands (Override (Path lib) (Path new)) 0 ≡ Some (On (Inside 1 0 0))
  pub frozen : lands (Override (Apply (Freeze malloc) (Path lib)) (Path new)) 0
      ≡ Some (On (Inside 0 0 0))
  pub wrapped_call : lands wrapped 0 ≡ Some (On (Inside 1 0 0))
  pub wrapper_call : lands wrapped 1 ≡ Some (On (Inside 0 0 0))
  pub wrapper_hides : defines wrapped old ≡ None
  -- an open name that is renamed; a name that is taken, that isn't there, that is its own new name
  pub renamed : lands (Apply (Rename puts printed) (Path user)) 0 ≡ Some (On (Inside 0 0 8))
  pub renamed_open : mark (Apply (Rename puts printed) (Path user)) 0 ≡ Some (Open printed)
  pub renamed_away : lands (Apply (Rename puts zip) (Path user)) 0 ≡ Some (Nothing zip)
  pub taken : refusal (Apply (Rename grab malloc) (Path lib))
      ≡ Some (refused.Taken (site_of made 0) malloc)
  pub no_name : refusal (Apply (Rename zip old) (Path lib))
      ≡ Some (refused.NoName (site_of made 0) zip)
  pub same : refusal (Apply (Rename malloc malloc) (Path lib)) ≡ None
  pub same_defines : defines (Apply (Rename malloc malloc) (Path lib)) malloc ≡ Some (Inside 0 0 0)
  -- a definition under a name that is open here already
  pub copied : refusal (Apply (CopyAs printed puts) (Path user)) ≡ None
  pub copied_itself : refusal (Apply (CopyAs malloc malloc) (Path lib))
      ≡ Some (refused.Taken (site_of made 0) malloc)
  pub not_defined : refusal (Apply (Hide zip) (Path lib))
      ≡ Some (refused.NoDefinition (site_of made 0) zip)
  -- show binds what it hides, and refuses the first name, as written, that isn't defined
  pub shown : lands (Merge (Apply (Show (grab ∷ [])) (Path lib)) (Path new)) 0
      ≡ Some (On (Inside 0 0 0))
  pub shown_open : mark (Apply (Show (malloc ∷ [])) (Path lib)) 0 ≡ Some (Open malloc)
  pub not_shown : refusal (Apply (Show (grab ∷ zip ∷ old ∷ [])) (Path lib))
      ≡ Some (refused.NoDefinition (site_of made 0) zip)
  pub shown_none : refusal (Apply (Show []) (Path lib)) ≡ None
  pub none_defined : defines (Apply (Show []) (Path lib)) grab ≡ None
  pub all_bound : mark (Apply (Show []) (Path lib)) 0 ≡ Some (Bound (Inside 0 0 0))
  -- post-order, left to right: the operand's refusal comes before its operator's
  pub inner_first : refusal (Apply (Hide zip) (Apply (Hide old) (Path lib)))
      ≡ Some (refused.NoDefinition (site_of made 1) old)

-- ---- expansion

-- the k-th path of a chain, from /cab on
abbrev link : ℕ → Name
link k = codes "/c" ++ (97 + k / 16) ∷ (97 + k % 16) ∷ []

-- this many blueprints, each of the next one's path, and the last of an object's
abbrev chain : ℕ → List (Name × Source)
chain count =
    map (λ k. (link k, Blueprint (Path (if k == count then lib else link (k + 1)))))
    (numbers_from 1 count)

-- /da has two leaves, and each further one twice as many as the one before
abbrev twice : ℕ → Name
twice k = codes "/d" ++ (97 + k) ∷ []

abbrev doubled : List (Name × Source)
doubled =
    (twice 0, Blueprint (Override (Path lib) (Path lib)))
    ∷ map (λ k. (twice k, Blueprint (Override (Path (twice (k - 1))) (Path (twice (k - 1))))))
    (numbers_from 1 8)

-- the second link is as deep as may be, the first is deeper
abbrev both_links : Source
both_links = Blueprint (Override (Path (link 2)) (Path (link 1)))

abbrev leaf_count : Visited Term → ℕ
leaf_count (Ok r) = length (leaf_numbers r.0)
leaf_count (Err x) = 0

abbrev error : Visited Term → Option Refusal
error (Ok r) = None
error (Err x) = Some x

abbrev frozen : Tree
frozen = Apply (Freeze malloc) (Path lib)

-- a request for a path after these counts
abbrev from_counts : Visit → Name → Visited Term
from_counts v p =
    expand (with ((made, Blueprint frozen) ∷ [])) max_blueprints [] false p p v

abbrev nodes : ℕ → Visit
nodes n = record first_visit { nodes = n }

abbrev leaves : ℕ → Visit
leaves n = record first_visit { leaves = n }

abbrev exports : ℕ → Visit
exports n = record first_visit { exports = n }

abbrev fixups : ℕ → Visit
fixups n = record first_visit { fixups = n }

abbrev x : Name
x = codes "/x"

abbrev y : Name
y = codes "/y"

pub record ExpansionExamples : Type 0 where
  -- nothing is there
  pub no_entry : refusal (Override (Path lib) (Path x)) ≡ Some (refused.NoEntry (site_of made 2) x)
  pub no_request : error (expansion_by (with []) x) ≡ Some (refused.NoEntry (site_of x 0) x)
  -- an object's own path is the object
  pub own : definition_in grab (expansion_by (with []) lib) ≡ Some (Inside 0 0 8)
  pub own_call : landing_in 0 0 (expansion_by (with []) lib) ≡ Some (On (Inside 0 0 0))
  -- /x names /y, and /y names /x
  pub cycle : error (expansion_by (with ((x, Blueprint (Path y)) ∷ (y, Blueprint (Path x)) ∷ [])) x)
      ≡ Some (refused.Cycle (site_of y 0) x)
  -- 32 blueprints inside one another, and 33
  pub chain_of_32 : leaf_count (expansion_by (with (chain 32)) (link 1)) ≡ 1
  pub chain_of_33 : error (expansion_by (with (chain 33)) (link 1))
      ≡ Some (refused.TooDeep (site_of (link 32) 0) (link 33))
  -- a path that is too deep in one place isn't in another
  pub deep_first : error (expansion_by (with (chain 32 ++ (x, both_links) ∷ [])) x)
      ≡ Some (refused.TooDeep (site_of (link 31) 0) (link 32))
  -- 256 leaves, and 257
  pub leaves_256 : leaf_count (expansion_by (with doubled) (twice 7)) ≡ 256
  pub leaves_512 : error (expansion_by (with doubled) (twice 8))
      ≡ Some (refused.TooLarge (site_of (twice 0) 1))
  pub leaf_256 : leaf_count (from_counts (leaves 255) made) ≡ 1
  pub leaf_257 : error (from_counts (leaves 256) made) ≡ Some (refused.TooLarge (site_of made 1))
  -- the 4,096th node is the object's path; then the 4,097th, and the freeze itself
  pub node_4096 : error (from_counts (nodes 4094) made) ≡ None
  pub node_4097 : error (from_counts (nodes 4095) made) ≡ Some (refused.TooLarge (site_of made 1))
  pub node_4098 : error (from_counts (nodes 4096) made) ≡ Some (refused.TooLarge (site_of made 0))
  -- two exports and one fixup
  pub exports_524288 : error (from_counts (exports 524286) made) ≡ None
  pub exports_524289 : error (from_counts (exports 524287) made)
      ≡ Some (refused.TooLarge (site_of made 1))
  pub fixups_524288 : error (from_counts (fixups 524287) lib) ≡ None
  pub fixups_524289 : error (from_counts (fixups 524288) lib)
      ≡ Some (refused.TooLarge (site_of lib 0))
