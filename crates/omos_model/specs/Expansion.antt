-- Expansion: the term that a path stands for, and the paths that are read on the way.
use Rattle.std.specs.Prelude.{ℕ, zero, suc, ◌+◌, nat_lt, nat_le, ◌&&◌, Bool, true, false}
use Rattle.std.specs.Prelude.{if◌then◌else◌, List, [], ◌∷◌, ◌++◌, length, Option, Some, None}
use Rattle.std.specs.Prelude.{Result, Ok, Err}
use Rattle.std.specs.Option.{option_map}
use Rattle.omos_model.specs.Names.{Name}
use Rattle.omos_model.specs.FragmentParts.{FragmentParts}
use Rattle.omos_model.specs.NameLists.{is_among}
use Rattle.omos_model.specs.Namespace.{Space, look_up}
use Rattle.omos_model.specs.Term.{Term, Leaf, Merge, Override, Apply}
use Rattle.omos_model.specs.Tree.{Tree, tree_of}
use Rattle.omos_model.specs.Tree as tree
use Rattle.omos_model.specs.declared.entry.Entry.{Entry}
use Rattle.omos_model.specs.declared.entry.Entry.TheVariants as entry
use Rattle.omos_model.specs.declared.refusal.Site.{Site}
use Rattle.omos_model.specs.declared.refusal.Refusal.{Refusal}
use Rattle.omos_model.specs.declared.refusal.Refusal.TheVariants.{NoEntry, Cycle, TooDeep, TooLarge}
use Rattle.omos_model.specs.Visit.{Visit}

abbrev pub max_blueprints : ℕ
max_blueprints = 32

abbrev pub max_nodes : ℕ
max_nodes = 4096

abbrev pub max_leaves : ℕ
max_leaves = 256

-- of exports, and of fixups
abbrev pub max_sum : ℕ
max_sum = 524288

-- ---- what expansion reads of an entry: a blueprint's start and range don't count

pub data Source : Type 0 where
  Object : FragmentParts → Source
  Blueprint : Tree → Source

abbrev pub source_of : Entry → Source
source_of (entry.Object f) = Object f
source_of (entry.Blueprint i) = Blueprint (tree_of i.body)

abbrev pub source : Space → Name → Option Source
source ns path = option_map (λ s. source_of s.entry) (look_up ns path)

-- ---- steps of a visit, which goes from left to right, outer before inner

-- a value and the counts after it, or the first refusal
abbrev pub Visited : Type 0 → Type 0
Visited A = Result (A × Visit) Refusal

-- what a part of an expression gives, from the counts before it
abbrev pub Visitor : Type 0 → Type 0
Visitor A = Visit → Visited A

abbrev pub and_then : {A B : Type 0} → Visited A → (A → Visitor B) → Visited B
and_then (Ok r) more = more r.0 r.1
and_then (Err x) more = Err x

abbrev pub site_of : Name → ℕ → Site
site_of path node = record { path = path; node = node }

-- the next node of the blueprint `at`
abbrev pub here : Name → Visit → Site
here at v = site_of at v.node

-- a node of the blueprint `at` begins and takes its number; the 4,097th is refused
abbrev pub begin : Name → Visitor Site
begin at v =
    if nat_lt v.nodes max_nodes
    then Ok (here at v, record v { node = v.node + 1; nodes = v.nodes + 1 })
    else Err (TooLarge (here at v))

-- the next leaf, unless it is the 257th or brings a sum above its limit
abbrev pub leaf : FragmentParts → Site → Visitor Term
leaf f s v =
    if nat_lt v.leaves max_leaves
    && nat_le (v.exports + length f.exports) max_sum
    && nat_le (v.fixups + length f.fixups) max_sum
    then Ok (
      Leaf s v.leaves f,
      record v {
        leaves = v.leaves + 1;
        exports = v.exports + length f.exports;
        fixups = v.fixups + length f.fixups;
      },
    )
    else Err (TooLarge s)

abbrev pub both : (Term → Term → Term) → Visitor Term → Visitor Term → Visitor Term
both join l r v = and_then (l v) (λ t w. and_then (r w) (λ u x. Ok (join t u, x)))

abbrev pub one : (Term → Term) → Visitor Term → Visitor Term
one join x v = and_then (x v) (λ t w. Ok (join t, w))

-- an expression of the blueprint `at`, whose paths are visited by `path`
abbrev pub visit : Name → (Name → Visitor Term) → Tree → Visitor Term
visit at path (tree.Path p) v = path p v
visit at path (tree.Merge l r) v =
    and_then (begin at v) (λ s. both (Merge s) (visit at path l) (visit at path r))
visit at path (tree.More l r) v = both (Merge (here at v)) (visit at path l) (visit at path r) v
visit at path (tree.Override l r) v =
    and_then (begin at v) (λ s. both (Override s) (visit at path l) (visit at path r))
visit at path (tree.Apply op x) v = and_then (begin at v) (λ s. one (Apply s op) (visit at path x))

-- ---- paths

abbrev pub add_read : Name → Visit → Visit
add_read p v = if is_among v.read p then v else record v { read = v.read ++ p ∷ [] }

-- a path of the blueprint `at` is a node of it, and counted, but for the requested one
abbrev pub begin_path : (counted : Bool) → (at : Name) → Visitor Site
begin_path true at v = begin at v
begin_path false at v = Ok (here at v, v)

-- a blueprint's expression, whose nodes have numbers of their own
abbrev pub nested : Visitor Term → Visitor Term
nested x v = and_then (x (record v { node = 0 })) (λ t w. Ok (t, record w { node = v.node }))

-- a path by what stands under it: nothing, an object, or a blueprint, which `blueprint` visits
abbrev pub entered : (blueprint : Tree → Visitor Term) → (counted : Bool) → (at : Name) → (p : Name)
    → (entry : Option Source) → Visitor Term
entered blueprint counted at p None v = Err (NoEntry (here at v) p)
entered blueprint counted at p (Some (Object f)) v =
    and_then (begin_path counted at (add_read p v)) (leaf f)
entered blueprint counted at p (Some (Blueprint x)) v = blueprint x v

-- a blueprint that isn't open yet
abbrev pub unless_cycle : (above : List Name) → (at : Name) → (p : Name) → Visitor Term
    → Visitor Term
unless_cycle above at p x v = if is_among above p then Err (Cycle (here at v) p) else x v

abbrev pub too_deep : (at : Name) → (p : Name) → Visitor Term
too_deep at p v = Err (TooDeep (here at v) p)

-- the blueprint p, whose own paths are visited by `path`
abbrev pub opened : (path : Name → Visitor Term) → (counted : Bool) → (at : Name) → (p : Name)
    → Tree → Visitor Term
opened path counted at p x v =
    and_then (begin_path counted at (add_read p v)) (λ s. nested (visit p path x))

-- the path p at a node of `at`, inside the blueprints `above`, where `room` more may be opened in
-- one another, on the namespace that says what stands under each name
unfoldable pub expand : (ns : Name → Option Source) → (room : ℕ) → (above : List Name)
    → (counted : Bool) → (at : Name) → (p : Name) → Visitor Term
expand ns zero above counted at p =
    entered (λ x. unless_cycle above at p (too_deep at p)) counted at p (ns p)
expand ns (suc room) above counted at p =
    let inner = expand ns room (above ++ p ∷ []) true p in
    entered (λ x. unless_cycle above at p (opened inner counted at p x)) counted at p (ns p)

abbrev pub first_visit : Visit
first_visit = record { node = 0; nodes = 0; leaves = 0; exports = 0; fixups = 0; read = [] }

-- the requested path, visited as a node of its own that isn't counted
abbrev pub expansion_by : (Name → Option Source) → Name → Visited Term
expansion_by ns p = expand ns max_blueprints [] false p p first_visit

-- the term of a path and the paths that it reads, or the first refusal on the way
abbrev pub expansion : Space → Name → Visited Term
expansion ns p = expansion_by (source ns) p
