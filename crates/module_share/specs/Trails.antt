-- Expansion step by step, with what it has visited when it ends, also where it is refused.
use Rattle.std.specs.Prelude.{◌≡◌, ℕ, zero, suc, ◌+◌, Bool, true, false, if◌then◌else◌, List, []}
use Rattle.std.specs.Prelude.{◌∷◌, ◌++◌}
use Rattle.std.specs.Prelude.{Option, Some, None, Result, Ok, Err}
use Rattle.omos_model.specs.Names.{Name}
use Rattle.omos_model.specs.FragmentParts.{FragmentParts}
use Rattle.omos_model.specs.NameLists.{is_among}
use Rattle.omos_model.specs.Namespace.{Space}
use Rattle.omos_model.specs.Term.{Term, Merge, Override, Apply}
use Rattle.omos_model.specs.Tree.{Tree}
use Rattle.omos_model.specs.Tree as tree
use Rattle.omos_model.specs.Expansion.{Source, Object, Blueprint, Visited, Visitor, add_read, begin}
use Rattle.omos_model.specs.Expansion.{begin_path, expansion, first_visit, here, leaf}
use Rattle.omos_model.specs.Expansion.{max_blueprints, source}
use Rattle.omos_model.specs.declared.refusal.Site.{Site}
use Rattle.omos_model.specs.declared.refusal.Refusal.{Refusal}
use Rattle.omos_model.specs.declared.refusal.Refusal.TheVariants.{NoEntry, Cycle, TooDeep}
use Rattle.omos_model.specs.Visit.{Visit}

-- a value, or the first refusal, and the counts where it came
abbrev pub Trail : Type 0 → Type 0
Trail A = Result (A × Visit) (Refusal × Visit)

-- what a part of an expression gives, from the counts before it
abbrev pub Trailer : Type 0 → Type 0
Trailer A = Visit → Trail A

-- what expansion says of it
abbrev pub front : {A : Type 0} → Trail A → Visited A
front (Ok r) = Ok r
front (Err e) = Err e.0

-- the counts where it ended
abbrev pub visited : {A : Type 0} → Trail A → Visit
visited (Ok r) = r.1
visited (Err e) = e.1

-- a step that is refused changes no count
abbrev pub step : {A : Type 0} → Visit → Visited A → Trail A
step v (Ok r) = Ok r
step v (Err x) = Err (x, v)

abbrev pub and_on : {A B : Type 0} → Trail A → (A → Trailer B) → Trail B
and_on (Ok r) more = more r.0 r.1
and_on (Err e) more = Err e

abbrev pub begin_on : Name → Trailer Site
begin_on at v = step v (begin at v)

abbrev pub leaf_on : FragmentParts → Site → Trailer Term
leaf_on f s v = step v (leaf f s v)

abbrev pub both_on : (Term → Term → Term) → Trailer Term → Trailer Term → Trailer Term
both_on join l r v = and_on (l v) (λ t w. and_on (r w) (λ u x. Ok (join t u, x)))

abbrev pub one_on : (Term → Term) → Trailer Term → Trailer Term
one_on join x v = and_on (x v) (λ t w. Ok (join t, w))

-- an expression of the blueprint `at`, whose paths are gone to by `path`
abbrev pub visit_on : Name → (Name → Trailer Term) → Tree → Trailer Term
visit_on at path (tree.Path p) v = path p v
visit_on at path (tree.Merge l r) v =
    and_on (begin_on at v) (λ s. both_on (Merge s) (visit_on at path l) (visit_on at path r))
visit_on at path (tree.More l r) v =
    both_on (Merge (here at v)) (visit_on at path l) (visit_on at path r) v
visit_on at path (tree.Override l r) v =
    and_on (begin_on at v) (λ s. both_on (Override s) (visit_on at path l) (visit_on at path r))
visit_on at path (tree.Apply op x) v =
    and_on (begin_on at v) (λ s. one_on (Apply s op) (visit_on at path x))

-- ---- paths

abbrev pub begin_path_on : Bool → Name → Trailer Site
begin_path_on counts at v = step v (begin_path counts at v)

-- a blueprint's expression, whose nodes have numbers of their own
abbrev pub nested_on : Trailer Term → Trailer Term
nested_on x v = and_on (x (record v { node = 0 })) (λ t w. Ok (t, record w { node = v.node }))

-- a path by what stands under it
abbrev pub entered_on :
    (Tree → Trailer Term) → Bool → Name → Name → Option Source → Trailer Term
entered_on blueprint counts at p None v = Err (NoEntry (here at v) p, v)
entered_on blueprint counts at p (Some (Object f)) v =
    and_on (begin_path_on counts at (add_read p v)) (leaf_on f)
entered_on blueprint counts at p (Some (Blueprint x)) v = blueprint x v

abbrev pub unless_cycle_on : List Name → Name → Name → Trailer Term → Trailer Term
unless_cycle_on above at p x v =
    if is_among above p then Err (Cycle (here at v) p, v) else x v

abbrev pub too_deep_on : Name → Name → Trailer Term
too_deep_on at p v = Err (TooDeep (here at v) p, v)

abbrev pub opened_on : (Name → Trailer Term) → Bool → Name → Name → Tree → Trailer Term
opened_on path counts at p x v =
    and_on (begin_path_on counts at (add_read p v)) (λ s. nested_on (visit_on p path x))

-- the path p at a node of `at`, inside the blueprints `above`, where `room` more may be opened
unfoldable pub expand_on :
    (Name → Option Source) → ℕ → List Name → Bool → Name → Name → Trailer Term
expand_on ns zero above counts at p =
    entered_on (λ x. unless_cycle_on above at p (too_deep_on at p)) counts at p (ns p)
expand_on ns (suc room) above counts at p =
    let inner = expand_on ns room (above ++ p ∷ []) true p in
    entered_on (λ x. unless_cycle_on above at p (opened_on inner counts at p x)) counts at p (ns p)

-- the requested path, visited as a node of its own that isn't counted
abbrev pub trail : Space → Name → Trail Term
trail ns p = expand_on (source ns) max_blueprints [] false p p first_visit

-- what expansion gives is the front of its trail
abbrev pub FrontLaw : Type 0
FrontLaw = (ns : Space) (path : Name) → front (trail ns path) ≡ expansion ns path
