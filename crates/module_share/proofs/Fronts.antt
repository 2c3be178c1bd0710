-- A trail's front is what expansion gives.
use Rattle.std.proofs.Common.{◌≡◌, ℕ, zero, suc, ◌+◌, Bool, true, false, List, [], ◌∷◌, ◌++◌}
use Rattle.std.proofs.Common.{Option, Some, None, Ok, Err, refl, sym, ap, ◌∙◌, cond}
use Rattle.omos_model.specs.FragmentParts.{FragmentParts}
use Rattle.omos_model.specs.Names.{Name}
use Rattle.omos_model.specs.NameLists.{is_among}
use Rattle.omos_model.specs.Namespace.{Space}
use Rattle.omos_model.specs.Term.{Term, Merge, Override, Apply}
use Rattle.omos_model.specs.Tree.{Tree}
use Rattle.omos_model.specs.Tree as tree
use Rattle.omos_model.specs.Expansion.{Source, Object, Blueprint, Visited, Visitor, and_then, begin}
use Rattle.omos_model.specs.Expansion.{leaf, both, one, visit, here, add_read, begin_path, nested}
use Rattle.omos_model.specs.Expansion.{entered, unless_cycle, too_deep, opened, expand, source}
use Rattle.omos_model.specs.Expansion.{first_visit}
use Rattle.omos_model.specs.declared.refusal.Refusal.{Refusal}
use Rattle.omos_model.specs.declared.refusal.Refusal.TheVariants.{Cycle, TooDeep}
use Rattle.omos_model.specs.declared.refusal.Site.{Site}
use Rattle.omos_model.specs.Visit.{Visit}
use Rattle.module_share.specs.Trails.{Trail, Trailer, front, step, and_on, begin_on, leaf_on}
use Rattle.module_share.specs.Trails.{both_on}
use Rattle.module_share.specs.Trails.{one_on, visit_on, begin_path_on, nested_on, entered_on}
use Rattle.module_share.specs.Trails.{FrontLaw}
use Rattle.module_share.specs.Trails.{unless_cycle_on, too_deep_on, opened_on, expand_on}

-- the front of what a part gives
abbrev pub front_of : Trailer Term → Visitor Term
front_of x v = front (x v)

front_step : {A : Type 0} (v : Visit) (x : Visited A) → front (step v x) ≡ x
front_step v (Ok r) = refl
front_step v (Err e) = refl

front_and : {A B : Type 0} (x : Trail A) (more : A → Trailer B)
    → front (and_on x more) ≡ and_then (front x) (λ a v. front (more a v))
front_and (Ok r) more = refl
front_and (Err e) more = refl

front_both : (join : Term → Term → Term) (l r : Trailer Term) (v : Visit)
    → front (both_on join l r v) ≡ both join (front_of l) (front_of r) v
front_both join l r v =
    front_and (l v) (λ t w. and_on (r w) (λ u x. Ok (join t u, x)))
    ∙ (λ i. and_then (front (l v)) (λ t w. front_and (r w) (λ u x. Ok (join t u, x)) i))

front_one : (join : Term → Term) (x : Trailer Term) (v : Visit)
    → front (one_on join x v) ≡ one join (front_of x) v
front_one join x v = front_and (x v) (λ t w. Ok (join t, w))

-- what follows a step
front_begun : {A B : Type 0} (v : Visit) (x : Visited A) (more : A → Trailer B) (less : A
    → Visitor B)
    → ((a : A) (w : Visit) → front (more a w) ≡ less a w)
    → front (and_on (step v x) more) ≡ and_then x less
front_begun v x more less h =
    front_and (step v x) more
    ∙ (λ i. and_then (front_step v x i) (λ a w. h a w i))

front_visit : (at : Name) (path : Name → Trailer Term) (x : Tree) (v : Visit)
    → front (visit_on at path x v) ≡ visit at (λ p w. front (path p w)) x v
front_visit at path (tree.Path p) v = refl
front_visit at path (tree.Merge l r) v =
    front_begun v (begin at v) (λ s. both_on (Merge s) (visit_on at path l) (visit_on at path r)) _
    (λ s w. front_both (Merge s) (visit_on at path l) (visit_on at path r) w
    ∙ (λ i. both (Merge s) (λ u. front_visit at path l u i) (λ u. front_visit at path r u i) w))
front_visit at path (tree.More l r) v =
    front_both (Merge (here at v)) (visit_on at path l) (visit_on at path r) v
    ∙ (λ i. both (Merge (here at v)) (λ u. front_visit at path l u i)
    (λ u. front_visit at path r u i) v)
front_visit at path (tree.Override l r) v =
    front_begun v (begin at v) (λ s. both_on (Override s) (visit_on at path l) (visit_on at path r))
    _
    (λ s w. front_both (Override s) (visit_on at path l) (visit_on at path r) w
    ∙ (λ i. both (Override s) (λ u. front_visit at path l u i) (λ u. front_visit at path r u i) w))
front_visit at path (tree.Apply op x) v =
    front_begun v (begin at v) (λ s. one_on (Apply s op) (visit_on at path x)) _
    (λ s w. front_one (Apply s op) (visit_on at path x) w
    ∙ (λ i. one (Apply s op) (λ u. front_visit at path x u i) w))

front_nested : (x : Trailer Term) (y : Visitor Term) → ((v : Visit) → front (x v) ≡ y v)
    → (v : Visit)
    → front (nested_on x v) ≡ nested y v
front_nested x y h v =
    front_and (x (record v { node = 0 })) (λ t w. Ok (t, record w { node = v.node }))
    ∙ (λ i. and_then (h (record v { node = 0 }) i) (λ t w. Ok (t, record w { node = v.node })))

front_entered : (b : Tree → Trailer Term) (c : Tree → Visitor Term) (counts : Bool) (at p : Name)
    (v : Visit) (o : Option Source) → ((x : Tree) → front (b x v) ≡ c x v)
    → front (entered_on b counts at p o v) ≡ entered c counts at p o v
front_entered b c counts at p v None h = refl
front_entered b c counts at p v (Some (Object f)) h =
    front_begun (add_read p v) (begin_path counts at (add_read p v)) (leaf_on f) (leaf f)
    (λ s w. front_step w (leaf f s w))
front_entered b c counts at p v (Some (Blueprint x)) h = h x

front_unless : (above : List Name) (at p : Name) (x : Trailer Term) (y : Visitor Term) (v : Visit)
    → front (x v) ≡ y v → front (unless_cycle_on above at p x v) ≡ unless_cycle above at p y v
front_unless above at p x y v h = go (is_among above p)
  where
    go : (b : Bool) → front (cond b (Err (Cycle (here at v) p, v)) (x v))
        ≡ cond b (Err (Cycle (here at v) p)) (y v)
    go true = refl
    go false = h

pub front_expand : (ns : Name → Option Source) (room : ℕ) (above : List Name) (counts : Bool)
    (at p : Name) (v : Visit)
    → front (expand_on ns room above counts at p v) ≡ expand ns room above counts at p v
unfolding expand expand_on
front_expand ns zero above counts at p v =
    front_entered _ _ counts at p v (ns p)
    (λ x. front_unless above at p (too_deep_on at p) (too_deep at p) v refl)
front_expand ns (suc room) above counts at p v =
    let inner = expand_on ns room (above ++ p ∷ []) true p in
    let plain = expand ns room (above ++ p ∷ []) true p in
    front_entered _ _ counts at p v (ns p)
    (λ x. front_unless above at p (opened_on inner counts at p x) (opened plain counts at p x) v
    (front_begun (add_read p v) (begin_path counts at (add_read p v))
    (λ s. nested_on (visit_on p inner x)) (λ s. nested (visit p plain x))
    (λ s w. front_nested (visit_on p inner x) (visit p plain x)
    (λ u. front_visit p inner x u
    ∙ (λ i. visit p (λ q z. front_expand ns room (above ++ p ∷ []) true p q z i) x u)) w)))

-- an expression of a blueprint
pub front_tree : (ns : Name → Option Source) (room : ℕ) (above : List Name) (at : Name) (x : Tree)
    (v : Visit)
    → front (visit_on at (expand_on ns room above true at) x v)
    ≡ visit at (expand ns room above true at) x v
front_tree ns room above at x v =
    front_visit at (expand_on ns room above true at) x v
    ∙ (λ i. visit at (λ q z. front_expand ns room above true at q z i) x v)

pub front_law : FrontLaw
front_law ns path = front_expand (source ns) 32 [] false path path first_visit
