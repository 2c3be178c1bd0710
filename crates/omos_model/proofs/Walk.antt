-- What holds of each step of an expansion holds of the whole.
use Rattle.std.proofs.Common.{◌≡◌, ℕ, zero, suc, ◌+◌, Bool, true, false, List, [], ◌∷◌, ◌++◌}
use Rattle.std.proofs.Common.{Option, Some, None, Ok, Err, refl, cond, length}
use Rattle.std.specs.Prelude.{nat_lt, nat_le, ◌&&◌}
use Rattle.omos_model.specs.FragmentParts.{FragmentParts}
use Rattle.omos_model.specs.Names.{Name}
use Rattle.omos_model.specs.NameLists.{is_among}
use Rattle.omos_model.specs.Op.{Op}
use Rattle.omos_model.specs.Term.{Term, Leaf, Merge, Override, Apply}
use Rattle.omos_model.specs.Tree.{Tree}
use Rattle.omos_model.specs.Tree as tree
use Rattle.omos_model.specs.Expansion.{Source, Object, Blueprint, Visited, Visitor, and_then, begin}
use Rattle.omos_model.specs.Expansion.{leaf, both, one, visit, here, add_read, begin_path, nested}
use Rattle.omos_model.specs.Expansion.{entered, unless_cycle, expand}
use Rattle.omos_model.specs.declared.refusal.Refusal.TheVariants.{Cycle, TooDeep, TooLarge}
use Rattle.omos_model.specs.declared.refusal.Site.{Site}
use Rattle.omos_model.specs.Visit.{Visit}

-- a fact about the counts before a part, its term and the counts after it
abbrev pub Fact : Type 1
Fact = Visit → Term → Visit → Type 0

-- a leaf with this object is still allowed
abbrev pub has_room : Visit → FragmentParts → Bool
has_room v f =
    nat_lt v.leaves 256 && nat_le (v.exports + length f.exports) 524288
    && nat_le (v.fixups + length f.fixups) 524288

abbrev pub after_leaf : FragmentParts → Visit → Visit
after_leaf f v =
    record v {
      leaves = v.leaves + 1;
      exports = v.exports + length f.exports;
      fixups = v.fixups + length f.fixups;
    }

-- the fact holds of a leaf, goes on from operands to operators, and doesn't see the count of nodes
pub record Lasts (R : Visit → Term → Visit → Type 0) : Type 0 where
  pub leaf : (v : Visit) (f : FragmentParts) (s : Site) → has_room v f ≡ true
      → R v (Leaf s v.leaves f) (after_leaf f v)
  pub merge : (s : Site) (v w x : Visit) (t u : Term) → R v t w → R w u x → R v (Merge s t u) x
  pub override : (s : Site) (v w x : Visit) (t u : Term) → R v t w → R w u x
      → R v (Override s t u) x
  pub apply : (s : Site) (op : Op) (v w : Visit) (t : Term) → R v t w → R v (Apply s op t) w
  pub begun : (v w : Visit) (t : Term) (n m : ℕ) → R (record v { node = n; nodes = m }) t w
      → R v t w
  pub nested : (v w : Visit) (t : Term) (n m : ℕ) → R (record v { node = n }) t w
      → R v t (record w { node = m })

-- the fact holds of what was visited from v on
abbrev pub Holds : (Visit → Term → Visit → Type 0) → Visit → Visited Term → Type 0
Holds R v (Ok r) = R v r.0 r.1
Holds R v (Err x) = Unit {0}

module _ (R : Visit → Term → Visit → Type 0) (lasts : Lasts R) where
  both_hold : (join : Term → Term → Term) (l r : Visitor Term)
      → ((v w x : Visit) (t u : Term) → R v t w → R w u x → R v (join t u) x)
      → ((v : Visit) → Holds R v (l v)) → ((v : Visit) → Holds R v (r v)) → (v : Visit)
      → Holds R v (both join l r v)
  both_hold join l r joins hl hr v = left (l v) (hl v)
    where
      right : (t : Term) (w : Visit) → R v t w → (x : Visited Term) → Holds R w x
          → Holds R v (and_then x (λ u y. Ok (join t u, y)))
      right t w h (Ok p) k = joins v w p.1 t p.0 h k
      right t w h (Err x) k = tt

      left : (x : Visited Term) → Holds R v x
          → Holds R v (and_then x (λ t w. and_then (r w) (λ u y. Ok (join t u, y))))
      left (Ok p) h = right p.0 p.1 h (r p.1) (hr p.1)
      left (Err x) h = tt

  one_holds : (s : Site) (op : Op) (x : Visitor Term) → ((v : Visit) → Holds R v (x v))
      → (v : Visit) → Holds R v (one (Apply s op) x v)
  one_holds s op x h v = go (x v) (h v)
    where
      go : (y : Visited Term) → Holds R v y → Holds R v (and_then y (λ t w. Ok (Apply s op t, w)))
      go (Ok r) k = lasts.apply s op v r.1 r.0 k
      go (Err e) k = tt

  begin_holds : (at : Name) (more : Site → Visitor Term)
      → ((s : Site) (v : Visit) → Holds R v (more s v)) → (v : Visit)
      → Holds R v (and_then (begin at v) more)
  begin_holds at more h v = go (nat_lt v.nodes 4096)
    where
      w : Visit
      w = record v { node = v.node + 1; nodes = v.nodes + 1 }

      back : (x : Visited Term) → Holds R w x → Holds R v x
      back (Ok r) k = lasts.begun v r.1 r.0 (v.node + 1) (v.nodes + 1) k
      back (Err e) k = tt

      go : (b : Bool)
          → Holds R v (and_then (cond b (Ok (here at v, w)) (Err (TooLarge (here at v)))) more)
      go true = back (more (here at v) w) (h (here at v) w)
      go false = tt

  leaf_holds : (f : FragmentParts) (s : Site) (v : Visit) → Holds R v (leaf f s v)
  leaf_holds f s v = go (has_room v f) refl
    where
      go : (b : Bool) → has_room v f ≡ b
          → Holds R v (cond b (Ok (Leaf s v.leaves f, after_leaf f v)) (Err (TooLarge s)))
      go true e = lasts.leaf v f s e
      go false e = tt

  visit_holds : (at : Name) (path : Name → Visitor Term)
      → ((p : Name) (v : Visit) → Holds R v (path p v)) → (x : Tree) (v : Visit)
      → Holds R v (visit at path x v)
  visit_holds at path h (tree.Path p) v = h p v
  visit_holds at path h (tree.Merge l r) v =
      begin_holds at _
      (λ s. both_hold (Merge s) (visit at path l) (visit at path r) (lasts.merge s)
      (visit_holds at path h l) (visit_holds at path h r)) v
  visit_holds at path h (tree.More l r) v =
      both_hold (Merge (here at v)) (visit at path l) (visit at path r) (lasts.merge (here at v))
      (visit_holds at path h l) (visit_holds at path h r) v
  visit_holds at path h (tree.Override l r) v =
      begin_holds at _
      (λ s. both_hold (Override s) (visit at path l) (visit at path r) (lasts.override s)
      (visit_holds at path h l) (visit_holds at path h r)) v
  visit_holds at path h (tree.Apply op x) v =
      begin_holds at _ (λ s. one_holds s op (visit at path x) (visit_holds at path h x)) v

  begin_path_holds : (counts : Bool) (at : Name) (more : Site → Visitor Term)
      → ((s : Site) (v : Visit) → Holds R v (more s v)) → (v : Visit)
      → Holds R v (and_then (begin_path counts at v) more)
  begin_path_holds true at more h v = begin_holds at more h v
  begin_path_holds false at more h v = h (here at v) v

  nested_holds : (x : Visitor Term) → ((v : Visit) → Holds R v (x v)) → (v : Visit)
      → Holds R v (nested x v)
  nested_holds x h v = go (x (record v { node = 0 })) (h (record v { node = 0 }))
    where
      go : (y : Visited Term) → Holds R (record v { node = 0 }) y
          → Holds R v (and_then y (λ t w. Ok (t, record w { node = v.node })))
      go (Ok r) k = lasts.nested v r.1 r.0 0 v.node k
      go (Err e) k = tt

  unless_cycle_holds : (above : List Name) (at p : Name) (x : Visitor Term) (v w : Visit)
      → Holds R w (x v) → Holds R w (unless_cycle above at p x v)
  unless_cycle_holds above at p x v w h = go (is_among above p)
    where
      go : (b : Bool) → Holds R w (cond b (Err (Cycle (here at v) p)) (x v))
      go true = tt
      go false = h

  entered_holds : (blueprint : Tree
      → Visitor Term) (counts : Bool) (at p : Name) (v : Visit) (o : Option Source)
      → ((x : Tree) → Holds R (add_read p v) (blueprint x v))
      → Holds R (add_read p v) (entered blueprint counts at p o v)
  entered_holds blueprint counts at p v None h = tt
  entered_holds blueprint counts at p v (Some (Object f)) h =
      begin_path_holds counts at (leaf f) (leaf_holds f) (add_read p v)
  entered_holds blueprint counts at p v (Some (Blueprint x)) h = h x

  module _ (ns : Name → Option Source)
      (reads : (p : Name) (s : Source) → ns p ≡ Some s → (v w : Visit) (t : Term)
      → R (add_read p v) t w → R v t w) where
    weaken : (p : Name) (t : Source) → ns p ≡ Some t → (v : Visit) (x : Visited Term)
        → Holds R (add_read p v) x → Holds R v x
    weaken p t e v (Ok r) h = reads p t e v r.1 r.0 h
    weaken p t e v (Err x) h = tt

    from_entry : (blueprint : Tree
        → Visitor Term) (counts : Bool) (at p : Name) (v : Visit) (o : Option Source) → ns p ≡ o
        → ((x : Tree) → Holds R (add_read p v) (blueprint x v))
        → Holds R v (entered blueprint counts at p o v)
    from_entry blueprint counts at p v None e h = tt
    from_entry blueprint counts at p v (Some t) e h =
        weaken p t e v (entered blueprint counts at p (Some t) v)
        (entered_holds blueprint counts at p v (Some t) h)

    -- a blueprint, inside which `inner` visits paths
    opened : (inner : Name → Visitor Term) → ((q : Name) (w : Visit) → Holds R w (inner q w))
        → (above : List Name) (counts : Bool) (at p : Name) (v : Visit) (x : Tree)
        → Holds R (add_read p v)
        (unless_cycle above at p
        (λ w. and_then (begin_path counts at (add_read p w)) (λ s. nested (visit p inner x))) v)
    opened inner h above counts at p v x =
        let more : Site → Visitor Term = λ s. nested (visit p inner x) in
        unless_cycle_holds above at p (λ w. and_then (begin_path counts at (add_read p w)) more) v
        (add_read p v)
        (begin_path_holds counts at more
        (λ s. nested_holds (visit p inner x) (visit_holds p inner h x)) (add_read p v))

    too_deep : (above : List Name) (at p : Name) (v : Visit)
        → Holds R (add_read p v) (unless_cycle above at p (λ w. Err (TooDeep (here at w) p)) v)
    too_deep above at p v =
        unless_cycle_holds above at p (λ w. Err (TooDeep (here at w) p)) v (add_read p v) tt

    -- the fact holds of a path, wherever it is visited
    pub expand_holds : (room : ℕ) (above : List Name) (counts : Bool) (at p : Name) (v : Visit)
        → Holds R v (expand ns room above counts at p v)
    unfolding expand
    expand_holds zero above counts at p v =
        from_entry _ counts at p v (ns p) refl (λ x. too_deep above at p v)
    expand_holds (suc room) above counts at p v =
        from_entry _ counts at p v (ns p) refl
        (opened (expand ns room (above ++ p ∷ []) true p)
        (expand_holds room (above ++ p ∷ []) true p) above counts at p v)

    -- and from where the path is read on
    pub expand_holds_then : (room : ℕ) (above : List Name) (counts : Bool) (at p : Name) (v : Visit)
        → Holds R (add_read p v) (expand ns room above counts at p v)
    unfolding expand
    expand_holds_then zero above counts at p v =
        entered_holds _ counts at p v (ns p) (λ x. too_deep above at p v)
    expand_holds_then (suc room) above counts at p v =
        entered_holds _ counts at p v (ns p)
        (opened (expand ns room (above ++ p ∷ []) true p)
        (expand_holds room (above ++ p ∷ []) true p) above counts at p v)
