-- An expansion depends on what stands under the paths that it reads, and on nothing else.
use Rattle.std.proofs.Common.{◌≡◌, ℕ, zero, suc, ◌+◌, Bool, true, false, ◌||◌, List, [], ◌∷◌, ◌++◌}
use Rattle.std.proofs.Common.{Option, Some, None, Ok, Err, refl, sym, ap, ◌∙◌, cond}
use Rattle.std.specs.Prelude.{nat_lt}
use Rattle.std.proofs.lemmas.List.Folds.{list_any-append}
use Rattle.omos_model.specs.FragmentParts.{FragmentParts}
use Rattle.omos_model.specs.Names.{Name, same_name}
use Rattle.omos_model.specs.NameLists.{is_among}
use Rattle.omos_model.specs.Term.{Term, Leaf, Merge, Override, Apply}
use Rattle.omos_model.specs.Tree.{Tree}
use Rattle.omos_model.specs.Tree as tree
use Rattle.omos_model.specs.Expansion.{Source, Object, Blueprint, Visited, Visitor, and_then, begin}
use Rattle.omos_model.specs.Expansion.{leaf, both, one, visit, here, add_read, begin_path, nested}
use Rattle.omos_model.specs.Expansion.{entered, unless_cycle, opened, too_deep, expand}
use Rattle.omos_model.specs.declared.refusal.Refusal.TheVariants.{Cycle, TooLarge}
use Rattle.omos_model.specs.declared.refusal.Site.{Site}
use Rattle.omos_model.specs.Visit.{Visit}
use Rattle.omos_model.proofs.Names.{same_name-refl}
use Rattle.omos_model.proofs.Walk.{has_room, after_leaf}

-- what was read stays read
abbrev pub Grows : Visit → Visit → Type 0
Grows v w = (q : Name) → is_among v.read q ≡ true → is_among w.read q ≡ true

-- both have the same under the paths read
abbrev pub Agree : (Name → Option Source) → (Name → Option Source) → Visit → Type 0
Agree a b w = (q : Name) → is_among w.read q ≡ true → a q ≡ b q

-- a part that was visited from v on is the same where both have the same under what it read
abbrev pub Same : (Name → Option Source) → (Name → Option Source) → {A : Type 0} → Visit → Visited A
    → Visited A → Type 0
Same a b v (Ok r) y = Grows v r.1 × (Agree a b r.1 → y ≡ Ok r)
Same a b v (Err x) y = Unit {0}

or_true : (c : Bool) → (c || true) ≡ true
or_true true = refl
or_true false = refl

grows_by : (p : Name) (v : Visit) → Grows v (add_read p v)
grows_by p v q h = go (is_among v.read p)
  where
    go : (c : Bool) → is_among (cond c v (record v { read = v.read ++ p ∷ [] })).read q ≡ true
    go true = h
    go false =
        list_any-append (same_name q) v.read (p ∷ [])
        ∙ ap (λ (c : Bool). c || is_among (p ∷ []) q) h

is_read : (p : Name) (v : Visit) → is_among (add_read p v).read p ≡ true
is_read p v = go (is_among v.read p) refl
  where
    go : (c : Bool) → is_among v.read p ≡ c
        → is_among (cond c v (record v { read = v.read ++ p ∷ [] })).read p ≡ true
    go true e = e
    go false e =
        list_any-append (same_name p) v.read (p ∷ [])
        ∙ ap (λ (c : Bool). is_among v.read p || (c || false)) (same_name-refl p p refl)
        ∙ or_true (is_among v.read p)

module _ (a b : Name → Option Source) where
  carried : {A B : Type 0} (v : Visit) (r : A × Visit) (y : Visited A) (g : A → Visitor B)
      → Same a b v (Ok r) y → (z : Visited B) → Same a b r.1 z (g r.0 r.1)
      → Same a b v z (and_then y g)
  carried v r y g h (Ok s) m = (
    λ q e. m.0 q (h.0 q e),
    λ agree. ap (λ x. and_then x g) (h.1 (λ q e. agree q (m.0 q e))) ∙ m.1 agree,
  )
  carried v r y g h (Err e) m = tt

  then_same : {A B : Type 0} (v : Visit) (x y : Visited A) (f g : A → Visitor B)
      → Same a b v x y → ((t : A) (w : Visit) → Same a b w (f t w) (g t w))
      → Same a b v (and_then x f) (and_then y g)
  then_same v (Ok r) y f g h k = carried v r y g h (f r.0 r.1) (k r.0 r.1)
  then_same v (Err e) y f g h k = tt

  begin_same : (at : Name) (v : Visit) → Same a b v (begin at v) (begin at v)
  begin_same at v = go (nat_lt v.nodes 4096)
    where
      go : (c : Bool) → Same a b v
          (cond c (Ok (here at v, record v { node = v.node + 1; nodes = v.nodes + 1 }))
          (Err (TooLarge (here at v))))
          (cond c (Ok (here at v, record v { node = v.node + 1; nodes = v.nodes + 1 }))
          (Err (TooLarge (here at v))))
      go true = (λ q e. e, λ agree. refl)
      go false = tt

  leaf_same : (f : FragmentParts) (s : Site) (v : Visit) → Same a b v (leaf f s v) (leaf f s v)
  leaf_same f s v = go (has_room v f)
    where
      go : (c : Bool) → Same a b v
          (cond c (Ok (Leaf s v.leaves f, after_leaf f v)) (Err (TooLarge s)))
          (cond c (Ok (Leaf s v.leaves f, after_leaf f v)) (Err (TooLarge s)))
      go true = (λ q e. e, λ agree. refl)
      go false = tt

  both_same : (join : Term → Term → Term) (l k r s : Visitor Term)
      → ((v : Visit) → Same a b v (l v) (k v)) → ((v : Visit) → Same a b v (r v) (s v))
      → (v : Visit) → Same a b v (both join l r v) (both join k s v)
  both_same join l k r s hl hr v =
      then_same v (l v) (k v) (λ t w. and_then (r w) (λ u x. Ok (join t u, x)))
      (λ t w. and_then (s w) (λ u x. Ok (join t u, x))) (hl v)
      (λ t w. then_same w (r w) (s w) (λ u x. Ok (join t u, x)) (λ u x. Ok (join t u, x)) (hr w)
      (λ u x. (λ q e. e, λ agree. refl)))

  one_same : (join : Term → Term) (x y : Visitor Term) → ((v : Visit) → Same a b v (x v) (y v))
      → (v : Visit) → Same a b v (one join x v) (one join y v)
  one_same join x y h v =
      then_same v (x v) (y v) (λ t w. Ok (join t, w)) (λ t w. Ok (join t, w)) (h v)
      (λ t w. (λ q e. e, λ agree. refl))

  visit_same : (at : Name) (path other : Name → Visitor Term)
      → ((p : Name) (v : Visit) → Same a b v (path p v) (other p v)) → (x : Tree) (v : Visit)
      → Same a b v (visit at path x v) (visit at other x v)
  visit_same at path other h (tree.Path p) v = h p v
  visit_same at path other h (tree.Merge l r) v =
      then_same v (begin at v) (begin at v)
      (λ s. both (Merge s) (visit at path l) (visit at path r))
      (λ s. both (Merge s) (visit at other l) (visit at other r)) (begin_same at v)
      (λ s. both_same (Merge s) (visit at path l) (visit at other l) (visit at path r)
      (visit at other r) (visit_same at path other h l) (visit_same at path other h r))
  visit_same at path other h (tree.More l r) v =
      both_same (Merge (here at v)) (visit at path l) (visit at other l) (visit at path r)
      (visit at other r) (visit_same at path other h l) (visit_same at path other h r) v
  visit_same at path other h (tree.Override l r) v =
      then_same v (begin at v) (begin at v)
      (λ s. both (Override s) (visit at path l) (visit at path r))
      (λ s. both (Override s) (visit at other l) (visit at other r)) (begin_same at v)
      (λ s. both_same (Override s) (visit at path l) (visit at other l) (visit at path r)
      (visit at other r) (visit_same at path other h l) (visit_same at path other h r))
  visit_same at path other h (tree.Apply op x) v =
      then_same v (begin at v) (begin at v) (λ s. one (Apply s op) (visit at path x))
      (λ s. one (Apply s op) (visit at other x)) (begin_same at v)
      (λ s. one_same (Apply s op) (visit at path x) (visit at other x)
      (visit_same at path other h x))

  begin_path_same : (counts : Bool) (at : Name) (v : Visit)
      → Same a b v (begin_path counts at v) (begin_path counts at v)
  begin_path_same true at v = begin_same at v
  begin_path_same false at v = (λ q e. e, λ agree. refl)

  nested_same : (x y : Visitor Term) → ((v : Visit) → Same a b v (x v) (y v)) → (v : Visit)
      → Same a b v (nested x v) (nested y v)
  nested_same x y h v =
      then_same (record v { node = 0 }) (x (record v { node = 0 })) (y (record v { node = 0 }))
      (λ t w. Ok (t, record w { node = v.node })) (λ t w. Ok (t, record w { node = v.node }))
      (h (record v { node = 0 })) (λ t w. (λ q e. e, λ agree. refl))

  cycle_same : (above : List Name) (at p : Name) (x y : Visitor Term) (v w : Visit)
      → Same a b w (x v) (y v)
      → Same a b w (unless_cycle above at p x v) (unless_cycle above at p y v)
  cycle_same above at p x y v w h = go (is_among above p)
    where
      go : (c : Bool)
          → Same a b w (cond c (Err (Cycle (here at v) p)) (x v))
          (cond c (Err (Cycle (here at v) p)) (y v))
      go true = tt
      go false = h

  -- what is read is the same in both
  read_same : (p : Name) (v : Visit) (o : Option Source) → a p ≡ o → (x : Visited Term)
      (y : Option Source → Visited Term) → Same a b (add_read p v) x (y o) → Same a b v x (y (b p))
  read_same p v o e (Ok r) y h = (
    λ q k. h.0 q (grows_by p v q k),
    λ agree. ap y (sym (agree p (h.0 p (is_read p v))) ∙ e) ∙ h.1 agree,
  )
  read_same p v o e (Err x) y h = tt

  entered_same : (f g : Tree → Visitor Term) (counts : Bool) (at p : Name) (v : Visit)
      → ((x : Tree) → Same a b (add_read p v) (f x v) (g x v)) → (o : Option Source)
      → Same a b (add_read p v) (entered f counts at p o v) (entered g counts at p o v)
  entered_same f g counts at p v h None = tt
  entered_same f g counts at p v h (Some (Object k)) =
      then_same (add_read p v) (begin_path counts at (add_read p v))
      (begin_path counts at (add_read p v)) (leaf k) (leaf k)
      (begin_path_same counts at (add_read p v)) (leaf_same k)
  entered_same f g counts at p v h (Some (Blueprint x)) = h x

  opened_same : (above : List Name) (inner other : Name → Visitor Term)
      → ((q : Name) (w : Visit) → Same a b w (inner q w) (other q w))
      → (counts : Bool) (at p : Name) (v : Visit) (x : Tree)
      → Same a b (add_read p v) (unless_cycle above at p (opened inner counts at p x) v)
      (unless_cycle above at p (opened other counts at p x) v)
  opened_same above inner other h counts at p v x =
      cycle_same above at p (opened inner counts at p x) (opened other counts at p x) v
      (add_read p v)
      (then_same (add_read p v) (begin_path counts at (add_read p v))
      (begin_path counts at (add_read p v)) (λ s. nested (visit p inner x))
      (λ s. nested (visit p other x)) (begin_path_same counts at (add_read p v))
      (λ s. nested_same (visit p inner x) (visit p other x) (visit_same p inner other h x)))

  deep_same : (above : List Name) (at p : Name) (v : Visit)
      → Same a b (add_read p v) (unless_cycle above at p (too_deep at p) v)
      (unless_cycle above at p (too_deep at p) v)
  deep_same above at p v = cycle_same above at p (too_deep at p) (too_deep at p) v (add_read p v) tt

  pub expand_same : (room : ℕ) (above : List Name) (counts : Bool) (at p : Name) (v : Visit)
      → Same a b v (expand a room above counts at p v) (expand b room above counts at p v)
  unfolding expand
  expand_same zero above counts at p v =
      let f = λ (x : Tree). unless_cycle above at p (too_deep at p) in
      read_same p v (a p) refl (entered f counts at p (a p) v) (λ o. entered f counts at p o v)
      (entered_same f f counts at p v (λ x. deep_same above at p v) (a p))
  expand_same (suc room) above counts at p v =
      let inner = expand a room (above ++ p ∷ []) true p in
      let other = expand b room (above ++ p ∷ []) true p in
      let f = λ (x : Tree). unless_cycle above at p (opened inner counts at p x) in
      let g = λ (x : Tree). unless_cycle above at p (opened other counts at p x) in
      read_same p v (a p) refl (entered f counts at p (a p) v) (λ o. entered g counts at p o v)
      (entered_same f g counts at p v
      (opened_same above inner other (expand_same room (above ++ p ∷ []) true p) counts at p v)
      (a p))
