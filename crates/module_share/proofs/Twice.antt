-- An expression that is expanded twice, at two places.
use Rattle.std.proofs.Common.{◌≡◌, ℕ, zero, suc, ◌+◌, ◌≤◌, Bool, true, false, ◌||◌, List, [], ◌∷◌}
use Rattle.std.proofs.Common.{◌++◌}
use Rattle.std.proofs.Common.{Option, Some, None, Ok, Err, refl, sym, ap, ◌∙◌, subst, cond, arith}
use Rattle.std.proofs.Common.{true≢false}
use Rattle.std.specs.Prelude.{nat_lt}
use Rattle.std.specs.List.{list_any}
use Rattle.std.proofs.lemmas.List.Folds.{list_any-append}
use Rattle.omos_model.specs.FragmentParts.{FragmentParts}
use Rattle.omos_model.specs.Names.{Name, same_name}
use Rattle.omos_model.specs.NameLists.{is_among}
use Rattle.omos_model.specs.Op.{Op}
use Rattle.omos_model.specs.Term.{Term, Leaf, Merge, Override, Apply}
use Rattle.omos_model.specs.Tree.{Tree}
use Rattle.omos_model.specs.Tree as tree
use Rattle.omos_model.specs.Expansion.{Source, Object, Blueprint, Visited, Visitor, and_then, begin}
use Rattle.omos_model.specs.Expansion.{leaf, both, one, visit, here, add_read, nested, site_of}
use Rattle.omos_model.specs.Expansion.{entered, unless_cycle, too_deep, opened, expand}
use Rattle.omos_model.specs.declared.refusal.Refusal.{Refusal}
use Rattle.omos_model.specs.declared.refusal.Refusal.TheVariants.{Cycle, TooDeep}
use Rattle.omos_model.specs.declared.refusal.Site.{Site}
use Rattle.omos_model.specs.Visit.{Visit}
use Rattle.module_share.specs.Places.{AllNamed, IsClosed}
use Rattle.module_share.proofs.Growth.{Grows, Grown, grows_refl, and_grown, begin_grown, leaf_grown}
use Rattle.module_share.proofs.Growth.{both_grown, one_grown, visit_grown, nested_grown}
use Rattle.module_share.proofs.Growth.{expand_grown}
use Rattle.module_share.proofs.Growth.{after_begin, begun_where, has_room, after_leaf, leaf_where}

-- where the first walk gives a value, the second gives one like it, at counts that are moved from
-- the first's, or is refused where the first's counts don't fit
abbrev pub Again : {A : Type 0} → (A → A → Type 0) → (Visit → Visit → Type 0) → (Visit → Type 0)
    → Visited A → Visited A → Type 0
Again E M F (Ok r) (Ok q) = E r.0 q.0 × M r.1 q.1
Again E M F (Ok r) (Err e) = F r.1 → ⊥
Again E M F (Err e) y = Unit {0}

abbrev SameSite : Site → Site → Type 0
SameSite s q = q ≡ s

-- what has to hold of the counts of both walks, of the terms that they give, and of the counts of
-- the first that fit the second's place; D are the paths that are named
pub record Ways (E : Term → Term → Type 0) (M : Visit → Visit → Type 0) (F : Visit → Type 0)
    (D : Name → Type 0) : Type 0 where
  pub merge : (s : Site) (l r a b : Term) → E l a → E r b → E (Merge s l r) (Merge s a b)
  pub override : (s : Site) (l r a b : Term) → E l a → E r b → E (Override s l r) (Override s a b)
  pub apply : (s : Site) (op : Op) (l a : Term) → E l a → E (Apply s op l) (Apply s op a)
  pub leaf : (s : Site) (f : FragmentParts) (v w : Visit) → M v w
      → E (Leaf s v.leaves f) (Leaf s w.leaves f)
  pub node : (v w : Visit) → M v w → w.node ≡ v.node
  pub begun : (v w : Visit) → M v w → M (after_begin v) (after_begin w)
  pub begins : (v w : Visit) → M v w → F (after_begin v) → nat_lt w.nodes 4096 ≡ true
  pub left : (f : FragmentParts) (v w : Visit) → M v w → has_room w f ≡ true
      → M (after_leaf f v) (after_leaf f w)
  pub leaves : (f : FragmentParts) (v w : Visit) → M v w → F (after_leaf f v) → has_room w f ≡ true
  pub inside : (v w : Visit) → M v w → M (record v { node = 0 }) (record w { node = 0 })
  pub outside : (v w u x : Visit) → M v w → M u x
      → M (record u { node = v.node }) (record x { node = w.node })
  pub read : (p : Name) (v w : Visit) → D p → M v w → M (add_read p v) (add_read p w)
  pub back : (v w : Visit) → Grows v w → F w → F v

either_false : (a b c : Bool) → (a || c) ≡ false → (a ≡ false → b ≡ false) → (b || c) ≡ false
either_false true b c h k = absurd (true≢false h)
either_false false b c h k = rw (k refl) h

first_false : (a c : Bool) → (a || c) ≡ false → a ≡ false
first_false true c h = absurd (true≢false h)
first_false false c h = refl

module _ (E : Term → Term → Type 0) (M : Visit → Visit → Type 0) (F : Visit → Type 0)
    (D : Name → Type 0) (ways : Ways E M F D) where
  refused : {A : Type 0} (G : A → A → Type 0) (x : Visited A) (e : Refusal)
      → ((v : Visit) → F v → ⊥) → Again G M F x (Err e)
  refused G (Ok r) e h = h r.1
  refused G (Err f) e h = tt

  refused_so : (x : Visited Term) (b : Bool) (e f : Refusal) → ((v : Visit) → F v → ⊥)
      → Again E M F x (cond b (Err e) (Err f))
  refused_so x true e f h = refused E x e h
  refused_so x false e f h = refused E x f h

  never : (b : Bool) (e f : Refusal) (y : Visited Term) → Again E M F (cond b (Err e) (Err f)) y
  never true e f y = tt
  never false e f y = tt

  and_again : {A B : Type 0} (G : A → A → Type 0) (H : B → B → Type 0) (x y : Visited A)
      (f g : A → Visitor B) → Again G M F x y → ((a : A) (u : Visit) → Grown u (f a u))
      → ((a b : A) (u w : Visit) → G a b → M u w → Again H M F (f a u) (g b w))
      → Again H M F (and_then x f) (and_then y g)
  and_again G H (Ok r) (Ok q) f g h grow k = k r.0 q.0 r.1 q.1 h.0 h.1
  and_again {A = A} {B = B} G H (Ok r) (Err e) f g h grow k = go (f r.0 r.1) (grow r.0 r.1)
    where
      go : (z : Visited B) → Grown r.1 z → Again H M F z (Err e)
      go (Ok s) gr = λ fits. h (ways.back r.1 s.1 gr fits)
      go (Err d) gr = tt
  and_again G H (Err e) y f g h grow k = tt

  -- ---- steps

  begin_again : (at : Name) (v w : Visit) → M v w → Again SameSite M F (begin at v) (begin at w)
  begin_again at v w m = go (nat_lt v.nodes 4096) (nat_lt w.nodes 4096) refl
    where
      go : (b c : Bool) → nat_lt w.nodes 4096 ≡ c
          → Again SameSite M F (begun_where b at v) (begun_where c at w)
      go true true e = (ap (site_of at) (ways.node v w m), ways.begun v w m)
      go true false e = λ fits. true≢false (sym (ways.begins v w m fits) ∙ e)
      go false c e = tt

  leaf_again : (f : FragmentParts) (s : Site) (v w : Visit) → M v w
      → Again E M F (leaf f s v) (leaf f s w)
  leaf_again f s v w m = go (has_room v f) (has_room w f) refl
    where
      go : (b c : Bool) → has_room w f ≡ c → Again E M F (leaf_where b f s v) (leaf_where c f s w)
      go true true e = (ways.leaf s f v w m, ways.left f v w m e)
      go true false e = λ fits. true≢false (sym (ways.leaves f v w m fits) ∙ e)
      go false c e = tt

  -- a node that has begun goes on alike, since both sites are the same
  begun_again : (at : Name) (v w : Visit) (f g : Site → Visitor Term) → M v w
      → ((s : Site) (u : Visit) → Grown u (f s u))
      → ((s : Site) (u x : Visit) → M u x → Again E M F (f s u) (g s x))
      → Again E M F (and_then (begin at v) f) (and_then (begin at w) g)
  begun_again at v w f g m grow k =
      and_again SameSite E (begin at v) (begin at w) f g (begin_again at v w m) grow
      (λ s q u x e n. subst (λ (z : Site). Again E M F (f s u) (g z x)) (sym e) (k s u x n))

  both_again : (join : Term → Term → Term) (l r a b : Visitor Term)
      → ((t u c d : Term) → E t c → E u d → E (join t u) (join c d))
      → ((v : Visit) → Grown v (r v))
      → ((v w : Visit) → M v w → Again E M F (l v) (a w))
      → ((v w : Visit) → M v w → Again E M F (r v) (b w))
      → (v w : Visit) → M v w → Again E M F (both join l r v) (both join a b w)
  both_again join l r a b joins grow hl hr v w m =
      and_again E E (l v) (a w) (λ t u. and_then (r u) (λ c x. Ok (join t c, x)))
      (λ t u. and_then (b u) (λ c x. Ok (join t c, x)))
      (hl v w m)
      (λ t u. and_grown u (r u) (λ c x. Ok (join t c, x)) (grow u) (λ c x. grows_refl x))
      (λ t c u x e n.
      and_again E E (r u) (b x) (λ d y. Ok (join t d, y)) (λ d y. Ok (join c d, y)) (hr u x n)
      (λ d y. grows_refl y)
      (λ d i y z f o. (joins t d c i e f, o)))

  one_again : (join : Term → Term) (l a : Visitor Term)
      → ((t c : Term) → E t c → E (join t) (join c))
      → ((v w : Visit) → M v w → Again E M F (l v) (a w)) → (v w : Visit) → M v w
      → Again E M F (one join l v) (one join a w)
  one_again join l a joins h v w m =
      and_again E E (l v) (a w) (λ t u. Ok (join t, u)) (λ t u. Ok (join t, u)) (h v w m)
      (λ t u. grows_refl u)
      (λ t c u x e n. (joins t c e, n))

  visit_again : (at : Name) (path other : Name → Visitor Term)
      → ((p : Name) (v : Visit) → Grown v (path p v))
      → ((p : Name) (v w : Visit) → D p → M v w → Again E M F (path p v) (other p w))
      → (x : Tree) → AllNamed D x → (v w : Visit) → M v w
      → Again E M F (visit at path x v) (visit at other x w)
  visit_again at path other grow h (tree.Path p) d v w m = h p v w d m
  visit_again at path other grow h (tree.Merge l r) d v w m =
      begun_again at v w (λ s. both (Merge s) (visit at path l) (visit at path r))
      (λ s. both (Merge s) (visit at other l) (visit at other r)) m
      (λ s. both_grown (Merge s) (visit at path l) (visit at path r) (visit_grown at path grow l)
      (visit_grown at path grow r))
      (λ s. both_again (Merge s) (visit at path l) (visit at path r) (visit at other l)
      (visit at other r) (ways.merge s) (visit_grown at path grow r)
      (visit_again at path other grow h l d.0) (visit_again at path other grow h r d.1))
  visit_again at path other grow h (tree.More l r) d v w m =
      subst (λ (z : Site). Again E M F
      (both (Merge (here at v)) (visit at path l) (visit at path r) v)
      (both (Merge z) (visit at other l) (visit at other r) w))
      (sym (ap (site_of at) (ways.node v w m)))
      (both_again (Merge (here at v)) (visit at path l) (visit at path r) (visit at other l)
      (visit at other r) (ways.merge (here at v)) (visit_grown at path grow r)
      (visit_again at path other grow h l d.0) (visit_again at path other grow h r d.1) v w m)
  visit_again at path other grow h (tree.Override l r) d v w m =
      begun_again at v w (λ s. both (Override s) (visit at path l) (visit at path r))
      (λ s. both (Override s) (visit at other l) (visit at other r)) m
      (λ s. both_grown (Override s) (visit at path l) (visit at path r) (visit_grown at path grow l)
      (visit_grown at path grow r))
      (λ s. both_again (Override s) (visit at path l) (visit at path r) (visit at other l)
      (visit at other r) (ways.override s) (visit_grown at path grow r)
      (visit_again at path other grow h l d.0) (visit_again at path other grow h r d.1))
  visit_again at path other grow h (tree.Apply op x) d v w m =
      begun_again at v w (λ s. one (Apply s op) (visit at path x))
      (λ s. one (Apply s op) (visit at other x)) m
      (λ s. one_grown (Apply s op) (visit at path x) (visit_grown at path grow x))
      (λ s. one_again (Apply s op) (visit at path x) (visit at other x) (ways.apply s op)
      (visit_again at path other grow h x d))

  -- ---- paths

  nested_again : (inner other : Visitor Term)
      → ((v w : Visit) → M v w → Again E M F (inner v) (other w)) → (v w : Visit) → M v w
      → Again E M F (nested inner v) (nested other w)
  nested_again inner other h v w m =
      and_again E E (inner (record v { node = 0 })) (other (record w { node = 0 }))
      (λ t u. Ok (t, record u { node = v.node })) (λ t u. Ok (t, record u { node = w.node }))
      (h (record v { node = 0 }) (record w { node = 0 }) (ways.inside v w m))
      (λ t u. record {
        nodes = omega arith;
        leaves = omega arith;
        exports = omega arith;
        fixups = omega arith;
      })
      (λ t c u x e n. (e, ways.outside v w u x m n))

  entered_again : (b c : Tree → Visitor Term) (at p : Name) (v w : Visit) → D p → M v w
      → (o : Option Source) → ((x : Tree) → o ≡ Some (Blueprint x) → Again E M F (b x v) (c x w))
      → Again E M F (entered b true at p o v) (entered c true at p o w)
  entered_again b c at p v w d m None h = tt
  entered_again b c at p v w d m (Some (Object f)) h =
      begun_again at (add_read p v) (add_read p w) (leaf f) (leaf f) (ways.read p v w d m)
      (leaf_grown f) (leaf_again f)
  entered_again b c at p v w d m (Some (Blueprint x)) h = h x refl

  module _ (ns : Name → Option Source) (closed : IsClosed ns D) where
    -- both may be opened, or the first isn't
    opened_again : (inner other : Name → Visitor Term) (above below : List Name)
        → ((q : Name) (v : Visit) → Grown v (inner q v))
        → ((q : Name) (v w : Visit) → D q → M v w → Again E M F (inner q v) (other q w))
        → (at p : Name) (v w : Visit) (x : Tree) → D p → M v w → AllNamed D x
        → ((u : Visit) → F u → is_among above p ≡ false → is_among below p ≡ false)
        → Again E M F (unless_cycle above at p (opened inner true at p x) v)
        (unless_cycle below at p (opened other true at p x) w)
    opened_again inner other above below grow h at p v w x d m all free =
        go (is_among above p) (is_among below p) refl refl
      where
        go : (b c : Bool) → is_among above p ≡ b → is_among below p ≡ c
            → Again E M F (cond b (Err (Cycle (here at v) p)) (opened inner true at p x v))
            (cond c (Err (Cycle (here at w) p)) (opened other true at p x w))
        go true c e f = tt
        go false true e f =
            refused E (opened inner true at p x v) (Cycle (here at w) p)
            (λ u fits. true≢false (sym f ∙ free u fits e))
        go false false e f =
            begun_again at (add_read p v) (add_read p w) (λ s. nested (visit p inner x))
            (λ s. nested (visit p other x)) (ways.read p v w d m)
            (λ s. nested_grown (visit p inner x) (visit_grown p inner grow x))
            (λ s. nested_again (visit p inner x) (visit p other x)
            (visit_again p inner other grow h x all))

    pub expand_again : (room more : ℕ) (above below : List Name) → ((u : Visit) → F u → room ≤ more)
        → ((u : Visit) → F u → (q : Name) → D q → is_among above q ≡ false
        → is_among below q ≡ false)
        → (at p : Name) (v w : Visit) → D p → M v w
        → Again E M F (expand ns room above true at p v) (expand ns more below true at p w)
    unfolding expand
    expand_again zero zero above below few free at p v w d m =
        entered_again _ _ at p v w d m (ns p)
        (λ x e. never (is_among above p) (Cycle (here at v) p) (TooDeep (here at v) p) _)
    expand_again zero (suc more) above below few free at p v w d m =
        entered_again _ _ at p v w d m (ns p)
        (λ x e. never (is_among above p) (Cycle (here at v) p) (TooDeep (here at v) p) _)
    expand_again (suc room) zero above below few free at p v w d m =
        entered_again _ _ at p v w d m (ns p)
        (λ x e. refused_so _ (is_among below p) (Cycle (here at w) p) (TooDeep (here at w) p)
        (λ u fits. let h : suc room ≤ 0 = few u fits in omega (arith, h)))
    expand_again (suc room) (suc more) above below few free at p v w d m =
        entered_again _ _ at p v w d m (ns p)
        (λ x e.
        opened_again (expand ns room (above ++ p ∷ []) true p)
        (expand ns more (below ++ p ∷ []) true p) above below
        (expand_grown ns room (above ++ p ∷ []) true p)
        (expand_again room more (above ++ p ∷ []) (below ++ p ∷ [])
        (λ u fits. let h : suc room ≤ suc more = few u fits in omega (arith, h)) deeper p)
        at p v w x d m (closed p x d e) (λ u fits. free u fits p d))
      where
        deeper : (u : Visit) → F u → (q : Name) → D q → is_among (above ++ p ∷ []) q ≡ false
            → is_among (below ++ p ∷ []) q ≡ false
        deeper u fits q dq h =
            let e = list_any-append (same_name q) above (p ∷ []) in
            let f = list_any-append (same_name q) below (p ∷ []) in
            f
            ∙ either_false (is_among above q) (is_among below q) (list_any (same_name q) (p ∷ []))
            (sym e ∙ h) (free u fits q dq)

    pub tree_again : (room more : ℕ) (above below : List Name) → ((u : Visit) → F u → room ≤ more)
        → ((u : Visit) → F u → (q : Name) → D q → is_among above q ≡ false
        → is_among below q ≡ false)
        → (at : Name) (x : Tree) → AllNamed D x → (v w : Visit) → M v w
        → Again E M F (visit at (expand ns room above true at) x v)
        (visit at (expand ns more below true at) x w)
    tree_again room more above below few free at x all v w m =
        visit_again at (expand ns room above true at) (expand ns more below true at)
        (expand_grown ns room above true at)
        (expand_again room more above below few free at) x all v w m
