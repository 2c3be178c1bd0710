-- The paths that an expression names, once it was expanded.
use Rattle.std.proofs.Common.{◌≡◌, ◌∙◌, ℕ, zero, suc, Bool, true, false, ◌||◌, List, [], ◌∷◌, ◌++◌}
use Rattle.std.proofs.Common.{Option, Some, None, Ok, Err, refl, sym, ap, subst, cond, true≢false}
use Rattle.std.specs.Prelude.{nat_lt}
use Rattle.std.specs.List.{list_any}
use Rattle.std.proofs.lemmas.Bool.{or_left, or_right}
use Rattle.std.proofs.lemmas.List.Folds.{list_any-append}
use Rattle.omos_model.specs.FragmentParts.{FragmentParts}
use Rattle.omos_model.specs.Names.{Name, same_name}
use Rattle.omos_model.specs.NameLists.{is_among}
use Rattle.omos_model.specs.Term.{Term, Leaf, Merge, Override, Apply}
use Rattle.omos_model.specs.Tree.{Tree}
use Rattle.omos_model.specs.Tree as tree
use Rattle.omos_model.specs.Expansion.{Source, Object, Blueprint, Visited, Visitor, and_then, begin}
use Rattle.omos_model.specs.Expansion.{both, one, visit, here, add_read, expand}
use Rattle.omos_model.specs.declared.refusal.Refusal.TheVariants.{NoEntry, Cycle, TooDeep}
use Rattle.omos_model.specs.declared.refusal.Site.{Site}
use Rattle.omos_model.specs.Visit.{Visit}
use Rattle.omos_model.proofs.Names.{same_name-refl}
use Rattle.omos_model.proofs.Walk.{Holds, Lasts, expand_holds, expand_holds_then}
use Rattle.module_share.specs.Places.{AllNamed}
use Rattle.module_share.proofs.Growth.{begun_where, after_begin}

-- each path that was read is still read
abbrev pub Stay : List Name → List Name → Type 0
Stay old new = (q : Name) → is_among old q ≡ true → is_among new q ≡ true

-- the path was read and is there, and its blueprint wasn't open
pub record WasOpened (ns : Name → Option Source) (above paths : List Name) (p : Name) : Type 0 where
  pub read : is_among paths p ≡ true
  pub there : ns p ≡ None → ⊥
  pub free : (x : Tree) → ns p ≡ Some (Blueprint x) → is_among above p ≡ false

pub add_read_stay : (p : Name) (v : Visit) → Stay v.read (add_read p v).read
add_read_stay p v q h = go (is_among v.read p)
  where
    go : (b : Bool) → is_among (cond b v (record v { read = v.read ++ p ∷ [] })).read q ≡ true
    go true = h
    go false = list_any-append (same_name q) v.read (p ∷ [])
        ∙ or_left (is_among v.read q) (list_any (same_name q) (p ∷ [])) h

pub add_read_here : (p : Name) (v : Visit) → is_among (add_read p v).read p ≡ true
add_read_here p v = go (is_among v.read p) refl
  where
    go : (b : Bool) → is_among v.read p ≡ b
        → is_among (cond b v (record v { read = v.read ++ p ∷ [] })).read p ≡ true
    go true e = e
    go false e =
        list_any-append (same_name p) v.read (p ∷ [])
        ∙ or_right (is_among v.read p) (list_any (same_name p) (p ∷ []))
        (or_left (same_name p p) false (same_name-refl p p refl))

-- ---- a path

abbrev Reads : Visit → Term → Visit → Type 0
Reads v t w = Stay v.read w.read

reads_last : Lasts Reads
reads_last = record {
  leaf = λ v f s room q h. h;
  merge = λ s v w x t u h k q r. k q (h q r);
  override = λ s v w x t u h k q r. k q (h q r);
  apply = λ s op v w t h. h;
  begun = λ v w t n m h. h;
  nested = λ v w t n m h. h;
}

-- a part of an expression reads on, and then this holds of what was read
abbrev Step : (List Name → Type 0) → Visit → Visited Term → Type 0
Step A v (Ok r) = Stay v.read r.1.read × A r.1.read
Step A v (Err e) = Unit {0}

module _ (ns : Name → Option Source) where
  more : (p : Name) (s : Source) → ns p ≡ Some s → (v w : Visit) (t : Term)
      → Reads (add_read p v) t w → Reads v t w
  more p s e v w t h q r = h q (add_read_stay p v q r)

  none_here : (room : ℕ) (above : List Name) (at p : Name) (v : Visit) → ns p ≡ None
      → expand ns room above true at p v ≡ Err (NoEntry (here at v) p)
  unfolding expand
  none_here zero above at p v e = rw e refl
  none_here (suc room) above at p v e = rw e refl

  open_here : (room : ℕ) (above : List Name) (at p : Name) (v : Visit) (x : Tree)
      → ns p ≡ Some (Blueprint x) → is_among above p ≡ true
      → expand ns room above true at p v ≡ Err (Cycle (here at v) p)
  unfolding expand
  open_here zero above at p v x e k = rw (e, k) refl
  open_here (suc room) above at p v x e k = rw (e, k) refl

  path_step : (room : ℕ) (above : List Name) (at p : Name) (v : Visit)
      → Step (λ read. WasOpened ns above read p) v (expand ns room above true at p v)
  path_step room above at p v =
      go (expand ns room above true at p v) refl
      (expand_holds Reads reads_last ns more room above true at p v)
      (expand_holds_then Reads reads_last ns more room above true at p v)
    where
      go : (y : Visited Term) → expand ns room above true at p v ≡ y → Holds Reads v y
          → Holds Reads (add_read p v) y → Step (λ read. WasOpened ns above read p) v y
      go (Err e) is h k = tt
      go (Ok r) is h k = (
        h,
        record {
          read = k p (add_read_here p v);
          there = λ none. let gone = sym is ∙ none_here room above at p v none in cc;
          free = λ x e. free x e (is_among above p) refl;
        },
      )
        where
          free : (x : Tree) → ns p ≡ Some (Blueprint x) → (b : Bool) → is_among above p ≡ b
              → is_among above p ≡ false
          free x e false f = f
          free x e true f = let barred = sym is ∙ open_here room above at p v x e f in
              absurd (let no = barred in cc)

-- ---- an expression

abbrev AllOpened : (Name → Option Source) → List Name → Tree → List Name → Type 0
AllOpened ns above x read = AllNamed (WasOpened ns above read) x

later : (ns : Name → Option Source) (above old new : List Name) (x : Tree) → Stay old new
    → AllOpened ns above x old → AllOpened ns above x new
later ns above old new (tree.Path p) stay h =
    record { read = stay p h.read; there = h.there; free = h.free }
later ns above old new (tree.Merge l r) stay h =
    (later ns above old new l stay h.0, later ns above old new r stay h.1)
later ns above old new (tree.More l r) stay h =
    (later ns above old new l stay h.0, later ns above old new r stay h.1)
later ns above old new (tree.Override l r) stay h =
    (later ns above old new l stay h.0, later ns above old new r stay h.1)
later ns above old new (tree.Apply op x) stay h = later ns above old new x stay h

both_step : (A B : List Name → Type 0) (join : Term → Term → Term) (l r : Visitor Term)
    → ((old new : List Name) → Stay old new → A old → A new)
    → ((v : Visit) → Step A v (l v)) → ((v : Visit) → Step B v (r v)) → (v : Visit)
    → Step (λ read. A read × B read) v (both join l r v)
both_step A B join l r on hl hr v = left (l v) (hl v)
  where
    right : (t : Term) (w : Visit) → Stay v.read w.read → A w.read → (y : Visited Term) → Step B w y
        → Step (λ read. A read × B read) v (and_then y (λ u x. Ok (join t u, x)))
    right t w stay h (Err e) k = tt
    right t w stay h (Ok s) k = (λ q i. k.0 q (stay q i), (on w.read s.1.read k.0 h, k.1))

    left : (y : Visited Term) → Step A v y
        → Step (λ read. A read × B read) v
        (and_then y (λ t w. and_then (r w) (λ u x. Ok (join t u, x))))
    left (Err e) h = tt
    left (Ok s) h = right s.0 s.1 h.0 h.1 (r s.1) (hr s.1)

one_step : (A : List Name → Type 0) (join : Term → Term) (l : Visitor Term)
    → ((v : Visit) → Step A v (l v)) → (v : Visit) → Step A v (one join l v)
one_step A join l h v = go (l v) (h v)
  where
    go : (y : Visited Term) → Step A v y → Step A v (and_then y (λ t w. Ok (join t, w)))
    go (Err e) k = tt
    go (Ok s) k = k

begun_step : (A : List Name → Type 0) (at : Name) (go_on : Site → Visitor Term)
    → ((s : Site) (v : Visit) → Step A v (go_on s v)) → (v : Visit)
    → Step A v (and_then (begin at v) go_on)
begun_step A at go_on h v = go (nat_lt v.nodes 4096)
  where
    back : (y : Visited Term) → Step A (after_begin v) y → Step A v y
    back (Err e) k = tt
    back (Ok s) k = k

    go : (b : Bool) → Step A v (and_then (begun_where b at v) go_on)
    go false = tt
    go true = back (go_on (here at v) (after_begin v)) (h (here at v) (after_begin v))

module _ (ns : Name → Option Source) (room : ℕ) (above : List Name) (at : Name) where
  tree_step : (x : Tree) (v : Visit)
      → Step (AllOpened ns above x) v (visit at (expand ns room above true at) x v)
  tree_step (tree.Path p) v = path_step ns room above at p v
  tree_step (tree.Merge l r) v =
      begun_step (AllOpened ns above (tree.Merge l r)) at _
      (λ s. both_step (AllOpened ns above l) (AllOpened ns above r) (Merge s) _ _
      (λ old new. later ns above old new l) (tree_step l) (tree_step r)) v
  tree_step (tree.More l r) v =
      both_step (AllOpened ns above l) (AllOpened ns above r) (Merge (here at v)) _ _
      (λ old new. later ns above old new l) (tree_step l) (tree_step r) v
  tree_step (tree.Override l r) v =
      begun_step (AllOpened ns above (tree.Override l r)) at _
      (λ s. both_step (AllOpened ns above l) (AllOpened ns above r) (Override s) _ _
      (λ old new. later ns above old new l) (tree_step l) (tree_step r)) v
  tree_step (tree.Apply op x) v =
      begun_step (AllOpened ns above (tree.Apply op x)) at _
      (λ s. one_step (AllOpened ns above x) (Apply s op) _ (tree_step x)) v

-- each path that an expanded expression names was read, and its blueprint wasn't open
pub named_opened : (ns : Name → Option Source) (room : ℕ) (above : List Name) (at : Name) (x : Tree)
    (v w : Visit) (t : Term) → visit at (expand ns room above true at) x v ≡ Ok (t, w)
    → AllNamed (WasOpened ns above w.read) x
named_opened ns room above at x v w t is =
    (subst (Step (AllOpened ns above x) v) is (tree_step ns room above at x v)).1

-- each named path has what all such paths have
pub named_so : (A B : Name → Type 0) → ((q : Name) → A q → B q) → (x : Tree) → AllNamed A x
    → AllNamed B x
named_so A B f (tree.Path p) h = f p h
named_so A B f (tree.Merge l r) h = (named_so A B f l h.0, named_so A B f r h.1)
named_so A B f (tree.More l r) h = (named_so A B f l h.0, named_so A B f r h.1)
named_so A B f (tree.Override l r) h = (named_so A B f l h.0, named_so A B f r h.1)
named_so A B f (tree.Apply op x) h = named_so A B f x h
