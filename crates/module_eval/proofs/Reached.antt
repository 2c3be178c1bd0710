-- A blueprint that is used once more without a walk.
use Rattle.std.proofs.Common.{◌≡◌, ◌∙◌, ℕ, ◌+◌, ◌-◌, ◌<◌, ◌≤◌, Bool, true, false, List, [], ◌∷◌}
use Rattle.std.proofs.Common.{◌++◌, Some, Ok, Err}
use Rattle.std.proofs.Common.{refl, sym, ap, subst, length, length-append, arith, true≢false}
use Rattle.std.specs.Borrow.{Bor}
use Rattle.std.specs.Map.{keys_of}
use Rattle.std.proofs.lemmas.Bool.{and_parts}
use Rattle.omos_model.specs.Expansion.{Blueprint, expand, source}
use Rattle.omos_model.specs.Names.{Name, same_name}
use Rattle.omos_model.specs.NameLists.{is_among}
use Rattle.omos_model.specs.Namespace.{Space}
use Rattle.omos_model.specs.Term.{Term}
use Rattle.omos_model.specs.Tree.{Tree}
use Rattle.omos_model.specs.declared.entry.Stamped.{Stamped}
use Rattle.omos_model.specs.Visit.{Visit}
use Rattle.omos_model.proofs.Names.{same_name-true}
use Rattle.module_share.specs.Places.{AllNamed, IsClosed, IsMoved, tree_at}
use Rattle.module_share.specs.Trails.{Trail, and_on, front, nested_on}
use Rattle.module_share.proofs.Elsewhere.{anywhere_law}
use Rattle.module_share.proofs.Fronts.{front_tree}
use Rattle.module_share.proofs.Growth.{Grown, Grows, expand_grown, visit_grown}
use Rattle.module_share.proofs.Named.{WasOpened, named_opened}
use Rattle.module_eval.specs.Costs.{is_built}
use Rattle.module_eval.specs.inside.Known.{AreKnown, is_closed, is_closed_in, is_done}
use Rattle.module_eval.specs.inside.Reaches.{Fits, IsReach, added, with_added}
use Rattle.module_eval.specs.inside.Reaches.{tally_of_visit}
use Rattle.module_eval.specs.inside.Walked.{tree_in}
use Rattle.module_eval.specs.declared.memo.Kept.{Kept}
use Rattle.module_eval.specs.declared.reach.Reach.{Reach}
use Rattle.module_eval.specs.declared.reach.Tally.{Tally}
use Rattle.module_eval.proofs.Known.{same_tree}
use Rattle.module_eval.proofs.Opened.{last_among, not_last}

-- the path stands last among the open blueprints
abbrev in_path : List Name → Name → List Name
in_path above path = above ++ path ∷ []

abbrev room_in : ℕ → List Name → Name → ℕ
room_in limit above path = limit - length (above ++ path ∷ [])

abbrev at_first : Visit → Visit
at_first v = record v { node = 0 }

-- ---- what a walk through a blueprint's expression tells of it

record Went (ns : Space) (limit : ℕ) (above : List Name) (path : Name) (x : Tree) (v w : Visit)
    (t : Term) : Type 0
  where
    after : Visit
    same : w ≡ record after { node = v.node }
    expanded : tree_at (source ns) (room_in limit above path) (in_path above path) path x
        (at_first v) ≡ Ok (t, after)

module _ (ns : Space) (limit : ℕ) (above : List Name) (path : Name) (x : Tree) (v w : Visit)
    (t : Term)
    (is : nested_on (tree_in ns limit (above ++ path ∷ []) path x) v ≡ Ok (t, w)) where
  went : Went ns limit above path x v w t
  went =
      go (tree_in ns limit (in_path above path) path x (at_first v))
      (front_tree (source ns) (room_in limit above path) (in_path above path) path x (at_first v))
      is
    where
      go : (y : Trail Term)
          → front y ≡ tree_at (source ns) (room_in limit above path) (in_path above path) path x
          (at_first v)
          → and_on y (λ u z. Ok (u, record z { node = v.node })) ≡ Ok (t, w)
          → Went ns limit above path x v w t
      go (Ok r) e h =
          let pair : (r.0, record r.1 { node = v.node }) ≡ (t, w) = cc in
          let term : r.0 ≡ t = ap (λ (q : Term × Visit). q.0) pair in
          record {
            after = r.1;
            same = ap (λ (q : Term × Visit). q.1) (sym pair);
            expanded = sym e ∙ (λ i. Ok (term i, r.1));
          }
      go (Err f) e h = cc

  -- the paths that it names were read, and weren't open
  pub named_by : AllNamed (WasOpened (source ns) (above ++ path ∷ []) w.read) x
  named_by =
      let g = went in
      subst (λ read. AllNamed (WasOpened (source ns) (in_path above path) read) x)
      (sym (ap (λ (z : Visit). z.read) g.same))
      (named_opened (source ns) (room_in limit above path) (in_path above path) path x (at_first v)
      g.after t g.expanded)

  grew : (g : Went ns limit above path x v w t) → Grows (at_first v) g.after
  grew g =
      subst (Grown (at_first v)) g.expanded
      (visit_grown path
      (expand (source ns) (room_in limit above path) (in_path above path) true path)
      (expand_grown (source ns) (room_in limit above path) (in_path above path) true path) x
      (at_first v))

  -- what it added is its reach
  pub reach_of : (reach : Reach) → source ns path ≡ Some (Blueprint x) → length above < limit
      → reach.height ≡ limit - length above
      → reach.added ≡ added (tally_of_visit v) (tally_of_visit w)
      → IsReach ns path reach
  reach_of reach there few height sum =
      let g = went in
      let more = grew g in
      let long = length-append above (path ∷ []) in
      let nodes = ap (λ (r : Tally). r.nodes) sum in
      let leaves = ap (λ (r : Tally). r.leaves) sum in
      let exports = ap (λ (r : Tally). r.exports) sum in
      let fixups = ap (λ (r : Tally). r.fixups) sum in
      let same_nodes = ap (λ (z : Visit). z.nodes) g.same in
      let same_leaves = ap (λ (z : Visit). z.leaves) g.same in
      let same_exports = ap (λ (z : Visit). z.exports) g.same in
      let same_fixups = ap (λ (z : Visit). z.fixups) g.same in
      record {
        tree = x;
        room = room_in limit above path;
        above = in_path above path;
        start = at_first v;
        after = g.after;
        term = t;
        there = there;
        inside = last_among (in_path above path) above path refl;
        node = refl;
        low = omega (arith, long, few, height);
        nodes = omega (arith, more.nodes, nodes, same_nodes);
        leaves = omega (arith, more.leaves, leaves, same_leaves);
        exports = omega (arith, more.exports, exports, same_exports);
        fixups = omega (arith, more.fixups, fixups, same_fixups);
        expanded = g.expanded;
      }

-- ---- a use without a walk

moved : (o a w b : Visit) (added : Tally) (node : ℕ) → IsMoved o a w b
    → added.nodes + o.nodes ≡ a.nodes → added.leaves + o.leaves ≡ a.leaves
    → added.exports + o.exports ≡ a.exports → added.fixups + o.fixups ≡ a.fixups
    → record b { node = node } ≡ with_added added (record w { node = node })
moved o a w b added node m e f g h =
    let nodes : b.nodes ≡ w.nodes + added.nodes = omega (arith, m.nodes, e) in
    let leaves : b.leaves ≡ w.leaves + added.leaves = omega (arith, m.leaves, f) in
    let exports : b.exports ≡ w.exports + added.exports = omega (arith, m.exports, g) in
    let fixups : b.fixups ≡ w.fixups + added.fixups = omega (arith, m.fixups, h) in
    λ i.
    record {
      node = node;
      nodes = nodes i;
      leaves = leaves i;
      exports = exports i;
      fixups = fixups i;
      read = m.read i;
    }

module _ (ns : Space) (limit : ℕ) (above : List Name) (path : Name) (x : Tree) (reach : Reach)
    (v : Visit)
    (read : List (Name × Bor Stamped)) (apart : Bool) (all : List (Name × Kept)) where
  abbrev done : Name → Bool
  done q = is_done ns (keys_of read) all q

  -- no path that is done with is open, but for this one, which was open where it was expanded
  free : apart ≡ true → AreKnown ns above read apart all → (there : List Name)
      → is_among there path ≡ true → (q : Name) → done q ≡ true → is_among there q ≡ false
      → is_among (in_path above path) q ≡ false
  free none_open known there inside q is out = go (is_among above q) (same_name q path) refl refl
    where
      go : (b c : Bool) → is_among above q ≡ b → same_name q path ≡ c
          → is_among (in_path above path) q ≡ false
      go true c e f =
          let parts = and_parts (is_among (keys_of read) q) (is_closed_in ns all q) is in
          absurd (true≢false (sym parts.1 ∙ known.unkept none_open q e))
      go false true e f =
          absurd (true≢false (sym inside ∙ ap (is_among there) (sym (same_name-true q path f))
          ∙ out))
      go false false e f = not_last above path q e f

  closed : AreKnown ns above read apart all → IsClosed (source ns) (λ q. done q ≡ true)
  closed known q y is there =
      let parts = and_parts (is_among (keys_of read) q) (is_closed_in ns all q) is in
      known.closed q y there (sym (ap (λ o. is_closed o (is_built all q)) there) ∙ parts.1)

  -- what is kept fits, so that its expression is expanded, and adds its reach
  pub reused : IsReach ns path reach → source ns path ≡ Some (Blueprint x)
      → AreKnown ns above read apart all → apart ≡ true → is_built all path ≡ true
      → v.read ≡ keys_of read → Fits reach.added v
      → reach.height + length above ≤ limit
      → (u : Term)
      × (nested_on (tree_in ns limit (above ++ path ∷ []) path x) v
      ≡ Ok (u, with_added reach.added v))
  reused h there known none_open built reads room high =
      let trees : Some (Blueprint h.tree) ≡ Some (Blueprint x) = sym h.there ∙ there in
      let tree : h.tree ≡ x = same_tree h.tree x trees in
      let first =
      subst (λ y. tree_at (source ns) h.room h.above path y h.start ≡ Ok (h.term, h.after)) tree
      h.expanded in
      let long = length-append above (path ∷ []) in
      let low = h.low in
      let again =
      anywhere_law (source ns) done h.room (room_in limit above path) h.above (in_path above path)
      path x h.start h.after (at_first v) h.term
      (closed known) (known.closed path x there built)
      (λ q is. ap (λ ps. is_among ps q) reads
      ∙ (and_parts (is_among (keys_of read) q) (is_closed_in ns all q) is).0)
      (free none_open known h.above h.inside)
      (omega (arith, long, low, high))
      (sym h.node)
      (record {
        nodes = omega (arith, h.nodes, room.nodes);
        leaves = omega (arith, h.leaves, room.leaves);
        exports = omega (arith, h.exports, room.exports);
        fixups = omega (arith, h.fixups, room.fixups);
      })
      first in
      let sum =
      moved h.start h.after (at_first v) again.1 reach.added v.node again.3 h.nodes h.leaves
      h.exports h.fixups in (
        again.0,
        go again.0 again.1 sum
            (tree_in ns limit (in_path above path) path x (at_first v))
            (front_tree (source ns) (room_in limit above path) (in_path above path) path x
            (at_first v) ∙ again.2),
      )
    where
      go : (u : Term) (b : Visit) → record b { node = v.node } ≡ with_added reach.added v
          → (y : Trail Term) → front y ≡ Ok (u, b)
          → and_on y (λ c z. Ok (c, record z { node = v.node })) ≡ Ok (u, with_added reach.added v)
      go u b sum (Ok r) e =
          let pair : r ≡ (u, b) = cc in
          ap (λ (q : Term × Visit). Ok (q.0, record q.1 { node = v.node })) pair
          ∙ (λ i. Ok (u, sum i))
      go u b sum (Err f) e = cc
