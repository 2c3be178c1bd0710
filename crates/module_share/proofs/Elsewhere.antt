-- The laws of an expression that is expanded at two places.
use Rattle.std.proofs.Common.{◌≡◌, ℕ, ◌+◌, ◌≤◌, ◌<◌, Bool, true, false, List, [], ◌∷◌, ◌++◌}
use Rattle.std.proofs.Common.{Option, Some, Ok, Err, refl, sym, ap, ◌∙◌, subst, cond, length, arith}
use Rattle.std.specs.Prelude.{nat_lt, nat_le, ◌&&◌}
use Rattle.std.proofs.lemmas.Bool.{and_from, and_parts, ltb-true, lt-ltb, le-leb}
use Rattle.omos_model.specs.FragmentParts.{FragmentParts}
use Rattle.omos_model.specs.Names.{Name}
use Rattle.omos_model.specs.NameLists.{is_among}
use Rattle.omos_model.specs.Term.{Term, Leaf, Merge, Override, Apply}
use Rattle.omos_model.specs.Tree.{Tree}
use Rattle.omos_model.specs.Tree as tree
use Rattle.omos_model.specs.Expansion.{Source, Visited, add_read}
use Rattle.omos_model.specs.Visit.{Visit}
use Rattle.module_share.specs.Shifted.{raised, shifted}
use Rattle.module_share.specs.Places.{AllNamed, AnywhereLaw, HasRoomFor, IsMoved, SameTermLaw}
use Rattle.module_share.specs.Places.{tree_at}
use Rattle.module_share.proofs.Growth.{Grows, has_room, after_begin, after_leaf}
use Rattle.module_share.proofs.Twice.{Again, Ways, tree_again}

-- to read a path changes no count
record SameCounts (v w : Visit) : Type 0 where
  node : w.node ≡ v.node
  nodes : w.nodes ≡ v.nodes
  leaves : w.leaves ≡ v.leaves
  exports : w.exports ≡ v.exports
  fixups : w.fixups ≡ v.fixups

same_counts : (p : Name) (v : Visit) → SameCounts v (add_read p v)
same_counts p v = go (is_among v.read p)
  where
    go : (b : Bool) → SameCounts v (cond b v (record v { read = v.read ++ p ∷ [] }))
    go true = record { node = refl; nodes = refl; leaves = refl; exports = refl; fixups = refl }
    go false = record { node = refl; nodes = refl; leaves = refl; exports = refl; fixups = refl }

-- ---- the same term

record SameAt (k : ℕ) (v w : Visit) : Type 0 where
  node : w.node ≡ v.node
  leaves : w.leaves ≡ raised k v.leaves

abbrev IsShifted : ℕ → Term → Term → Type 0
IsShifted k t u = u ≡ shifted k t

abbrev Never : Visit → Type 0
Never v = ⊥

abbrev Any : Name → Type 0
Any p = Unit {0}

-- the 256th leaf has the last number
few_leaves : (w : Visit) (f : FragmentParts) → has_room w f ≡ true → w.leaves < 256
few_leaves w f h =
    let both =
    and_parts (nat_lt w.leaves 256 && nat_le (w.exports + length f.exports) 524288)
    (nat_le (w.fixups + length f.fixups) 524288) h in
    let first =
    and_parts (nat_lt w.leaves 256) (nat_le (w.exports + length f.exports) 524288) both.0 in
    ltb-true w.leaves 256 first.0

next_raised : (k v w : ℕ) → w ≡ raised k v → w < 256 → w + 1 ≡ raised k (v + 1)
next_raised k v w is few = omega (arith, is, few)

same_ways : (k : ℕ) → Ways (IsShifted k) (SameAt k) Never Any
same_ways k = record {
  merge = λ s l r a b e f i. Merge s (e i) (f i);
  override = λ s l r a b e f i. Override s (e i) (f i);
  apply = λ s op l a e i. Apply s op (e i);
  leaf = λ s f v w m i. Leaf s (m.leaves i) f;
  node = λ v w m. m.node;
  begun = λ v w m. record { node = ap (λ n. n + 1) m.node; leaves = m.leaves };
  begins = λ v w m f. absurd f;
  left = λ f v w m room.
      record {
        node = m.node;
        leaves = next_raised k v.leaves w.leaves m.leaves (few_leaves w f room);
      };
  leaves = λ f v w m h. absurd h;
  inside = λ v w m. record { node = refl; leaves = m.leaves };
  outside = λ v w u x m n. record { node = m.node; leaves = n.leaves };
  read = λ p v w d m.
      let a = same_counts p v in
      let b = same_counts p w in
      record {
        node = b.node ∙ m.node ∙ sym a.node;
        leaves = b.leaves ∙ m.leaves ∙ ap (raised k) (sym a.leaves);
      };
  back = λ v w g f. f;
}

all_named : (x : Tree) → AllNamed Any x
all_named (tree.Path p) = tt
all_named (tree.Merge l r) = (all_named l, all_named r)
all_named (tree.More l r) = (all_named l, all_named r)
all_named (tree.Override l r) = (all_named l, all_named r)
all_named (tree.Apply op x) = all_named x

pub same_term_law : SameTermLaw
same_term_law ns room more above other at x k v w a b t u node leaves first second =
    let again =
    tree_again (IsShifted k) (SameAt k) Never Any (same_ways k) ns (λ p y d e. all_named y) room
    more above other (λ z f. absurd f) (λ z f. absurd f) at x (all_named x) v w
    (record { node = node; leaves = leaves }) in
    let half =
    subst (λ (z : Visited Term). Again (IsShifted k) (SameAt k) Never z
    (tree_at ns more other at x w)) first again in
    let whole =
    subst (λ (z : Visited Term). Again (IsShifted k) (SameAt k) Never (Ok (t, a)) z) second
    half in
    (whole.0, whole.1.node, whole.1.leaves)

-- ---- anywhere

abbrev Whatever : Term → Term → Type 0
Whatever t u = Unit {0}

module _ (o p : Visit) (D : Name → Type 0) (known : (q : Name) → D q
    → is_among p.read q ≡ true) where
  read_known : (q : Name) (v : Visit) → D q → v.read ≡ p.read → (add_read q v).read ≡ p.read
  read_known q v d e = go (is_among v.read q) (ap (λ qs. is_among qs q) e ∙ known q d)
    where
      go : (b : Bool) → b ≡ true → (cond b v (record v { read = v.read ++ q ∷ [] })).read ≡ p.read
      go true h = e
      go false h = cc

  anywhere_ways : Ways Whatever (λ v w. IsMoved o v p w) (λ v. HasRoomFor o v p) D
  anywhere_ways = record {
    merge = λ s l r a b e f. tt;
    override = λ s l r a b e f. tt;
    apply = λ s op l a e. tt;
    leaf = λ s f v w m. tt;
    node = λ v w m. m.node;
    begun = λ v w m.
        record {
          node = ap (λ n. n + 1) m.node;
          nodes = omega (arith, m.nodes);
          leaves = m.leaves;
          exports = m.exports;
          fixups = m.fixups;
          read = m.read;
        };
    begins = λ v w m f. lt-ltb w.nodes 4096 (omega (arith, m.nodes, f.nodes));
    left = λ f v w m room.
        record {
          node = m.node;
          nodes = m.nodes;
          leaves = omega (arith, m.leaves);
          exports = omega (arith, m.exports);
          fixups = omega (arith, m.fixups);
          read = m.read;
        };
    leaves = λ f v w m h.
        and_from (nat_lt w.leaves 256 && nat_le (w.exports + length f.exports) 524288)
        (nat_le (w.fixups + length f.fixups) 524288)
        (and_from (nat_lt w.leaves 256) (nat_le (w.exports + length f.exports) 524288)
        (lt-ltb w.leaves 256 (omega (arith, m.leaves, h.leaves)))
        (le-leb (w.exports + length f.exports) 524288 (omega (arith, m.exports, h.exports))))
        (le-leb (w.fixups + length f.fixups) 524288 (omega (arith, m.fixups, h.fixups)));
    inside = λ v w m.
        record {
          node = refl;
          nodes = m.nodes;
          leaves = m.leaves;
          exports = m.exports;
          fixups = m.fixups;
          read = m.read;
        };
    outside = λ v w u x m n.
        record {
          node = m.node;
          nodes = n.nodes;
          leaves = n.leaves;
          exports = n.exports;
          fixups = n.fixups;
          read = n.read;
        };
    read = λ q v w d m.
        let a = same_counts q v in
        let b = same_counts q w in
        record {
          node = b.node ∙ m.node ∙ sym a.node;
          nodes = omega (arith, a.nodes, b.nodes, m.nodes);
          leaves = omega (arith, a.leaves, b.leaves, m.leaves);
          exports = omega (arith, a.exports, b.exports, m.exports);
          fixups = omega (arith, a.fixups, b.fixups, m.fixups);
          read = read_known q w d m.read;
        };
    back = λ v w g f.
        record {
          nodes = omega (arith, g.nodes, f.nodes);
          leaves = omega (arith, g.leaves, f.leaves);
          exports = omega (arith, g.exports, f.exports);
          fixups = omega (arith, g.fixups, f.fixups);
        };
  }

pub anywhere_law : AnywhereLaw
anywhere_law ns done room more above other at x o a w t closed all known free le node fits first =
    let D : Name → Type 0 = λ q. done q ≡ true in
    let again =
    tree_again Whatever (λ v b. IsMoved o v w b) (λ v. HasRoomFor o v w) D
    (anywhere_ways o w D known) ns closed room more above other (λ z f. le) (λ z f. free) at x
    all o w
    (record {
      node = node;
      nodes = omega arith;
      leaves = omega arith;
      exports = omega arith;
      fixups = omega arith;
      read = refl;
    }) in
    go (tree_at ns more other at x w) refl
    (subst (λ (z : Visited Term). Again Whatever (λ v b. IsMoved o v w b) (λ v. HasRoomFor o v w) z
    (tree_at ns more other at x w)) first again)
  where
    go : (y : Visited Term) → tree_at ns more other at x w ≡ y
        → Again Whatever (λ v b. IsMoved o v w b) (λ v. HasRoomFor o v w) (Ok (t, a)) y
        → (u : Term) × (b : Visit) × (tree_at ns more other at x w ≡ Ok (u, b)) × IsMoved o a w b
    go (Ok r) e h = (r.0, r.1, e, h.1)
    go (Err e) is h = absurd (h fits)
