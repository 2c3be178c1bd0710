-- The expansion of one expression at two places.
use Rattle.std.specs.Prelude.{◌≡◌, ◌≤◌, ℕ, ◌+◌, Bool, true, false, List, [], ◌∷◌, ◌++◌}
use Rattle.std.specs.Prelude.{Option, Some}
use Rattle.std.specs.Prelude.{Result, Ok, Err}
use Rattle.omos_model.specs.Names.{Name}
use Rattle.omos_model.specs.NameLists.{is_among}
use Rattle.omos_model.specs.Term.{Term}
use Rattle.omos_model.specs.Tree.{Tree}
use Rattle.omos_model.specs.Tree as tree
use Rattle.omos_model.specs.Expansion.{Source, Blueprint, Visited, Visitor, visit, expand}
use Rattle.omos_model.specs.Visit.{Visit}
use Rattle.module_share.specs.Shifted.{raised, shifted}

-- an expression of the blueprint `at`, inside the blueprints `above`, where `room` more may be
-- opened
abbrev pub tree_at : (Name → Option Source) → ℕ → List Name → Name → Tree → Visitor Term
tree_at ns room above at x = visit at (expand ns room above true at) x

-- each path that an expression names is one of these
abbrev pub AllNamed : (Name → Type 0) → Tree → Type 0
AllNamed D (tree.Path p) = D p
AllNamed D (tree.Merge l r) = AllNamed D l × AllNamed D r
AllNamed D (tree.More l r) = AllNamed D l × AllNamed D r
AllNamed D (tree.Override l r) = AllNamed D l × AllNamed D r
AllNamed D (tree.Apply op x) = AllNamed D x

-- these are closed: what a blueprint of them names is one of them
abbrev pub IsClosed : (Name → Option Source) → (Name → Type 0) → Type 0
IsClosed ns D = (p : Name) (x : Tree) → D p → ns p ≡ Some (Blueprint x) → AllNamed D x

-- two places that give an expression give the same term, but for the numbers of its leaves
abbrev pub SameTermLaw : Type 0
SameTermLaw =
    (ns : Name → Option Source) (room more : ℕ) (above other : List Name) (at : Name) (x : Tree)
    (k : ℕ) (v w a b : Visit) (t u : Term) → w.node ≡ v.node → w.leaves ≡ raised k v.leaves
    → tree_at ns room above at x v ≡ Ok (t, a) → tree_at ns more other at x w ≡ Ok (u, b)
    → (u ≡ shifted k t) × (b.node ≡ a.node) × (b.leaves ≡ raised k a.leaves)

-- what the walk from o to a added to its counts doesn't pass a limit when it is added to those of w
pub record HasRoomFor (o a w : Visit) : Type 0 where
  pub nodes : a.nodes + w.nodes ≤ 4096 + o.nodes
  pub leaves : a.leaves + w.leaves ≤ 256 + o.leaves
  pub exports : a.exports + w.exports ≤ 524288 + o.exports
  pub fixups : a.fixups + w.fixups ≤ 524288 + o.fixups

-- b is w with what the walk from o to a added to its counts, and no path read that wasn't
pub record IsMoved (o a w b : Visit) : Type 0 where
  pub node : b.node ≡ a.node
  pub nodes : b.nodes + o.nodes ≡ a.nodes + w.nodes
  pub leaves : b.leaves + o.leaves ≡ a.leaves + w.leaves
  pub exports : b.exports + o.exports ≡ a.exports + w.exports
  pub fixups : b.fixups + o.fixups ≡ a.fixups + w.fixups
  pub read : b.read ≡ w.read

-- an expression that was expanded once, and names closed paths alone, is expanded at each place
-- where the counts and the open blueprints leave it room, and where none of these paths is open
-- that wasn't before
abbrev pub AnywhereLaw : Type 0
AnywhereLaw =
    (ns : Name → Option Source) (done : Name → Bool) (room more : ℕ) (above other : List Name)
    (at : Name) (x : Tree) (o a w : Visit) (t : Term) → IsClosed ns (λ q. done q ≡ true)
    → AllNamed (λ q. done q ≡ true) x
    → ((q : Name) → done q ≡ true → is_among w.read q ≡ true)
    → ((q : Name) → done q ≡ true → is_among above q ≡ false → is_among other q ≡ false)
    → room ≤ more → w.node ≡ o.node → HasRoomFor o a w → tree_at ns room above at x o ≡ Ok (t, a)
    → (u : Term) × (b : Visit) × (tree_at ns more other at x w ≡ Ok (u, b)) × IsMoved o a w b
