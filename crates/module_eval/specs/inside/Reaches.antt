-- What a blueprint adds to the counts wherever it is used.
use Rattle.std.specs.Prelude.{◌≡◌, ◌≤◌, ℕ, ◌+◌, ◌-◌, true, List, Some, Ok}
use Rattle.omos_model.specs.Expansion.{Blueprint, source, max_blueprints, max_nodes, max_leaves}
use Rattle.omos_model.specs.Expansion.{max_sum}
use Rattle.omos_model.specs.Names.{Name}
use Rattle.omos_model.specs.NameLists.{is_among}
use Rattle.omos_model.specs.Namespace.{Space}
use Rattle.omos_model.specs.Term.{Term}
use Rattle.omos_model.specs.Tree.{Tree}
use Rattle.omos_model.specs.Visit.{Visit}
use Rattle.module_share.specs.Places.{tree_at}
use Rattle.module_eval.specs.declared.reach.Reach.{Reach}
use Rattle.module_eval.specs.declared.reach.Tally.{Tally}

-- the counts that have limits
abbrev pub tally_of_visit : Visit → Tally
tally_of_visit v =
    record { nodes = v.nodes; leaves = v.leaves; exports = v.exports; fixups = v.fixups }

-- what was added from some counts to others
abbrev pub added : Tally → Tally → Tally
added a b =
    record {
      nodes = b.nodes - a.nodes;
      leaves = b.leaves - a.leaves;
      exports = b.exports - a.exports;
      fixups = b.fixups - a.fixups;
    }

-- the counts, with so much added
abbrev pub with_added : Tally → Visit → Visit
with_added t v =
    record v {
      nodes = v.nodes + t.nodes;
      leaves = v.leaves + t.leaves;
      exports = v.exports + t.exports;
      fixups = v.fixups + t.fixups;
    }

-- no count passes its limit when so much is added
pub record Fits (t : Tally) (v : Visit) : Type 0 where
  pub nodes : t.nodes + v.nodes ≤ max_nodes
  pub leaves : t.leaves + v.leaves ≤ max_leaves
  pub exports : t.exports + v.exports ≤ max_sum
  pub fixups : t.fixups + v.fixups ≤ max_sum

-- a use inside so many open blueprints passes no limit
abbrev pub PassesNoLimit : Reach → ℕ → Visit → Type 0
PassesNoLimit reach depth v = (reach.height + depth ≤ max_blueprints) × Fits reach.added v

-- somewhere the blueprint's expression is expanded with no more than so many blueprints inside one
-- another, itself among them, and adds so much to the counts
pub record IsReach (ns : Space) (path : Name) (reach : Reach) : Type 0 where
  pub tree : Tree
  pub room : ℕ
  pub above : List Name
  pub start : Visit
  pub after : Visit
  pub term : Term
  pub there : source ns path ≡ Some (Blueprint tree)
  pub inside : is_among above path ≡ true
  pub node : start.node ≡ 0
  pub low : room + 1 ≤ reach.height
  pub nodes : reach.added.nodes + start.nodes ≡ after.nodes
  pub leaves : reach.added.leaves + start.leaves ≡ after.leaves
  pub exports : reach.added.exports + start.exports ≡ after.exports
  pub fixups : reach.added.fixups + start.fixups ≡ after.fixups
  pub expanded : tree_at (source ns) room above path tree start ≡ Ok (term, after)
