use Rattle.std.proofs.Common.{◌≡◌, ℕ, ◌+◌, ◌-◌, ◌*◌, ◌≤◌, true, length}
use Rattle.std.specs.Prelude.{IsTrue}
use Rattle.omos_model.specs.ImageParts.{is_formed}
use Rattle.omos_model.specs.Names.{Name}
use Rattle.omos_model.specs.Term.{Term}
use Rattle.omos_model.specs.Tree.{tree_of}
use Rattle.module_share.specs.Trails.{Trail}
use Rattle.module_eval.specs.Costs.{operators, owed}
use Rattle.module_eval.specs.inside.Counted.{visit_of}
use Rattle.module_eval.specs.inside.Meant.{Means}
use Rattle.module_eval.specs.inside.Pendings.{Comes, EndsIn}
use Rattle.module_eval.specs.inside.Walked.{tree_in}
use Rattle.module_eval.specs.inside.Times.{occurs, occurs_left}
use Rattle.module_eval.specs.inside.Walks.{Charges, ComesBack, CountOn, MayGoOn, Uses, space_of}
use Rattle.module_eval.proofs.+visits.Given as goal

-- a step down opens a blueprint, of which there are at most 32
abbrev pub decreases-blueprints::visit_first : goal.decreases-blueprints::visit_first
decreases-blueprints::visit_first g l = 8 * (32 - length l.walk.now.above)

abbrev pub decreases-blueprints::visit_again : goal.decreases-blueprints::visit_again
decreases-blueprints::visit_again g l = 8 * (32 - length l.walk.now.above)

abbrev pub decreases-paths::visit_blueprint : goal.decreases-paths::visit_blueprint
decreases-paths::visit_blueprint g l = 8 * (32 - length l.walk.now.above) + 1

abbrev pub decreases-paths::visit_path : goal.decreases-paths::visit_path
decreases-paths::visit_path g l = 8 * (32 - length l.walk.now.above) + 2

abbrev pub decreases-exprs::descend : goal.decreases-exprs::descend
decreases-exprs::descend g l = 8 * (32 - length l.walk.now.above) + 3

abbrev pub decreases-exprs::visit_others : goal.decreases-exprs::visit_others
decreases-exprs::visit_others g l = 8 * (32 - length l.walk.now.above) + 4

abbrev pub decreases-exprs::resume : goal.decreases-exprs::resume
decreases-exprs::resume g l = 8 * (32 - length l.walk.now.above) + 5

abbrev pub decreases-exprs::visit_expr : goal.decreases-exprs::visit_expr
decreases-exprs::visit_expr g l = 8 * (32 - length l.walk.now.above) + 6

abbrev pub decreases-blueprints::visit_nested : goal.decreases-blueprints::visit_nested
decreases-blueprints::visit_nested g l = 8 * (32 - length l.walk.now.above) + 7

-- a step either begins a node, of which there are at most 4,096, or is done with one
abbrev pub decreases-exprs::visit_expr-pending : goal.decreases-exprs::visit_expr-pending
decreases-exprs::visit_expr-pending g l = 2 * (4096 - l.walk.counts.nodes) + length l.pending

abbrev pub invariant-exprs::visit_expr-pending : goal.invariant-exprs::visit_expr-pending
invariant-exprs::visit_expr-pending g l =
    record {
      walked : (limit : ℕ) → l.walk.memo.deepest ≤ limit
          → (t : Term) × Means l.place.counting l.part t
          × EndsIn l.place.counting (space_of l.place) limit l.fn.walk.above l.place.at.now
          l.pending t (visit_of l.walk.counts)
          (tree_in (space_of l.place) limit l.fn.walk.above l.place.at.now (tree_of l.expr)
          (visit_of l.fn.walk.counts));
      ready : MayGoOn (space_of l.place) l.walk;
      counts : CountOn l.fn.walk.counts l.walk.counts;
      back : ComesBack (space_of l.place) true l.fn.walk l.walk;
      uses : Uses (space_of l.place) l.place.counting (λ p. occurs p (tree_of l.expr))
          (occurs_left l.pending)
          l.fn.walk l.walk;
      cost : Charges (space_of l.place) l.place.counting (operators (tree_of l.expr))
          (owed l.pending)
          l.fn.walk.counts l.walk.counts l.fn.steps l.steps;
    }

abbrev pub decreases-exprs::descend-nodes : goal.decreases-exprs::descend-nodes
decreases-exprs::descend-nodes g l = 4096 - l.walk.counts.nodes

abbrev pub invariant-exprs::descend-nodes : goal.invariant-exprs::descend-nodes
invariant-exprs::descend-nodes g l =
    record {
      walked : (limit : ℕ) (end : Trail Term)
          → Comes (tree_in (space_of l.place) limit l.fn.walk.above l.place.at.now
          (tree_of l.fn.expr) (visit_of l.fn.walk.counts))
          (EndsIn l.place.counting (space_of l.place) limit l.fn.walk.above l.place.at.now
          l.fn.pending) end
          → Comes (tree_in (space_of l.place) limit l.fn.walk.above l.place.at.now (tree_of l.expr)
          (visit_of l.walk.counts))
          (EndsIn l.place.counting (space_of l.place) limit l.fn.walk.above l.place.at.now
          l.pending) end;
      formed : IsTrue (is_formed l.expr);
      ready : MayGoOn (space_of l.place) l.walk;
      above : l.walk.above ≡ l.fn.walk.above;
      memo : l.walk.memo ≡ l.fn.walk.memo;
      read : l.walk.counts.read.entries ≡ l.fn.walk.counts.read.entries;
      plan : l.walk.plan ≡ l.fn.walk.plan;
      steps : l.steps ≡ l.fn.steps;
      uses : (p : Name) → occurs p (tree_of l.expr) + occurs_left l.pending p
          ≡ occurs p (tree_of l.fn.expr) + occurs_left l.fn.pending p;
      cost : operators (tree_of l.expr) + owed l.pending
          ≡ operators (tree_of l.fn.expr) + owed l.fn.pending;
      least : l.fn.walk.counts.nodes ≤ l.walk.counts.nodes;
      begun : length l.pending + l.fn.walk.counts.nodes ≡ length l.fn.pending + l.walk.counts.nodes;
    }
