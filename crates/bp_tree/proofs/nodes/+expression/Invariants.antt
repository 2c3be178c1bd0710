use Rattle.std.proofs.Common.{◌*◌, ◌+◌, length}
use Rattle.bp_tree.specs.inside.Pending.{pending}
use Rattle.bp_tree.specs.inside.Symbols.{Exprs, HasGrown}
use Rattle.bp_tree.proofs.Operands.{Grouped}
use Rattle.bp_tree.proofs.nodes.+expression.Given as goal

abbrev pub decreases-applied : goal.decreases-applied
decreases-applied l = 8 * l.room + 4

abbrev pub decreases-expr : goal.decreases-expr
decreases-expr l = 8 * l.room

abbrev pub decreases-inside : goal.decreases-inside
decreases-inside l = 8 * l.room + 5

abbrev pub decreases-merged : goal.decreases-merged
decreases-merged l = 8 * l.room + 4

abbrev pub decreases-operands : goal.decreases-operands
decreases-operands l = 8 * l.room + 3

abbrev pub decreases-overridden : goal.decreases-overridden
decreases-overridden l = 8 * l.room + 4

abbrev pub decreases-push_expr : goal.decreases-push_expr
decreases-push_expr l = 8 * l.room + 1

abbrev pub decreases-push_one : goal.decreases-push_one
decreases-push_one l = 8 * l.room + 2

abbrev pub invariant-operands-operands : goal.invariant-operands-operands
invariant-operands-operands l =
    HasGrown (Exprs l.room) (Grouped l.room l.fn.given l.operands) (pending l.fn.from)
    (pending l.rest)

abbrev pub decreases-operands-operands : goal.decreases-operands-operands
decreases-operands-operands l = length (pending l.rest)
