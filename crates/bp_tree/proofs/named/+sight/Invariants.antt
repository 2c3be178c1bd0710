use Rattle.std.proofs.Common.{take, All}
use Rattle.bp_tree.specs.Named.{IsNamedExpr}
use Rattle.bp_tree.proofs.named.+sight.Given as goal

abbrev pub invariant-see_operands-operands : goal.invariant-see_operands-operands
invariant-see_operands-operands l = All IsNamedExpr (take l.operand-index l.operands)
