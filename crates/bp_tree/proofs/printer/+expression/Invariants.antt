use Rattle.std.proofs.Common.{◌≡◌, ◌++◌, take, map}
use Rattle.bp_tree.specs.Canonical.{each_spaced, expr_text}
use Rattle.bp_tree.proofs.printer.+expression.Given as goal

abbrev pub invariant-push_operands-operands : goal.invariant-push_operands-operands
invariant-push_operands-operands l =
    l.text ≡ l.initial.text ++ each_spaced (map expr_text (take l.operand-index l.operands))
