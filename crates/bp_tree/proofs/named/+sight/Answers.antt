use Rattle.std.proofs.Common.{sym, subst, All}
use Rattle.std.proofs.lemmas.List.Elements.{All-more}
use Rattle.omos_base.specs.SymNames.{IsSymName}
use Rattle.omos_model.specs.Op.{Rename, Restrict, Freeze, Hide, Show, CopyAs}
use Rattle.bp_tree.specs.Named.{IsNamedExpr}
use Rattle.bp_tree.proofs.NamedForms.{named_Merge, named_Override, named_applied, seen_all}
use Rattle.bp_tree.proofs.named.+sight.Goals as goal

pub see_expr-returns-in-Merge : goal.see_expr-returns-in-Merge
see_expr-returns-in-Merge t c =
    subst IsNamedExpr (sym c.in-Merge.is)
    (named_Merge c.in-Merge.operands
    (subst (λ xs. All IsNamedExpr xs) c.as_slice.ensures c.see_operands.ensures))

pub see_expr-returns-in-Override : goal.see_expr-returns-in-Override
see_expr-returns-in-Override t c =
    subst IsNamedExpr (sym c.in-Override.is)
    (named_Override c.in-Override.left c.in-Override.right
    (subst IsNamedExpr c.get.ensures c.see_expr.ensures)
    (subst IsNamedExpr c.get-in-Override.ensures c.see_expr-in-Override.ensures))

pub see_expr-returns-in-Rename : goal.see_expr-returns-in-Rename
see_expr-returns-in-Rename t c =
    named_applied (Rename c.in-Rename.from c.in-Rename.to) c.args.expr.now c.in-Rename.body
    c.get-in-Rename.result.now
    c.in-Rename.is c.get-in-Rename.ensures
    (c.as_bytes-in-Rename.ensures.name, c.as_bytes-in-Rename-2.ensures.name)
    c.see_expr-in-Rename.ensures

pub see_expr-returns-in-Restrict : goal.see_expr-returns-in-Restrict
see_expr-returns-in-Restrict t c =
    named_applied (Restrict c.in-Restrict.name) c.args.expr.now c.in-Restrict.body
    c.get-in-Restrict.result.now
    c.in-Restrict.is c.get-in-Restrict.ensures c.as_bytes-in-Restrict.ensures.name
    c.see_expr-in-Restrict.ensures

pub see_expr-returns-in-Freeze : goal.see_expr-returns-in-Freeze
see_expr-returns-in-Freeze t c =
    named_applied (Freeze c.in-Freeze.name) c.args.expr.now c.in-Freeze.body
    c.get-in-Freeze.result.now
    c.in-Freeze.is c.get-in-Freeze.ensures c.as_bytes-in-Freeze.ensures.name
    c.see_expr-in-Freeze.ensures

pub see_expr-returns-in-Hide : goal.see_expr-returns-in-Hide
see_expr-returns-in-Hide t c =
    named_applied (Hide c.in-Hide.name) c.args.expr.now c.in-Hide.body c.get-in-Hide.result.now
    c.in-Hide.is c.get-in-Hide.ensures c.as_bytes-in-Hide.ensures.name c.see_expr-in-Hide.ensures

pub see_expr-returns-in-Show : goal.see_expr-returns-in-Show
see_expr-returns-in-Show t c =
    named_applied (Show c.in-Show.names) c.args.expr.now c.in-Show.body c.get-in-Show.result.now
    c.in-Show.is c.get-in-Show.ensures (subst
    (λ ns. All IsSymName ns) c.as_slice-in-Show.ensures c.see_names.ensures)
    c.see_expr-in-Show.ensures

pub see_expr-returns-in-CopyAs : goal.see_expr-returns-in-CopyAs
see_expr-returns-in-CopyAs t c =
    named_applied (CopyAs c.in-CopyAs.from c.in-CopyAs.to) c.args.expr.now c.in-CopyAs.body
    c.get-in-CopyAs.result.now
    c.in-CopyAs.is c.get-in-CopyAs.ensures
    (c.as_bytes-in-CopyAs.ensures.name, c.as_bytes-in-CopyAs-2.ensures.name)
    c.see_expr-in-CopyAs.ensures

pub see_operands-operands-preserved : goal.see_operands-operands-preserved
see_operands-operands-preserved t c =
    All-more IsNamedExpr c.args.operands.now c.operands.operand-index c.operand-item.result
    c.operands-test.true c.operands.invariant
    (subst IsNamedExpr c.operand-item.is c.see_expr.ensures)

pub see_operands-returns : goal.see_operands-returns
see_operands-returns t c =
    seen_all IsNamedExpr c.args.operands.now c.operands.operand-index c.operands-test.false
    c.operands.invariant
