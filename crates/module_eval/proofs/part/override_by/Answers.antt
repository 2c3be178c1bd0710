use Rattle.module_eval.proofs.Joined.{overridden}
use Rattle.module_eval.proofs.part.override_by.Goals as goal

pub returns-clause-meant : goal.returns-clause-meant
returns-clause-meant g c s =
    let left = rw c.in-Some-Ok.field-0-is at (rw c.in-Some-Ok.is at c.in_ok-table.ensures) in
    let right = rw c.in-Some-Ok-2.field-0-is at (rw c.in-Some-Ok-2.is at c.in_ok-table-2.ensures) in
    rw c.in_ok-new.ensures
    (overridden c.args.left c.args.right c.into_inner.result c.into_inner-2.result
    c.in_ok-table-3.table (rw c.into_inner.ensures left) (rw c.into_inner-2.ensures right)
    c.in_ok-table-3.ensures.answers s c.args.counting)
