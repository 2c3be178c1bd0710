use Rattle.std.proofs.Common.{false, arith}
use Rattle.module_eval.proofs.Again.{own_means}
use Rattle.module_eval.proofs.memo.Memo.keep.Goals as goal

pub returns-in_ok-new-in-Some-Ok-clause-part : goal.returns-in_ok-new-in-Some-Ok-clause-part
returns-in_ok-new-in-Some-Ok-clause-part c ns t h run =
    let built = rw c.in-Some-Ok.field-0-is at (rw c.in-Some-Ok.is at c.in_ok-table.ensures) in
    let instance =
    rw (c.in_ok-table-in-Some-Ok.ensures, c.into_inner.ensures) at
    c.in_ok-own-in-Some-Ok.ensures in
    rw c.in_ok-new-in-Some-Ok.ensures
    (own_means ns c.args.path.now c.args.first c.args.part c.in-Some-Ok.table
    c.in_ok-own-in-Some-Ok.own t (omega (arith, c.ranges)) built instance h run)

pub returns-in_ok-new-in-Some-Ok-clause-kept : goal.returns-in_ok-new-in-Some-Ok-clause-kept
returns-in_ok-new-in-Some-Ok-clause-kept c ns t h run reach all =
    let built = rw c.in-Some-Ok.field-0-is at (rw c.in-Some-Ok.is at c.in_ok-table.ensures) in
    c.in_ok-insert-in-Some-Ok.ensures.kept ns
    (record {
      term = t;
      reach = reach;
      run = run;
      stands = rw (c.in_ok-table-in-Some-Ok.ensures, c.into_inner.ensures) (built false t h);
    })
    all

pub returns-in_ok-insert-in-Some-Err-clause-kept : goal.returns-in_ok-insert-in-Some-Err-clause-kept
returns-in_ok-insert-in-Some-Err-clause-kept c ns t h run reach all =
    let built = rw c.in-Some-Err.field-0-is at (rw c.in-Some-Err.is at c.in_ok-table.ensures) in
    c.in_ok-insert-in-Some-Err.ensures.kept ns
    (record {
      term = t;
      reach = reach;
      run = run;
      stands = rw (
        c.in_ok-new-in-Some-Err.ensures,
        c.in_ok-again-in-Some-Err.ensures,
        c.get.ensures,
      ) (built false t h);
    })
    all

pub returns-then-only-clause-kept : goal.returns-then-only-clause-kept
returns-then-only-clause-kept c ns t h run reach all =
    c.in_ok-insert.ensures.kept ns
    (record { term = t; reach = reach; run = run; stands = tt })
    all
