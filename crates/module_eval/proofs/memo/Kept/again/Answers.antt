use Rattle.std.proofs.Common.{◌∙◌, Some, ap, arith}
use Rattle.module_eval.proofs.Again.{again_failed, again_means, only_counting, shift_to}
use Rattle.module_eval.proofs.memo.Kept.again.Goals as goal

pub returns-in_ok-new-in-Some-Ok : goal.returns-in_ok-new-in-Some-Ok
returns-in_ok-new-in-Some-Ok c ns path counting t kept left run =
    let number =
    shift_to c.args.first c.args.self.first (omega (arith, c.ranges))
    (omega (arith, c.ranges)) in
    rw c.in_ok-new-in-Some-Ok.ensures
    (again_means ns path c.args.self c.args.first _ t c.in-Some-Ok.table
    c.in_ok-again-in-Some-Ok.again kept run (c.in-Some-Ok.is ∙ ap Some c.in-Some-Ok.field-0-is)
    number c.in_ok-again-in-Some-Ok.ensures)

pub returns-in-Some-Err : goal.returns-in-Some-Err
returns-in-Some-Err c ns path counting t kept left run =
    let number =
    shift_to c.args.first c.args.self.first (omega (arith, c.ranges))
    (omega (arith, c.ranges)) in
    again_failed ns path c.args.self c.args.first _ t c.in-Some-Err.refusal kept run
    (c.in-Some-Err.is ∙ ap Some c.in-Some-Err.field-0-is) number

pub returns-in-None : goal.returns-in-None
returns-in-None c ns path counting t kept left run =
    only_counting counting c.args.self.built c.in-None.is left
