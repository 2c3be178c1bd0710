use Rattle.std.proofs.Common.{◌+◌, ◌-◌, ◌++◌, ◌∙◌, arith}
use Rattle.std.proofs.lemmas.Result.{IfOk-weaker}
use Rattle.name_tree.specs.inside.Few.{rows_of}
use Rattle.name_tree.proofs.Rows.{few-of, length-rows}
use Rattle.name_tree.proofs.few.Few.of.Goals as goal

pub invariant_of-of : goal.invariant_of-of
invariant_of-of g c =
    let all = c.args.front.now ++ c.args.new.now ++ c.args.back.now in
    let last = c.args.from + (c.args.count - 1) in
    let rows = c.in_ok-rows.rows in
    let held = c.in_ok-rows.ensures in (
      held.few,
      omega (arith, held.room, length-rows all c.args.from last (rows_of rows) held.each),
    )

pub returns : goal.returns
returns g c =
    let all = c.args.front.now ++ c.args.new.now ++ c.args.back.now in
    let rows = c.in_ok-rows.rows in
    let held = c.in_ok-rows.ensures in
    IfOk-weaker c.of.result _ _ (λ few h.
    h ∙ few-of all c.args.from c.args.count (rows_of rows) c.requires.some held.room
    c.requires.within held.each) c.of.ensures
