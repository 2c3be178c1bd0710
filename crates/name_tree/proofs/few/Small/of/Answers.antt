use Rattle.std.proofs.Common.{◌++◌, ◌∙◌}
use Rattle.std.proofs.lemmas.Result.{IfOk-weaker}
use Rattle.name_tree.proofs.Rows.{small-of}
use Rattle.name_tree.proofs.few.Small.of.Goals as goal

pub returns : goal.returns
returns g c =
    let all = c.args.front.now ++ c.args.new.now ++ c.args.back.now in
    IfOk-weaker c.of.result _ _ (λ small h.
    h ∙ small-of all c.args.count c.in_ok-row.row c.requires.some c.requires.few c.requires.whole
    c.in_ok-row.ensures) c.of.ensures
