use Rattle.std.proofs.Common.{ap, ◌∙◌}
use Rattle.std.proofs.lemmas.Result.{IfOk-weaker}
use Rattle.name_tree.specs.Parts.{branches_of}
use Rattle.name_tree.specs.Tree.{branches_with}
use Rattle.name_tree.proofs.snap.root_with.Goals as goal

pub returns : goal.returns
returns c =
    IfOk-weaker c.with.result _ _ (λ made h. h
    ∙ ap (λ b. branches_with b
    (record { path = c.in_ok-path.path; stamp = c.args.stamp; entry = c.args.entry }))
    c.as_slice.ensures
    ∙ ap (λ p. branches_with (branches_of c.args.root.now)
    (record { path = p; stamp = c.args.stamp; entry = c.args.entry })) c.in_ok-path.ensures)
    c.with.ensures
