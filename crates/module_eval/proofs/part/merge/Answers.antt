use Rattle.std.proofs.Common.{◌∙◌, sym, ap}
use Rattle.omos_model.specs.Expansion.{site_of}
use Rattle.module_eval.specs.declared.part.Part.TheVariants.{Built}
use Rattle.module_eval.proofs.Joined.{merged, merged_leaf}
use Rattle.module_eval.proofs.part.merge.Goals as goal

pub returns-in-Built-clause-meant : goal.returns-in-Built-clause-meant
returns-in-Built-clause-meant g c =
    let built = rw c.in-Some-Ok.field-0-is at (rw c.in-Some-Ok.is at c.in_ok-table.ensures) in
    merged (site_of c.args.at.now c.args.node) c.args.left c.args.right c.into_inner.result
    c.into_inner-in-Built.result c.merge-answer.result c.answered.result
    (rw c.into_inner.ensures built) (c.in-Built.is ∙ ap Built (sym c.into_inner-in-Built.ensures))
    c.merge-answer.ensures.answers c.answered.ensures c.args.counting

pub returns-in-Ok-clause-meant : goal.returns-in-Ok-clause-meant
returns-in-Ok-clause-meant g c =
    let built = rw c.in-Some-Ok.field-0-is at (rw c.in-Some-Ok.is at c.in_ok-table.ensures) in
    merged_leaf (site_of c.args.at.now c.args.node) c.args.left c.args.right c.in-Some-Ok.table
    c.merge_leaf.new.self c.in-Leaf.leaf built c.in-Leaf.is c.in-Ok.ensures.answers
    c.args.counting
