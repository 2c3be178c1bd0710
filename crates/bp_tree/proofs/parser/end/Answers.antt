use Rattle.bp_tree.specs.inside.Pending.{pending, placed_first}
use Rattle.bp_tree.proofs.Images.{trailing}
use Rattle.bp_tree.proofs.parser.end.Goals as goal

pub returns-in-Some : goal.returns-in-Some
returns-in-Some c =
    trailing (pending c.args.from) (placed_first c.in-Some.next) (pending c.in-Some.next.after)
    c.in-Some.ensures
