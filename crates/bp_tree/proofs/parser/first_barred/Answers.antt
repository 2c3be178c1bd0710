use Rattle.bp_tree.specs.inside.Pending.{pending, placed_first}
use Rattle.bp_tree.proofs.Sights.{allowed}
use Rattle.bp_tree.proofs.Images.{passed_one}
use Rattle.bp_tree.proofs.parser.first_barred.Goals as goal

pub tokens-preserved : goal.tokens-preserved
tokens-preserved c =
    passed_one (pending c.args.from) (pending c.tokens.rest) (pending c.in-Some.next.after)
    (placed_first c.in-Some.next)
    c.tokens.invariant c.in-Some.ensures
    (λ byte h. allowed c.in-Some.next.token byte h c.in_default.not-Barred)
