use Rattle.std.proofs.Common.{ap}
use Rattle.bp_tree.specs.Tokens.{Close}
use Rattle.bp_tree.specs.inside.Pending.{pending, placed_first, seen}
use Rattle.bp_tree.proofs.Sights.{seen_close}
use Rattle.bp_tree.proofs.Singles.{it_early, it_shape, it_read, close_uncalled}
use Rattle.bp_tree.proofs.leaves.close.Goals as goal

pub returns-in-None : goal.returns-in-None
returns-in-None c = it_early Close (pending c.args.from) c.in-None.ensures

pub returns-in-Close : goal.returns-in-Close
returns-in-Close c =
    it_read Close (pending c.args.from) (placed_first c.in-Some.next) (pending c.in-Some.next.after)
    c.in-Some.ensures (ap seen c.in-Close.is)

pub returns-in_default : goal.returns-in_default
returns-in_default c =
    it_shape Close (pending c.args.from) (placed_first c.in-Some.next)
    (pending c.in-Some.next.after) c.in-Some.ensures
    (λ h. seen_close c.in-Some.next.token h c.in_default.not-Close) close_uncalled
