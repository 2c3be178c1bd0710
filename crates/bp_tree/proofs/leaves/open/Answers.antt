use Rattle.std.proofs.Common.{ap}
use Rattle.bp_tree.specs.Tokens.{Open}
use Rattle.bp_tree.specs.inside.Pending.{pending, placed_first, seen}
use Rattle.bp_tree.proofs.Sights.{seen_open}
use Rattle.bp_tree.proofs.Singles.{it_early, it_shape, it_read, open_uncalled}
use Rattle.bp_tree.proofs.leaves.open.Goals as goal

pub returns-in-None : goal.returns-in-None
returns-in-None c = it_early Open (pending c.args.from) c.in-None.ensures

pub returns-in-Open : goal.returns-in-Open
returns-in-Open c =
    it_read Open (pending c.args.from) (placed_first c.in-Some.next) (pending c.in-Some.next.after)
    c.in-Some.ensures (ap seen c.in-Open.is)

pub returns-in_default : goal.returns-in_default
returns-in_default c =
    it_shape Open (pending c.args.from) (placed_first c.in-Some.next) (pending c.in-Some.next.after)
    c.in-Some.ensures (λ h. seen_open c.in-Some.next.token h c.in_default.not-Open) open_uncalled
