use Rattle.module_eval.proofs.Charged.{on_ok, on_ok_both}
use Rattle.module_eval.proofs.Uses.{can_count}
use Rattle.module_eval.proofs.Known.{known_again}
use Rattle.module_eval.proofs.opening.enter_again.Goals as goal

pub returns-clause-known : goal.returns-clause-known
returns-clause-known c =
    on_ok_both c.enter.result _ _ _
    (λ alone stay ns above apart all built known.
    known_again ns above above c.args.counts.now.read.entries c.enter.new.counts.read.entries apart
    all c.args.path.now alone stay built known)
    c.enter.ensures.alone c.enter.ensures.stay

pub returns-clause-uses : goal.returns-clause-uses
returns-clause-uses c =
    on_ok c.enter.result _ _
    (λ here ns x all there.
    can_count ns c.args.path.now x c.enter.new.counts.read.entries all there here)
    c.enter.ensures.here
