use Rattle.module_eval.proofs.Known.{known_reopened}
use Rattle.module_eval.proofs.opening.open_again.Goals as goal

pub returns-clause-known : goal.returns-clause-known
returns-clause-known c ns read apart all built known =
    known_reopened ns c.args.above.now c.push.new.self read c.args.path.now
    (rw c.copy.ensures at c.in_ok-push.ensures.ok) apart all known
