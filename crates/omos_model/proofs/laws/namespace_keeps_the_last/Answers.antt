use Rattle.omos_model.proofs.Spaces.{last_put_law, order_law}
use Rattle.omos_model.proofs.laws.namespace_keeps_the_last.Goals as goal

pub returns-clause-last : goal.returns-clause-last
returns-clause-last c = last_put_law

pub returns-clause-order : goal.returns-clause-order
returns-clause-order c = order_law
