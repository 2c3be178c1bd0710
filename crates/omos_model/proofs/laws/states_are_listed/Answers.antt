use Rattle.omos_model.proofs.TermLaws.{state-in_rows, states-numbers}
use Rattle.omos_model.proofs.laws.states_are_listed.Goals as goal

pub returns-clause-states : goal.returns-clause-states
returns-clause-states c = state-in_rows

pub returns-clause-numbers : goal.returns-clause-numbers
returns-clause-numbers c = states-numbers
