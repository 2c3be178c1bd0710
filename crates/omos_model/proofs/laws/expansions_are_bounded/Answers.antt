use Rattle.omos_model.proofs.Counts.{counts_law}
use Rattle.omos_model.proofs.laws.expansions_are_bounded.Goals as goal

pub returns : goal.returns
returns c = counts_law
