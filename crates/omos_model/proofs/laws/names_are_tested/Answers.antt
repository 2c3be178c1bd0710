use Rattle.omos_model.proofs.Tested.{name_law}
use Rattle.omos_model.proofs.laws.names_are_tested.Goals as goal

pub returns : goal.returns
returns c = name_law
