use Rattle.omos_model.proofs.Leaves.{leaves_law}
use Rattle.omos_model.proofs.laws.leaves_are_numbered.Goals as goal

pub returns : goal.returns
returns c = leaves_law
