use Rattle.omos_model.proofs.Written.{conflict-IsLeast}
use Rattle.omos_model.proofs.laws.conflict_is_the_least.Goals as goal

pub returns : goal.returns
returns c = conflict-IsLeast
