use Rattle.link_model.proofs.Modules.{bounds_law}
use Rattle.link_model.proofs.laws.modules_are_bounded.Goals as goal

pub returns : goal.returns
returns c = bounds_law
