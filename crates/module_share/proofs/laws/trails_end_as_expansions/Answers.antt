use Rattle.module_share.proofs.Fronts.{front_law}
use Rattle.module_share.proofs.laws.trails_end_as_expansions.Goals as goal

pub returns : goal.returns
returns c = front_law
