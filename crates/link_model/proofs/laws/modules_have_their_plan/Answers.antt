use Rattle.link_model.proofs.Modules.{own_plan_law}
use Rattle.link_model.proofs.laws.modules_have_their_plan.Goals as goal

pub returns : goal.returns
returns c = own_plan_law
