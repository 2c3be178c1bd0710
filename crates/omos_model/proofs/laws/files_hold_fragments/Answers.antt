use Rattle.omos_model.proofs.FragmentLaw.{fragment_law}
use Rattle.omos_model.proofs.laws.files_hold_fragments.Goals as goal

pub returns : goal.returns
returns c = fragment_law
