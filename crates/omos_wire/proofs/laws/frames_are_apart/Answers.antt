use Rattle.omos_wire.proofs.Again.{apart}
use Rattle.omos_wire.proofs.laws.frames_are_apart.Goals as goal

pub returns : goal.returns
returns c = apart
