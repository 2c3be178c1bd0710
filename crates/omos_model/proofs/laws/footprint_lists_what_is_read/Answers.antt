use Rattle.omos_model.proofs.PathsRead.{footprint_law}
use Rattle.omos_model.proofs.laws.footprint_lists_what_is_read.Goals as goal

pub returns : goal.returns
returns c = footprint_law
