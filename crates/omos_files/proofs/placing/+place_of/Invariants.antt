use Rattle.std.proofs.Common.{length}
use Rattle.omos_files.proofs.placing.+place_of.Given as goal

abbrev pub decreases-place_of : goal.decreases-place_of
decreases-place_of l = length l.files.now
