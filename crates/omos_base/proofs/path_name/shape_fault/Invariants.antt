use Rattle.std.proofs.Common.{take}
use Rattle.omos_base.proofs.PathBeginnings.{Stands}
use Rattle.omos_base.proofs.path_name.shape_fault.Given as goal

abbrev pub invariant-loop-place : goal.invariant-loop-place
invariant-loop-place l = Stands (take l.place l.bytes) l.parts l.size
