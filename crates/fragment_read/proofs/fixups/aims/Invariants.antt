use Rattle.std.proofs.Common.{◌≡◌, map, take}
use Rattle.omos_model.specs.FragmentOf.{aim_of}
use Rattle.fragment_read.proofs.fixups.aims.Given as goal

abbrev pub invariant-loop-k : goal.invariant-loop-k
invariant-loop-k l = l.aims ≡ map (aim_of l.tables) (take l.k-index l.symbols)
