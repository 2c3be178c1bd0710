use Rattle.std.proofs.Common.{◌≡◌, ◌++◌, map}
use Rattle.module_land.proofs.Founds.{found_of}
use Rattle.module_land.proofs.landed.names.Given as goal

abbrev pub invariant-loop-name : goal.invariant-loop-name
invariant-loop-name l =
    l.names ++ map found_of l.name-iterator ≡ map found_of l.table.exports
