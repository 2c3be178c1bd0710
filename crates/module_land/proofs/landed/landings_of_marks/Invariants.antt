use Rattle.std.proofs.Common.{◌≡◌, map, take}
use Rattle.omos_model.specs.State.{landed}
use Rattle.module_table.specs.TableParts.{defined_in}
use Rattle.module_land.proofs.landed.landings_of_marks.Given as goal

abbrev pub invariant-loop-mark : goal.invariant-loop-mark
invariant-loop-mark l =
    l.landings ≡ map (landed (defined_in l.table)) (take l.mark-index l.marks)
