use Rattle.std.proofs.Common.{◌≡◌, map, take}
use Rattle.omos_model.specs.State.{landed}
use Rattle.module_table.specs.TableParts.{defined_in}
use Rattle.module_land.proofs.landed.landings.Given as goal

abbrev pub invariant-loop-row : goal.invariant-loop-row
invariant-loop-row l =
    l.landings
    ≡ map (λ r. map (landed (defined_in l.table)) r.marks) (take l.row-index l.table.rows)
