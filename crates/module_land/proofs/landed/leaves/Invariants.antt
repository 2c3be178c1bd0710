use Rattle.std.proofs.Common.{◌≡◌, map, take}
use Rattle.module_land.proofs.landed.leaves.Given as goal

abbrev pub invariant-loop-row : goal.invariant-loop-row
invariant-loop-row l = l.leaves ≡ map (λ r. r.entry) (take l.row-index l.table.rows)
