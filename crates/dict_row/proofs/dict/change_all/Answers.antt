use Rattle.std.proofs.Common.{arith}
use Rattle.std.proofs.lemmas.List.Edits.{map_over_more}
use Rattle.dict_row.proofs.dict.change_all.Goals as goal

pub loop-value-preserved : goal.loop-value-preserved
loop-value-preserved g c =
    rw (c.in_ok-change_one.ensures, ← c.value-item.is)
    (map_over_more _ _ _ _ c.value-item.result (omega arith) c.loop-value.invariant
    c.value-item.is)
