use Rattle.std.proofs.Common.{◌≡◌, ◌++◌, map, take, drop}
use Rattle.dict_row.proofs.dict.change_all.Given as goal

abbrev pub invariant-loop-value : goal.invariant-loop-value
invariant-loop-value g l =
    l.values
    ≡ map (g.R.Rule.gives l.rule) (take l.value-index l.initial.values)
    ++ drop l.value-index l.initial.values
