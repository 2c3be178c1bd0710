use Rattle.std.proofs.Common.{◌≡◌, ◌++◌, take}
use Rattle.name_tree.proofs.few.append.Given as goal

abbrev pub invariant-loop-item : goal.invariant-loop-item
invariant-loop-item g l = l.list ≡ l.initial.list ++ take l.item-index l.more
