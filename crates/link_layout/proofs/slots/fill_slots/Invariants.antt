use Rattle.std.proofs.Common.{◌≡◌, length, drop, fold}
use Rattle.std.specs.List.{zip}
use Rattle.link_layout.specs.Slots.{slots_with_leaf}
use Rattle.link_layout.proofs.slots.fill_slots.Given as goal

abbrev pub invariant-loop-leaf : goal.invariant-loop-leaf
invariant-loop-leaf l =
    fold slots_with_leaf l.slots.keys (drop (length l.yielded) (zip l.leaves l.landings))
    ≡ fold slots_with_leaf l.fn.slots.keys (zip l.leaves l.landings)
