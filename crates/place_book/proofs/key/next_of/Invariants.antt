use Rattle.std.proofs.Common.{◌≡◌, ◌-◌, ◌≤◌, length}
use Rattle.place_book.specs.Keys.{next_of}
use Rattle.place_book.proofs.key.next_of.Given as goal

abbrev pub invariant-eights : goal.invariant-eights
invariant-eights l = (l.at ≤ length l.keys)
    × (next_of l.key l.at l.keys ≡ next_of l.key l.from l.keys)

abbrev pub decreases-eights : goal.decreases-eights
decreases-eights l = length l.keys - l.at

abbrev pub invariant-ones : goal.invariant-ones
invariant-ones l = (l.at ≤ length l.keys)
    × (next_of l.key l.at l.keys ≡ next_of l.key l.from l.keys)

abbrev pub decreases-ones : goal.decreases-ones
decreases-ones l = length l.keys - l.at
