use Rattle.std.proofs.Common.{◌≡◌, ◌-◌, ◌≤◌, length, drop}
use Rattle.std.specs.List.{fold}
use Rattle.place_book.specs.Keys.{key_with}
use Rattle.place_book.proofs.key.key_of.Given as goal

abbrev pub invariant-fours : goal.invariant-fours
invariant-fours l =
    (l.at ≤ length l.bytes) × (fold key_with l.key (drop l.at l.bytes) ≡ fold key_with 0 l.path)

abbrev pub decreases-fours : goal.decreases-fours
decreases-fours l = length l.bytes - l.at

abbrev pub invariant-ones : goal.invariant-ones
invariant-ones l =
    (l.at ≤ length l.bytes) × (fold key_with l.key (drop l.at l.bytes) ≡ fold key_with 0 l.path)

abbrev pub decreases-ones : goal.decreases-ones
decreases-ones l = length l.bytes - l.at
