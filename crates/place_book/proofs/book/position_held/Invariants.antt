use Rattle.std.proofs.Common.{◌≡◌, ◌+◌, ◌-◌, ◌≤◌, length, drop}
use Rattle.std.specs.List.{position_or_len}
use Rattle.omos_model.specs.Places.{serves}
use Rattle.place_book.proofs.book.position_held.Given as goal

abbrev pub invariant-placements : goal.invariant-placements
invariant-placements l =
    (l.at ≤ length l.placed)
    × (l.at + position_or_len (serves l.path l.pages l.lo l.hi) (drop l.at l.placed)
    ≡ position_or_len (serves l.path l.pages l.lo l.hi) l.placed)

abbrev pub decreases-placements : goal.decreases-placements
decreases-placements l = length l.placed - l.at
