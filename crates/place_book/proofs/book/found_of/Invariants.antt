use Rattle.std.proofs.Common.{◌≡◌, ◌-◌, ◌≤◌, ◌++◌, drop, filter, length}
use Rattle.omos_model.specs.Places.{is_of}
use Rattle.place_book.proofs.book.found_of.Given as goal

abbrev pub invariant-placements : goal.invariant-placements
invariant-placements l =
    (l.at ≤ length l.placed)
    × (l.found ++ filter (is_of l.path) (drop l.at l.placed) ≡ filter (is_of l.path) l.placed)

abbrev pub decreases-placements : goal.decreases-placements
decreases-placements l = length l.placed - l.at
