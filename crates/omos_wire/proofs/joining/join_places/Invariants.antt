use Rattle.std.proofs.Common.{◌≡◌, ◌++◌, ◌∷◌, ◌+◌, ◌*◌, length, take}
use Rattle.omos_base.specs.Endian.{little_bytes}
use Rattle.omos_wire.proofs.Parts.{bytes_of}
use Rattle.omos_wire.proofs.joining.join_places.Given as goal

abbrev pub invariant-loop-placement : goal.invariant-loop-placement
invariant-loop-placement l =
    l.room.items
    ≡ (little_bytes 4 (5 + 12 * length l.placements) ++ 132 ∷ little_bytes 4 (length l.placements))
    ++ bytes_of (take l.placement-index l.placements)
