use Rattle.std.proofs.Common.{◌≡◌, ◌-◌, ◌≤◌, length, drop}
use Rattle.omos_model.specs.Names.{name_cmp}
use Rattle.name_tree.proofs.compare.are_below.Given as goal

abbrev pub invariant-eights : goal.invariant-eights
invariant-eights l =
    (l.at ≤ length l.bytes) × (l.at ≤ length l.others)
    × (name_cmp (drop l.at l.bytes) (drop l.at l.others) ≡ name_cmp l.bytes l.others)

abbrev pub decreases-eights : goal.decreases-eights
decreases-eights l = length l.bytes - l.at

abbrev pub invariant-bytes : goal.invariant-bytes
invariant-bytes l =
    (l.at ≤ length l.bytes) × (l.at ≤ length l.others)
    × (name_cmp (drop l.at l.bytes) (drop l.at l.others) ≡ name_cmp l.bytes l.others)

abbrev pub decreases-bytes : goal.decreases-bytes
decreases-bytes l = length l.bytes - l.at
