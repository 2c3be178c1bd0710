use Rattle.std.proofs.Common.{◌≡◌, ◌+◌, ◌-◌, ◌≤◌, ◌&&◌, length, drop}
use Rattle.std.specs.List.{position_or_len}
use Rattle.image_cache.proofs.cache.place_found.Given as goal
use Rattle.image_cache.specs.Items.{is_at, is_fresh}

abbrev pub invariant-items : goal.invariant-items
invariant-items l =
    (l.at ≤ length l.items)
    × (l.at + position_or_len (λ i. is_at l.path i && is_fresh l.snap.entries i)
    (drop l.at l.items) ≡ position_or_len (λ i. is_at l.path i && is_fresh l.snap.entries i)
    l.items)

abbrev pub decreases-items : goal.decreases-items
decreases-items l = length l.items - l.at
