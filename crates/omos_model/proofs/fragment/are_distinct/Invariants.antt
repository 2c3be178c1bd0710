use Rattle.std.proofs.Common.{◌≡◌, ◌≤◌, length, drop, true}
use Rattle.std.specs.BTreeSet.{contains}
use Rattle.omos_model.specs.Names.{Name, name_cmp}
use Rattle.omos_model.specs.FragmentParts.{is_exported, are_distinct}
use Rattle.omos_model.proofs.fragment.are_distinct.Given as goal

-- the names of the exports from `at` on are those of the set, and no two are the same
abbrev pub invariant-loop-at : goal.invariant-loop-at
invariant-loop-at l =
    ((n : Name) → contains name_cmp l.names n ≡ is_exported (drop l.at l.exports) n)
    × (are_distinct (drop l.at l.exports) ≡ true)
    × (l.at ≤ length l.exports)

abbrev pub decreases-loop-at : goal.decreases-loop-at
decreases-loop-at l = l.at
