use Rattle.std.proofs.Common.{◌≡◌, false, All}
use Rattle.shared_cases.proofs.case.slots_of.Given as goal

abbrev pub invariant-workers : goal.invariant-workers
invariant-workers g l = All
    (λ slot. (slot.door.is_shut ≡ false) × (slot.door.links ≡ 0) × (slot.door.faults ≡ 0)
    × (slot.gate.crossings ≡ 0)) l.slots.items
