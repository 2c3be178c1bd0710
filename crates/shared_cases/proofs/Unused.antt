-- A slot whose door and gate were never asked.
use Rattle.std.proofs.Common.{◌≡◌, false}
use Rattle.omos_outside.specs.declared.gate.HoldGate.{HoldGate}
use Rattle.omos_outside.specs.declared.memory_door.MemoryDoor.{MemoryDoor}
use Rattle.omosd_slots.specs.declared.slot.Slot.{Slot}

abbrev pub IsUnused : Slot MemoryDoor HoldGate → Type 0
IsUnused slot =
    (slot.door.is_shut ≡ false) × (slot.door.links ≡ 0) × (slot.door.faults ≡ 0)
    × (slot.gate.crossings ≡ 0)
