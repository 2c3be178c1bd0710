-- Doors and gates that were never asked are open.
use Rattle.std.proofs.Common.{◌≡◌, ℕ, false, List, [], ◌∷◌, All, arith}
use Rattle.std.proofs.lemmas.List.Elements.{All-head, All-tail}
use Rattle.omos_outside.specs.Links.{DoorState}
use Rattle.omosd_slots.specs.declared.slot.Slot.{Slot}
use Rattle.omosd_slots.specs.Slots.{AreOpen, IsOpenSlot, slot_states}

module _ {D G : Type 0} (state : D → DoorState) (crossings : G → ℕ) where
  abbrev pub IsNew : Slot D G → Type 0
  IsNew s =
      ((state s.door).is_shut ≡ false) × ((state s.door).links ≡ 0)
      × ((state s.door).faults ≡ 0) × (crossings s.gate ≡ 0)

  new_is_open : (s : Slot D G) → IsNew s
      → IsOpenSlot (record { door = state s.door; crossed = crossings s.gate })
  new_is_open s new = record {
    open_is = new.0;
    links = let l = new.1 in omega (arith, l);
    faults = let f = new.2 in omega (arith, f);
    crossed = let k = new.3 in omega (arith, k);
  }

  pub all_open : (slots : List (Slot D G)) → All IsNew slots
      → AreOpen (slot_states state crossings slots)
  all_open [] all = tt
  all_open (s ∷ slots) all =
      (new_is_open s (All-head IsNew s slots all), all_open slots (All-tail IsNew s slots all))
