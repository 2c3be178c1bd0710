-- Addresses from the places of pieces and slots.
use Rattle.std.specs.Prelude.{ℕ, ◌+◌, ◌-◌, ◌*◌, ◌/◌, ◌%◌, ◌^◌, ◌≤◌, List, []}
use Rattle.std.specs.Prelude.{Option, None, slice_get, slice_index, unwrap_or, if◌then◌else◌}
use Rattle.std.specs.Option.{option_map}
use Rattle.omos_base.specs.Endian.{little_bytes}
use Rattle.omos_model.specs.declared.mark.Target.{Target}
use Rattle.omos_model.specs.declared.mark.Target.TheVariants.{Inside, Fixed}
use Rattle.link_model.specs.ImageBytes.{covers}
use Rattle.link_model.specs.Layout.{slot_number}
use Rattle.link_model.specs.Module.{Placing}

-- where the pieces of a leaf stand, counted from the base
abbrev pub row_in : List (List ℕ) → ℕ → List ℕ
row_in places leaf = unwrap_or (slice_get places leaf) []

abbrev pub place_in_row : List ℕ → ℕ → ℕ
place_in_row row piece = unwrap_or (slice_get row piece) 0

-- where a piece of a leaf stands
abbrev pub place_in : List (List ℕ) → ℕ → ℕ → ℕ
place_in places leaf piece = place_in_row (row_in places leaf) piece

-- no piece stands higher
abbrev pub max_place : ℕ
max_place = 2 ^ 47

pub record AreLow (places : List (List ℕ)) : Type 0 where
  pub low : (leaf piece : ℕ) → place_in places leaf piece ≤ max_place

abbrev pub address_in : List (List ℕ) → ℕ → Target → ℕ
address_in places base (Inside leaf piece offset) = base + place_in places leaf piece + offset
address_in places base (Fixed value) = value

-- the address of a target's slot
abbrev pub slot_in : Placing → ℕ → Target → ℕ
slot_in l base target = base + (l.groups.slots + 8 * slot_number l.slots target)

-- of the first `count` of slots that begin there, each of which holds its target's address
abbrev pub slots_byte : List (List ℕ) → ℕ → List Target → ℕ → ℕ → ℕ → Option ℕ
slots_byte places base slots begin count x =
    if covers begin (8 * count) x
    then option_map
    (λ target. slice_index (little_bytes 8 (address_in places base target)) ((x - begin) % 8))
    (slice_get slots ((x - begin) / 8))
    else None
