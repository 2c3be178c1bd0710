-- The fields of references, from the places of pieces and the addresses of slots.
use Rattle.std.specs.Prelude.{◌≡◌, ℕ, ◌+◌, ◌-◌, ◌<◌, ◌≤◌, List, All, length, map}
use Rattle.std.specs.Prelude.{reverse, get_or, Option, Some, None}
use Rattle.std.specs.Prelude.{Result, MatchResult, is_some, slice_index, unwrap_or, if◌then◌else◌}
use Rattle.std.specs.List.{enumerate_from, find, zip}
use Rattle.std.specs.Option.{option_map}
use Rattle.omos_base.specs.Endian.{little_bytes}
use Rattle.omos_model.specs.FixupParts.{field_of}
use Rattle.omos_model.specs.FragmentParts.{width}
use Rattle.omos_model.specs.declared.entry.Entry.{Entry}
use Rattle.omos_model.specs.declared.fixups.Field.{Field}
use Rattle.omos_model.specs.declared.fragment.Fixup.{Fixup}
use Rattle.omos_model.specs.declared.mark.Landing.{Landing}
use Rattle.omos_model.specs.declared.mark.Target.{Target}
use Rattle.omos_model.specs.declared.refusal.Refusal.{Refusal}
use Rattle.omos_model.specs.declared.refusal.Refusal.TheVariants.{Overflow}
use Rattle.link_model.specs.Field.{field_value}
use Rattle.link_model.specs.ImageBytes.{covers}
use Rattle.link_model.specs.Layout.{target_at}
use Rattle.link_model.specs.Plan.{first_in}
use Rattle.link_model.specs.Program.{Reference, reference_of}
use Rattle.image_write.specs.inside.Addresses.{address_in, place_in}
use Rattle.image_write.specs.inside.Painted.{Painted}
use Rattle.link_layout.specs.Slots.{fixups_in}

-- where a field stands, counted from the base
abbrev pub field_place_in : List (List ℕ) → Reference → ℕ
field_place_in places r = place_in places r.leaf r.fixup.piece + r.fixup.offset

-- the references of a leaf
abbrev pub references_of : ℕ → List Fixup → List Landing → List Reference
references_of leaf fixups landings =
    map (reference_of leaf) (enumerate_from 0 (zip fixups landings))

-- a leaf's field lies in so many bytes
pub record IsFieldInside (size : ℕ) (places : List (List ℕ)) (leaf : ℕ) (x : Field) : Type 0 where
  pub inside : place_in places leaf x.piece + x.offset + width x.kind ≤ size

-- the same for all fields of these leaves
pub record AreFieldsInside (size : ℕ) (places : List (List ℕ)) (leaves : List Entry) : Type 0 where
  pub each : (k : ℕ) (leaf : Entry) → k < length leaves → leaf ≡ get_or leaves k leaf
      → All (IsFieldInside size places k) (map field_of (fixups_in leaf))

module _ (places : List (List ℕ)) (slot : Target → ℕ) (base : ℕ) where
  -- the number that the field gets, if the value fits
  abbrev pub field_number : Reference → Option ℕ
  field_number r =
      let target = target_at r.landing in
      field_value r.fixup.kind (address_in places base target) r.fixup.addend
      (base + field_place_in places r) (slot target)

  -- L13 where it doesn't
  abbrev pub overflow_in : Reference → Option Refusal
  overflow_in r = if is_some (field_number r) then None else Some (Overflow r.leaf r.number)

  abbrev pub byte_in : ℕ → Reference → ℕ
  byte_in x r =
      slice_index (little_bytes (width r.fixup.kind) (unwrap_or (field_number r) 0))
      (x - field_place_in places r)

  -- of the last of these references whose field has a byte there
  abbrev pub last_byte : List Reference → ℕ → Option ℕ
  last_byte refs x =
      option_map (byte_in x)
      (find (λ r. covers (field_place_in places r) (width r.fixup.kind) x) (reverse refs))

  -- all values fit, and the fields are written
  pub record IsPatched (refs : List Reference) (new old : List ℕ) : Type 0 where
    pub fit : first_in overflow_in refs ≡ None
    pub painted : Painted new (last_byte refs) old

  -- the fields are written, or the first that doesn't fit is refused
  abbrev pub Patches : List Reference → Result (Unit {0}) Refusal → List ℕ → List ℕ → Type 0
  Patches refs result new old =
      MatchResult result (λ _. IsPatched refs new old) (λ x. first_in overflow_in refs ≡ Some x)
