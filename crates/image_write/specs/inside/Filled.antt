-- What the pages of a file hold once all is written.
use Rattle.std.specs.Prelude.{◌≡◌, ℕ, List, length, take, drop, Option, Some, None, unwrap_or}
use Rattle.std.specs.Prelude.{Result, MatchResult}
use Rattle.std.specs.Option.{option_map, option_or}
use Rattle.omos_model.specs.declared.entry.Entry.{Entry}
use Rattle.omos_model.specs.declared.mark.Target.{Target}
use Rattle.omos_model.specs.declared.refusal.Refusal.{Refusal}
use Rattle.link_model.specs.Layout.{slots_begin}
use Rattle.link_model.specs.Plan.{Plan, first_in}
use Rattle.link_model.specs.Program.{references}
use Rattle.image_write.specs.inside.Addresses.{address_in, slots_byte}
use Rattle.image_write.specs.inside.Fields.{last_byte, overflow_in}
use Rattle.image_write.specs.inside.Painted.{Painted}
use Rattle.image_write.specs.inside.Sections.{first_byte, placed_in}

module _ (plan : Plan) (base : ℕ) (slot : Target → ℕ) (leaves : List Entry) where
  -- of a field, else of a slot, else of a piece
  abbrev pub filled_byte : ℕ → Option ℕ
  filled_byte x =
      option_or (last_byte plan.places slot base (references plan.parts) x)
      (option_or
      (slots_byte plan.places base plan.slots (slots_begin plan.parts) (length plan.slots) x)
      (first_byte (placed_in plan.places leaves) x))

  -- the reason for which a value doesn't fit, if there is one
  abbrev pub first_overflow : Option Refusal
  first_overflow = first_in (overflow_in plan.places slot base) (references plan.parts)

  -- all values fit, and all bytes are written
  pub record IsComplete (new old : List ℕ) : Type 0 where
    pub fit : first_overflow ≡ None
    pub painted : Painted new filled_byte old

  -- the same, or the first value that doesn't fit is refused
  abbrev pub Fills : Result (Unit {0}) Refusal → List ℕ → List ℕ → Type 0
  Fills result new old = MatchResult result (λ _. IsComplete new old) (λ x. first_overflow ≡ Some x)

-- the start's address, or 0 where there is none
abbrev pub entry_in : List (List ℕ) → ℕ → Option Target → ℕ
entry_in places base entry = unwrap_or (option_map (address_in places base) entry) 0

-- what stands behind the head is filled, or the first value that doesn't fit is refused
abbrev pub FillsBehind : ℕ → Plan → ℕ → (Target → ℕ) → List Entry → Result (Unit {0}) Refusal
    → List ℕ → List ℕ → Type 0
FillsBehind head plan base slot leaves result new old =
    MatchResult result
    (λ _.
    (take head new ≡ take head old)
    × IsComplete plan base slot leaves (drop head new) (drop head old))
    (λ x. first_overflow plan base slot leaves ≡ Some x)
