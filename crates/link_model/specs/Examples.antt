-- Worked examples of fields, layouts and images.
use Rattle.std.specs.Prelude.{◌≡◌, ℕ, ◌+◌, ◌-◌, ◌^◌, true, false, List, [], ◌∷◌}
use Rattle.std.specs.Prelude.{replicate, Option, Some, None, Ok, Err, ℤ, pos, negsuc, codes}
use Rattle.omos_model.specs.declared.fragment.Aim.{Aim}
use Rattle.omos_model.specs.declared.fragment.Aim.TheVariants as aim
use Rattle.omos_model.specs.declared.fragment.Fixup.{Fixup}
use Rattle.omos_model.specs.declared.fragment.Group.{Group}
use Rattle.omos_model.specs.declared.fragment.Group.TheVariants.{Code, Vars, Zeros}
use Rattle.omos_model.specs.declared.fragment.Kind.{Kind}
use Rattle.omos_model.specs.declared.fragment.Kind.TheVariants.{Abs64, Pc32, Abs32, Abs32S}
use Rattle.omos_model.specs.declared.fragment.Kind.TheVariants.{RexGotPcRelX}
use Rattle.omos_model.specs.declared.fragment.Piece.{Piece}
use Rattle.omos_model.specs.declared.entry.Start.TheVariants.{Named}
use Rattle.omos_model.specs.declared.mark.Landing.{Landing}
use Rattle.omos_model.specs.declared.mark.Landing.TheVariants.{On, Nothing}
use Rattle.omos_model.specs.declared.mark.Target.{Target}
use Rattle.omos_model.specs.declared.mark.Target.TheVariants.{Inside}
use Rattle.omos_model.specs.declared.refusal.Refusal.TheVariants as refused
use Rattle.link_model.specs.Field.{field_value}
use Rattle.link_model.specs.Program.{Parts, Terms, start_name}
use Rattle.link_model.specs.Layout.{slots_of, places_of, pages_in_all, slots_begin}
use Rattle.link_model.specs.Plan.{Plan, plan_of_parts, planned}
use Rattle.link_model.specs.ImageBytes.{byte_of, overflow, headers, file_pages}

-- the addend -4 of a field at whose end the next instruction begins
abbrev minus_four : ℤ
minus_four = negsuc 3

-- ---- fields; what isn't named is 0

pub record FieldExamples : Type 0 where
  pub abs32 : field_value Abs32 0xFFFFFFFF (pos 0) 0 0 ≡ Some 0xFFFFFFFF
  pub abs32_above : field_value Abs32 0x100000000 (pos 0) 0 0 ≡ None
  pub abs32s : field_value Abs32S 0x7FFFFFFF (pos 0) 0 0 ≡ Some 0x7FFFFFFF
  pub abs32s_above : field_value Abs32S 0x80000000 (pos 0) 0 0 ≡ None
  pub abs32s_below : field_value Abs32S 0xFFFFFFFF80000000 (pos 0) 0 0 ≡ Some 0x80000000
  pub pc32 : field_value Pc32 0x400000 minus_four 0x400001 0 ≡ Some 0xFFFFFFFB
  pub pc32_far : field_value Pc32 0x80400000 (pos 0) 0x400000 0 ≡ None
  pub abs64 : field_value Abs64 0 minus_four 0 0 ≡ Some (2 ^ 64 - 4)

-- ---- programs of one object

abbrev piece : Group → ℕ → ℕ → List ℕ → Piece
piece group align size bytes =
    record { group = group; align = align; size = size; bytes = bytes }

abbrev fixup : Kind → ℕ → ℤ → Aim → Fixup
fixup kind offset addend target =
    record { piece = 0; offset = offset; kind = kind; addend = addend; aim = target }

abbrev name : List ℕ → Aim
name bytes = aim.Name bytes false

-- the start is byte 0 of piece 0
abbrev start_meaning : List ℕ → Option Target
start_meaning n = Some (Inside 0 0 0)

abbrev named : Terms
named = record { start = Named start_name; lo = 0x400000; hi = 0x40000000 }

abbrev program : List Piece → List Fixup → List Landing → Parts
program pieces fixups landings =
    record {
      object = record { pieces = pieces; exports = []; fixups = fixups };
      landings = landings;
    } ∷ []

abbrev plan : Parts → Plan
plan parts = planned parts start_meaning named

-- a field's bytes
abbrev bytes_at : Plan → ℕ → List ℕ
bytes_at p x =
    byte_of p 0x400000 x ∷ byte_of p 0x400000 (x + 1) ∷ byte_of p 0x400000 (x + 2)
    ∷ byte_of p 0x400000 (x + 3) ∷ []

-- 32 bytes of code and 16 of variables, `x` and `y`, of which the code loads the addresses of x, y
-- and x
abbrev x_landing : Landing
x_landing = On (Inside 0 1 0)

abbrev y_landing : Landing
y_landing = On (Inside 0 1 8)

abbrev two_slots : Parts
two_slots =
    program (piece Code 16 32 (replicate 32 0) ∷ piece Vars 8 16 (replicate 16 0) ∷ [])
    (fixup RexGotPcRelX 3 minus_four (name (codes "x")) ∷ fixup RexGotPcRelX 10 minus_four
    (name (codes "y"))
    ∷ fixup RexGotPcRelX 17 minus_four (name (codes "x")) ∷ [])
    (x_landing ∷ y_landing ∷ x_landing ∷ [])

pub record SlotExamples : Type 0 where
  pub slots : slots_of two_slots ≡ Inside 0 1 0 ∷ Inside 0 1 8 ∷ []
  pub places : places_of two_slots ≡ (0 ∷ 0x1000 ∷ []) ∷ []
  pub begin : slots_begin two_slots ≡ 0x1010
  pub pages : pages_in_all two_slots ≡ 2
  pub first : bytes_at (plan two_slots) 3 ≡ 0x09 ∷ 0x10 ∷ 0 ∷ 0 ∷ []
  pub second : bytes_at (plan two_slots) 10 ≡ 0x0A ∷ 0x10 ∷ 0 ∷ 0 ∷ []
  pub third : bytes_at (plan two_slots) 17 ≡ 0xFB ∷ 0x0F ∷ 0 ∷ 0 ∷ []
  pub x_slot : bytes_at (plan two_slots) 0x1010 ≡ 0x00 ∷ 0x10 ∷ 0x40 ∷ 0 ∷ []
  pub y_slot : bytes_at (plan two_slots) 0x1018 ≡ 0x08 ∷ 0x10 ∷ 0x40 ∷ 0 ∷ []

-- a call of a name that nothing defines
abbrev calling : Kind → ℕ → Aim → Parts
calling kind offset target =
    program (piece Code 16 16 (replicate 16 0x90) ∷ [])
    (fixup kind offset minus_four target ∷ []) (Nothing (codes "malloc") ∷ [])

abbrev weak : Aim
weak = aim.Name (codes "malloc") true

-- a jump to itself, as an image of one group
abbrev jump : Parts
jump = program (piece Code 1 5 (0xE9 ∷ 0xFB ∷ 0xFF ∷ 0xFF ∷ 0xFF ∷ []) ∷ []) [] []

abbrev jump_headers : List ℕ
jump_headers =
    0x7F ∷ 0x45 ∷ 0x4C ∷ 0x46 ∷ 0x02 ∷ 0x01 ∷ 0x01 ∷ 0 ∷ 0 ∷ 0 ∷ 0 ∷ 0 ∷ 0 ∷ 0 ∷ 0 ∷ 0
    ∷ 0x02 ∷ 0 ∷ 0x3E ∷ 0 ∷ 0x01 ∷ 0 ∷ 0 ∷ 0 ∷ 0 ∷ 0 ∷ 0x40 ∷ 0 ∷ 0 ∷ 0 ∷ 0 ∷ 0
    ∷ 0x40 ∷ 0 ∷ 0 ∷ 0 ∷ 0 ∷ 0 ∷ 0 ∷ 0 ∷ 0 ∷ 0 ∷ 0 ∷ 0 ∷ 0 ∷ 0 ∷ 0 ∷ 0
    ∷ 0 ∷ 0 ∷ 0 ∷ 0 ∷ 0x40 ∷ 0 ∷ 0x38 ∷ 0 ∷ 0x02 ∷ 0 ∷ 0 ∷ 0 ∷ 0 ∷ 0 ∷ 0 ∷ 0
    ∷ 0x01 ∷ 0 ∷ 0 ∷ 0 ∷ 0x05 ∷ 0 ∷ 0 ∷ 0 ∷ 0 ∷ 0x10 ∷ 0 ∷ 0 ∷ 0 ∷ 0 ∷ 0 ∷ 0
    ∷ 0 ∷ 0 ∷ 0x40 ∷ 0 ∷ 0 ∷ 0 ∷ 0 ∷ 0 ∷ 0 ∷ 0 ∷ 0x40 ∷ 0 ∷ 0 ∷ 0 ∷ 0 ∷ 0
    ∷ 0x05 ∷ 0 ∷ 0 ∷ 0 ∷ 0 ∷ 0 ∷ 0 ∷ 0 ∷ 0x05 ∷ 0 ∷ 0 ∷ 0 ∷ 0 ∷ 0 ∷ 0 ∷ 0
    ∷ 0 ∷ 0x10 ∷ 0 ∷ 0 ∷ 0 ∷ 0 ∷ 0 ∷ 0 ∷ 0x51 ∷ 0xE5 ∷ 0x74 ∷ 0x64 ∷ 0x06 ∷ 0 ∷ 0 ∷ 0
    ∷ 0 ∷ 0 ∷ 0 ∷ 0 ∷ 0 ∷ 0 ∷ 0 ∷ 0 ∷ 0 ∷ 0 ∷ 0 ∷ 0 ∷ 0 ∷ 0 ∷ 0 ∷ 0
    ∷ 0 ∷ 0 ∷ 0 ∷ 0 ∷ 0 ∷ 0 ∷ 0 ∷ 0 ∷ 0 ∷ 0 ∷ 0 ∷ 0 ∷ 0 ∷ 0 ∷ 0 ∷ 0
    ∷ 0 ∷ 0 ∷ 0 ∷ 0 ∷ 0 ∷ 0 ∷ 0 ∷ 0 ∷ 0x10 ∷ 0 ∷ 0 ∷ 0 ∷ 0 ∷ 0 ∷ 0 ∷ 0 ∷ []

-- code of 5 bytes before 8 MiB of zeros
abbrev large : Parts
large = program (piece Code 1 5 (replicate 5 0) ∷ piece Zeros 1 8388608 [] ∷ []) [] []

abbrev undefined : List ℕ → Option Target
undefined n = None

pub record PlanExamples : Type 0 where
  pub headers : headers (plan jump) 0x400000 ≡ jump_headers
  pub code : bytes_at (plan jump) 0 ≡ 0xE9 ∷ 0xFB ∷ 0xFF ∷ 0xFF ∷ []
  pub behind : bytes_at (plan jump) 4 ≡ 0xFF ∷ 0 ∷ 0 ∷ 0 ∷ []
  pub pages : file_pages (plan jump) ≡ 1
  -- a weak reference that is bound to nothing has the value 0
  pub weak_taken : plan_of_parts (calling Pc32 1 weak) start_meaning named
      ≡ Ok (plan (calling Pc32 1 weak))
  pub weak_field : bytes_at (plan (calling Pc32 1 weak)) 1 ≡ 0xFB ∷ 0xFF ∷ 0xBF ∷ 0xFF ∷ []
  pub unresolved : plan_of_parts (calling Pc32 1 (name (codes "malloc"))) start_meaning named
      ≡ Err (refused.Unresolved 0 0 (codes "malloc"))
  -- the start comes before a reference
  pub no_start : plan_of_parts (calling Pc32 1 (name (codes "malloc"))) undefined named
      ≡ Err (refused.NoStart start_name)
  pub too_large : plan_of_parts large undefined named ≡ Err (refused.ImageTooLarge 2049)
  -- 32 bits can't hold the distance
  pub overflow : overflow (plan (calling Abs32 1 weak)) 0x400000 ≡ Some (refused.Overflow 0 0)
