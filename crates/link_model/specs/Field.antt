-- The value of a relocated field (x86-64 psABI, "Relocation Types").
use Rattle.std.specs.Prelude.{ℕ, ◌+◌, ◌-◌, ◌*◌, ◌%◌, ◌^◌, nat_lt, nat_le, Bool, true, ◌||◌}
use Rattle.std.specs.Prelude.{if◌then◌else◌, Option, Some, None, ℤ, pos, ◌+ℤ◌}
use Rattle.std.specs.Int.{cast_unsigned, w64}
use Rattle.omos_model.specs.FragmentParts.{width}
use Rattle.omos_model.specs.declared.fragment.Kind.{Kind}
use Rattle.omos_model.specs.declared.fragment.Kind.TheVariants.{Abs64, Pc32, Plt32, GotPcRel, Abs32}
use Rattle.omos_model.specs.declared.fragment.Kind.TheVariants.{Abs32S, Pc64, GotPcRelX}
use Rattle.omos_model.specs.declared.fragment.Kind.TheVariants.{RexGotPcRelX}

-- S is the target's address, A the addend, P the field's address, G the address of the target's
-- slot;
-- sums are modulo 2^64
abbrev pub sum_of : ℕ → ℤ → ℕ
sum_of s a = cast_unsigned w64 (pos s +ℤ a) % 2 ^ 64

abbrev pub distance : ℕ → ℤ → ℕ → ℕ
distance s a p = (sum_of s a + (2 ^ 64 - p % 2 ^ 64)) % 2 ^ 64

-- the value of each kind
abbrev pub value_of : Kind → ℕ → ℤ → ℕ → ℕ → ℕ
value_of Abs64 s a p g = sum_of s a
value_of Pc32 s a p g = distance s a p
value_of Plt32 s a p g = distance s a p
value_of GotPcRel s a p g = distance g a p
value_of Abs32 s a p g = sum_of s a
value_of Abs32S s a p g = sum_of s a
value_of Pc64 s a p g = distance s a p
value_of GotPcRelX s a p g = distance g a p
value_of RexGotPcRelX s a p g = distance g a p

-- the low 32 bits, sign-extended, are the value
abbrev pub is_signed : ℕ → Bool
is_signed value = nat_lt value (2 ^ 31) || nat_le (2 ^ 64 - 2 ^ 31) value

-- the value fits into the field
abbrev pub fits : Kind → ℕ → Bool
fits Abs64 value = true
fits Pc32 value = is_signed value
fits Plt32 value = is_signed value
fits GotPcRel value = is_signed value
fits Abs32 value = nat_lt value (2 ^ 32)
fits Abs32S value = is_signed value
fits Pc64 value = true
fits GotPcRelX value = is_signed value
fits RexGotPcRelX value = is_signed value

-- the number that the field gets: the value's low bytes, or nothing where it doesn't fit
abbrev pub field_value : Kind → ℕ → ℤ → ℕ → ℕ → Option ℕ
field_value kind s a p g =
    let value = value_of kind s a p g in
    if fits kind value then Some (value % 2 ^ (8 * width kind)) else None
