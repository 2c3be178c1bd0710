-- Names of symbols, as lists of bytes.
use Rattle.std.specs.Prelude.{ℕ, ◌≢◌, ◌<◌, ◌≤◌, ◌⊎◌, ◌==◌, nat_le, Bool, not, ◌&&◌, ◌||◌}
use Rattle.std.specs.Prelude.{List, All, length, slice_index, take}
use Rattle.std.specs.Int.{IsInRange}
use Rattle.omos_base.specs.declared.sym_name.NameFault.{NameFault}
use Rattle.omos_base.specs.declared.sym_name.NameFault.TheVariants.{Length, Byte}

-- a byte that a name may have: 0x21 to 0x7E or 0x80 to 0xFF, and none of `"`, `(`, `)` and `;`
abbrev pub IsNameByte : ℕ → Type 0
IsNameByte byte =
    (IsInRange 0x21 0x7E byte ⊎ IsInRange 0x80 0xFF byte)
    × (byte ≢ 34) × (byte ≢ 40) × (byte ≢ 41) × (byte ≢ 59)

-- the same as a test
abbrev pub is_name_byte : ℕ → Bool
is_name_byte b =
    ((nat_le 33 b && nat_le b 126) || (nat_le 128 b && nat_le b 255))
    && not (b == 34) && not (b == 40) && not (b == 41) && not (b == 59)

-- a name has 1 to 1,024 bytes
abbrev pub IsNameLength : ℕ → Type 0
IsNameLength count = (1 ≤ count) × (count ≤ 1024)

-- a name: so many bytes, and only such as a name may have
abbrev pub IsSymName : List ℕ → Type 0
IsSymName bytes = IsNameLength (length bytes) × All IsNameByte bytes

-- this byte is the first that a name may not have
abbrev pub IsFirstBarred : List ℕ → ℕ → Type 0
IsFirstBarred bytes place =
    (place < length bytes) × All IsNameByte (take place bytes)
    × ¬ IsNameByte (slice_index bytes place)

-- why bytes are no name: they are none or too many, or else they have a byte that is not allowed
abbrev pub HasNameFault : List ℕ → NameFault → Type 0
HasNameFault bytes Length = ¬ IsNameLength (length bytes)
HasNameFault bytes (Byte place) = IsNameLength (length bytes) × IsFirstBarred bytes place
