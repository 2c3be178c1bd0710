-- A fragment as a value, and when three lists are one.
use Rattle.std.specs.Prelude.{ℕ, ◌+◌, ◌==◌, nat_le, Bool, true, false, not, ◌&&◌, if◌then◌else◌}
use Rattle.std.specs.Prelude.{List, [], ◌∷◌, length, IsTrue}
use Rattle.std.specs.List.{list_all, list_any, slice_get}
use Rattle.std.specs.Option.{option_map_or}
use Rattle.omos_model.specs.Names.{Name, same_name}
use Rattle.omos_model.specs.declared.fragment.Piece.{Piece}
use Rattle.omos_model.specs.declared.fragment.Export.{Export}
use Rattle.omos_model.specs.declared.fragment.Fixup.{Fixup}
use Rattle.omos_model.specs.declared.fragment.Group.{Group}
use Rattle.omos_model.specs.declared.fragment.Group.TheVariants.{Zeros}
use Rattle.omos_model.specs.declared.fragment.Kind.{Kind}
use Rattle.omos_model.specs.declared.fragment.Kind.TheVariants.{Abs64, Pc64}
use Rattle.omos_model.specs.declared.fragment.Spot.{Spot}
use Rattle.omos_model.specs.declared.fragment.Spot.TheVariants.{Inside, Fixed}
use Rattle.omos_model.specs.declared.fragment.Aim.{Aim}
use Rattle.omos_model.specs.declared.fragment.Aim.TheVariants as aim

-- what contracts see of a fragment
pub record FragmentParts : Type 0 where
  pub pieces : List Piece
  pub exports : List Export
  pub fixups : List Fixup

abbrev pub parts_of : List Piece → List Export → List Fixup → FragmentParts
parts_of ps es xs = record { pieces = ps; exports = es; fixups = xs }

-- the largest size of a piece, in bytes
abbrev pub max_size : ℕ
max_size = 8388608

-- the sections of a file at most, and its common symbols at most
abbrev pub max_pieces : ℕ
max_pieces = 4096 + 65535

-- the symbols of a file at most, and its relocations at most
abbrev pub max_entries : ℕ
max_entries = 65535

-- 1, 2, 4 .. 4,096
abbrev pub is_alignment : ℕ → Bool
is_alignment a =
    list_any (λ b. b == a)
    (1 ∷ 2 ∷ 4 ∷ 8 ∷ 16 ∷ 32 ∷ 64 ∷ 128 ∷ 256 ∷ 512 ∷ 1024 ∷ 2048 ∷ 4096 ∷ [])

abbrev pub is_zeros : Group → Bool
is_zeros Zeros = true
is_zeros _ = false

-- a piece has as many bytes as its size, or none where it is Zeros
abbrev pub is_piece : Piece → Bool
is_piece p =
    nat_le p.size max_size && is_alignment p.align
    && (length p.bytes == (if is_zeros p.group then 0 else p.size))

-- a spot inside a piece is a byte of it, or the place behind its last byte
abbrev pub is_spot : List Piece → Spot → Bool
is_spot ps (Inside piece offset) =
    option_map_or (λ p. nat_le offset p.size) (slice_get ps piece) false
is_spot ps (Fixed value) = true

-- the bytes of a field (x86-64 psABI, "Relocation Types")
abbrev pub width : Kind → ℕ
width Abs64 = 8
width Pc64 = 8
width _ = 4

-- a field of this many bytes lies in a piece that has bytes
abbrev pub is_field : List Piece → ℕ → ℕ → ℕ → Bool
is_field ps piece offset bytes =
    option_map_or (λ p. not (is_zeros p.group) && nat_le (offset + bytes) p.size)
    (slice_get ps piece) false

abbrev pub is_aim : List Piece → Aim → Bool
is_aim ps (aim.At spot) = is_spot ps spot
is_aim ps (aim.Name name weak) = true

abbrev pub is_fixup : List Piece → Fixup → Bool
is_fixup ps x = is_field ps x.piece x.offset (width x.kind) && is_aim ps x.aim

-- a name is among those of the exports
abbrev pub is_exported : List Export → Name → Bool
is_exported xs n = list_any (λ x. same_name n x.name) xs

-- no two exports share a name
abbrev pub are_distinct : List Export → Bool
are_distinct [] = true
are_distinct (x ∷ xs) = not (is_exported xs x.name) && are_distinct xs

-- all that is asked of a fragment, but that no two exports share a name
abbrev pub is_in_bounds : FragmentParts → Bool
is_in_bounds f =
    nat_le (length f.pieces) max_pieces
    && nat_le (length f.exports) max_entries
    && nat_le (length f.fixups) max_entries
    && list_all is_piece f.pieces
    && list_all (λ x. is_spot f.pieces x.spot) f.exports
    && list_all (is_fixup f.pieces) f.fixups

abbrev pub is_fragment : FragmentParts → Bool
is_fragment f = is_in_bounds f && are_distinct f.exports

abbrev pub IsFragment : FragmentParts → Type 0
IsFragment f = IsTrue (is_fragment f)
