-- A worked example of an object file, and of each of its faults.
use Rattle.std.specs.Prelude.{◌≡◌, ℕ, ◌+◌, ◌*◌, ◌-◌, ◌^◌, true, false, List, [], ◌∷◌, ◌++◌, take}
use Rattle.std.specs.Prelude.{replicate, slice_set, Some, Ok, codes, negsuc}
use Rattle.omos_base.specs.Endian.{little_bytes}
use Rattle.omos_model.specs.Names.{Name}
use Rattle.omos_model.specs.FragmentParts.{FragmentParts}
use Rattle.omos_model.specs.ElfFaults.{object_fault}
use Rattle.omos_model.specs.FragmentOf.{fragment_of}
use Rattle.omos_model.specs.declared.fragment.Aim.{Aim}
use Rattle.omos_model.specs.declared.fragment.Aim.TheVariants as aim
use Rattle.omos_model.specs.declared.fragment.Export.{Export}
use Rattle.omos_model.specs.declared.fragment.Group.TheVariants.{Code, Zeros}
use Rattle.omos_model.specs.declared.fragment.Kind.TheVariants.{Plt32}
use Rattle.omos_model.specs.declared.fragment.Piece.{Piece}
use Rattle.omos_model.specs.declared.fragment.Spot.TheVariants.{Inside}
use Rattle.omos_model.specs.declared.refusal.ObjectFault.TheVariants as fault

-- ---- `print`, which calls `puts`, in 512 bytes

-- call puts; nop; nop; print: ret; seven nops
abbrev code : List ℕ
code = 232 ∷ 0 ∷ 0 ∷ 0 ∷ 0 ∷ 195 ∷ 144 ∷ 144 ∷ 195 ∷ replicate 7 144

-- type, flags, offset, size, link, info, alignment and entry size
abbrev section : ℕ → ℕ → ℕ → ℕ → ℕ → ℕ → ℕ → ℕ → List ℕ
section type flags offset size link info align entry =
    replicate 4 0 ++ little_bytes 4 type ++ little_bytes 8 flags ++ replicate 8 0
    ++ little_bytes 8 offset ++ little_bytes 8 size ++ little_bytes 4 link ++ little_bytes 4 info
    ++ little_bytes 8 align ++ little_bytes 8 entry

-- name, binding and type, section and value
abbrev symbol : ℕ → ℕ → ℕ → ℕ → List ℕ
symbol name info index value =
    little_bytes 4 name ++ info ∷ 0 ∷ [] ++ little_bytes 2 index ++ little_bytes 8 value
    ++ replicate 8 0

abbrev header : List ℕ
header =
    127 ∷ 69 ∷ 76 ∷ 70 ∷ 2 ∷ 1 ∷ 1 ∷ replicate 9 0
    ++ little_bytes 2 1 ++ little_bytes 2 62 ++ little_bytes 4 1 ++ replicate 16 0
    ++ little_bytes 8 192 ++ replicate 4 0 ++ little_bytes 2 64 ++ replicate 4 0
    ++ little_bytes 2 64 ++ little_bytes 2 5 ++ replicate 2 0

-- header, code at 64, relocations at 80, symbols at 104, strings at 176, section headers at 192
abbrev object : List ℕ
object =
    header ++ code
    ++ little_bytes 8 1 ++ little_bytes 8 (2 * 2 ^ 32 + 4) ++ little_bytes 8 (2 ^ 64 - 4)
    ++ symbol 0 0 0 0 ++ symbol 1 18 1 8 ++ symbol 7 16 0 0
    ++ 0 ∷ codes "print" ++ 0 ∷ codes "puts" ++ replicate 5 0
    ++ replicate 64 0
    ++ section 1 6 64 16 0 0 16 0
    ++ section 4 64 80 24 3 1 8 24
    ++ section 2 0 104 72 4 1 8 24
    ++ section 3 0 176 12 0 0 1 0

-- the object with one byte changed
abbrev with_byte : ℕ → ℕ → List ℕ
with_byte at byte = slice_set object at byte

abbrev text_piece : Piece
text_piece = record { group = Code; align = 16; size = 16; bytes = code }

abbrev print_export : Export
print_export = record { name = codes "print"; spot = Inside 0 8 }

-- the object's fragment, with more pieces and exports, and a call that aims at this
abbrev fragment : List Piece → List Export → Aim → FragmentParts
fragment pieces exports target =
    record {
      pieces = text_piece ∷ pieces;
      exports = print_export ∷ exports;
      fixups = record { piece = 0; offset = 1; kind = Plt32; addend = negsuc 3; aim = target } ∷ [];
    }

abbrev puts : Name
puts = codes "puts"

pub record ObjectExamples : Type 0 where
  pub whole : fragment_of object ≡ Ok (fragment [] [] (aim.Name puts false))
  -- `puts` as a weak symbol, as a LOCAL one of section 1, and as a common one without bytes
  pub weak : fragment_of (with_byte 156 32) ≡ Ok (fragment [] [] (aim.Name puts true))
  pub local : fragment_of (slice_set (with_byte 156 0) 158 1)
      ≡ Ok (fragment [] [] (aim.At (Inside 0 0)))
  pub common : fragment_of (slice_set (with_byte 158 242) 159 255)
      ≡ Ok (
      fragment (record { group = Zeros; align = 1; size = 0; bytes = [] } ∷ [])
      (record { name = puts; spot = Inside 1 0 } ∷ []) (aim.Name puts false)
      )
  -- a relocation of type NONE is no fixup
  pub none : fragment_of (with_byte 88 0)
      ≡ Ok (record { pieces = text_piece ∷ []; exports = print_export ∷ []; fixups = [] })
  -- 63 bytes; another class; another type; another size of section headers
  pub length : object_fault (take 63 object) ≡ Some fault.Length
  pub not_elf : object_fault (with_byte 4 1) ≡ Some fault.NotElf
  pub kind : object_fault (with_byte 16 2) ≡ Some fault.Kind
  pub headers : object_fault (with_byte 58 63) ≡ Some fault.Headers
  -- an alignment of 3; a thread-local section; entries of 23 bytes in the symbol table
  pub section : object_fault (with_byte 304 3) ≡ Some (fault.Section 1)
  pub unsupported : object_fault (with_byte 265 4) ≡ Some (fault.Unsupported 1)
  pub symbols : object_fault (with_byte 440 23) ≡ Some fault.Symbols
  -- a binding of 3; a value behind the section; a name that no zero byte follows; two of one name
  pub symbol : object_fault (with_byte 132 50) ≡ Some (fault.Symbol 1)
  pub value : object_fault (with_byte 136 17) ≡ Some (fault.Symbol 1)
  pub unended : object_fault (with_byte 187 33) ≡ Some (fault.Symbol 2)
  pub twice : object_fault (slice_set (with_byte 152 1) 158 1) ≡ Some (fault.Twice (codes "print"))
  -- no target; an unknown type; no symbol; a field behind the section
  pub relas : object_fault (with_byte 364 5) ≡ Some (fault.Relas 2)
  pub rela : object_fault (with_byte 88 3) ≡ Some (fault.Rela 2 0)
  pub no_symbol : object_fault (with_byte 92 3) ≡ Some (fault.Rela 2 0)
  pub field : object_fault (with_byte 80 13) ≡ Some (fault.Rela 2 0)
  -- a fault of a section comes before one of a symbol
  pub first : object_fault (slice_set (with_byte 132 50) 304 3) ≡ Some (fault.Section 1)
