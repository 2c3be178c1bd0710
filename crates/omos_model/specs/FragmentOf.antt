-- The fragment of an object file.
use Rattle.std.specs.Prelude.{ℕ, ◌+◌, ◌-◌, ◌==◌, Bool, ◌&&◌, if◌then◌else◌, List, [], ◌++◌, length}
use Rattle.std.specs.Prelude.{map, filter, Option, Some, None, Result, Ok, Err}
use Rattle.std.specs.List.{count_by, filter_map}
use Rattle.std.specs.Option.{option_map}
use Rattle.omos_model.specs.ElfValues.{shf_execinstr, shf_write, shn_abs, shn_common, shn_undef}
use Rattle.omos_model.specs.ElfValues.{stb_weak}
use Rattle.omos_model.specs.FragmentParts.{FragmentParts}
use Rattle.omos_model.specs.Numbers.{numbers_from}
use Rattle.omos_model.specs.ElfFields.{sh_size, sh_info, sh_addralign, has_flag, section_bytes}
use Rattle.omos_model.specs.ElfFields.{sections}
use Rattle.omos_model.specs.ElfFields.{symbols, st_shndx, st_value, st_size, binding, name_of}
use Rattle.omos_model.specs.ElfFields.{r_offset, r_addend, r_sym, r_type}
use Rattle.omos_model.specs.ElfFaults.{is_kept, is_nobits}
use Rattle.omos_model.specs.ElfFaults.{is_local, is_export}
use Rattle.omos_model.specs.ElfFaults.{kind_of, entries, object_fault}
use Rattle.omos_model.specs.declared.fragment.Group.{Group}
use Rattle.omos_model.specs.declared.fragment.Group.TheVariants.{Code, Consts, Vars, Zeros}
use Rattle.omos_model.specs.declared.fragment.Piece.{Piece}
use Rattle.omos_model.specs.declared.fragment.Spot.{Spot}
use Rattle.omos_model.specs.declared.fragment.Spot.TheVariants.{Inside, Fixed}
use Rattle.omos_model.specs.declared.fragment.Export.{Export}
use Rattle.omos_model.specs.declared.fragment.Fixup.{Fixup}
use Rattle.omos_model.specs.declared.fragment.Aim.{Aim}
use Rattle.omos_model.specs.declared.fragment.Aim.TheVariants as aim
use Rattle.omos_model.specs.declared.refusal.ObjectFault.{ObjectFault}

-- ---- pieces

abbrev pub group_of : List ℕ → ℕ → Group
group_of file i =
    if is_nobits file i then Zeros
    else (
    if has_flag file i shf_execinstr then Code
    else (if has_flag file i shf_write then Vars else Consts)
    )

-- an alignment of 0 is 1
abbrev pub alignment_of : ℕ → ℕ
alignment_of a = if a == 0 then 1 else a

abbrev pub piece_of_section : List ℕ → ℕ → Piece
piece_of_section file i =
    record {
      group = group_of file i;
      align = alignment_of (sh_addralign file i);
      size = sh_size file i;
      bytes = if is_nobits file i then [] else section_bytes file i;
    }

-- zeros, whose alignment is the symbol's value
abbrev pub piece_of_common : List ℕ → ℕ → Piece
piece_of_common file k =
    record {
      group = Zeros;
      align = alignment_of (st_value file k);
      size = st_size file k;
      bytes = [];
    }

abbrev pub is_common : List ℕ → ℕ → Bool
is_common file k = st_shndx file k == shn_common

abbrev pub kept_sections : List ℕ → List ℕ
kept_sections file = filter (is_kept file) (sections file)

-- the kept sections by number, then the common symbols by number
abbrev pub pieces_of : List ℕ → List Piece
pieces_of file =
    map (piece_of_section file) (kept_sections file)
    ++ map (piece_of_common file) (filter (is_common file) (symbols file))

-- ---- spots

-- the piece of a kept section: as many kept sections stand before it
abbrev pub section_piece : List ℕ → ℕ → ℕ
section_piece file i = count_by (is_kept file) (numbers_from 1 (i - 1))

-- the piece of a common symbol follows those of the sections and of the common symbols before
abbrev pub common_piece : List ℕ → ℕ → ℕ
common_piece file k =
    length (kept_sections file) + count_by (is_common file) (numbers_from 1 (k - 1))

abbrev pub spot_of : List ℕ → ℕ → Spot
spot_of file k =
    if st_shndx file k == shn_abs then Fixed (st_value file k)
    else (
    if is_common file k then Inside (common_piece file k) 0
    else Inside (section_piece file (st_shndx file k)) (st_value file k)
    )

-- ---- exports and fixups

abbrev pub exports_of : List ℕ → List Export
exports_of file =
    map (λ k. record { name = name_of file k; spot = spot_of file k })
    (filter (is_export file) (symbols file))

-- symbol 0 is the number 0, a LOCAL one its spot, any other its name
abbrev pub aim_of : List ℕ → ℕ → Aim
aim_of file k =
    if k == 0 then aim.At (Fixed 0)
    else (
    if is_local file k then aim.At (spot_of file k)
    else aim.Name (name_of file k) ((st_shndx file k == shn_undef) && (binding file k == stb_weak))
    )

-- an entry's fixup; one of type NONE has none
abbrev pub fixup_of : List ℕ → ℕ × ℕ → Option Fixup
fixup_of file e =
    option_map (
    λ kind.
    record {
      piece = section_piece file (sh_info file e.0);
      offset = r_offset file e.0 e.1;
      kind = kind;
      addend = r_addend file e.0 e.1;
      aim = aim_of file (r_sym file e.0 e.1);
    }
    ) (kind_of (r_type file e.0 e.1))

-- ---- the whole

abbrev pub parts_of_file : List ℕ → FragmentParts
parts_of_file file =
    record {
      pieces = pieces_of file;
      exports = exports_of file;
      fixups = filter_map (fixup_of file) (entries file);
    }

abbrev pub unless_fault : Option ObjectFault → FragmentParts → Result FragmentParts ObjectFault
unless_fault None parts = Ok parts
unless_fault (Some x) parts = Err x

-- the fragment of a file, or its first fault
unfoldable pub fragment_of : List ℕ → Result FragmentParts ObjectFault
fragment_of file = unless_fault (object_fault file) (parts_of_file file)
