-- Tables by number that are made from an object file.
use Rattle.std.specs.Prelude.{◌≡◌, ℕ, ℤ, ◌<◌, ◌==◌, ◌||◌, Bool, List, length, slice_index}
use Rattle.omos_model.specs.ElfValues.{shn_abs}
use Rattle.omos_model.specs.ElfFields.{e_shnum, name_of, st_shndx}
use Rattle.omos_model.specs.ElfFaults.{is_kept}
use Rattle.omos_model.specs.FragmentOf.{is_common, section_piece, spot_of}
use Rattle.omos_model.specs.declared.fragment.Aim.{Aim}
use Rattle.omos_model.specs.declared.fragment.Export.{Export}
use Rattle.omos_model.specs.declared.fragment.Fixup.{Fixup}
use Rattle.omos_model.specs.declared.fragment.Kind.{Kind}

-- the number of the piece of each section: as many kept sections stand before it
pub record ArePieceNumbers (file : List ℕ) (numbers : List ℕ) : Type 0 where
  pub all : length numbers ≡ e_shnum file
  pub each : (i : ℕ) → i < e_shnum file → slice_index numbers i ≡ section_piece file i

-- the symbol is a number, a common one or in a kept section
abbrev pub has_place : List ℕ → ℕ → Bool
has_place file k = (st_shndx file k == shn_abs) || is_common file k
    || is_kept file (st_shndx file k)

abbrev pub export_of : List ℕ → ℕ → Export
export_of file k = record { name = name_of file k; spot = spot_of file k }

abbrev pub fixup_with : ℕ → ℕ → ℤ → Aim → Kind → Fixup
fixup_with piece offset addend aim kind =
    record { piece = piece; offset = offset; kind = kind; addend = addend; aim = aim }
