-- What is kept of a file without a fault beside its bytes.
use Rattle.std.specs.Prelude.{◌≡◌, ℕ, ◌+◌, ◌*◌, ◌<◌, ◌≤◌, Bool, false, List, length, None}
use Rattle.std.specs.Prelude.{slice_index_or}
use Rattle.omos_base.specs.Runs.{run_of}
use Rattle.omos_model.specs.ElfFields.{e_shnum, section_bytes, sh_link, sh_offset, symbol_count}
use Rattle.omos_model.specs.ElfFields.{symbol_table}
use Rattle.omos_model.specs.ElfFaults.{is_kept, object_fault}
use Rattle.elf_object.specs.Stages.{HasHeaders}

-- by a section's number whether it is kept; behind the last none is
pub record AreKeptSections (file : List ℕ) (kept : List Bool) : Type 0 where
  pub all : length kept ≡ e_shnum file
  pub each : (i : ℕ) → slice_index_or kept i false ≡ is_kept file i

-- how many symbols there are, where symbol 0 begins, and their string table
pub record AreSymbols (file : List ℕ) (count at : ℕ) (strings : List ℕ) : Type 0 where
  pub counted : count ≡ symbol_count file
  pub begins : 0 < count → at ≡ sh_offset file (symbol_table file)
  pub inside : at + 24 * count ≤ length file
  pub named : 0 < count → strings ≡ section_bytes file (sh_link file (symbol_table file))

-- the bytes stand in the file from a place on
abbrev pub StandsAt : List ℕ → ℕ → List ℕ → Type 0
StandsAt file at bytes =
    (at + length bytes ≤ length file) × (run_of at (length bytes) file ≡ bytes)

pub record AreTables (file : List ℕ) (kept : List Bool) (count at strings_at : ℕ)
    (strings : List ℕ) : Type 0 where
  pub right : object_fault file ≡ None
  pub headers : HasHeaders file
  pub sections : AreKeptSections file kept
  pub symbols : AreSymbols file count at strings
  pub stand : StandsAt file strings_at strings
