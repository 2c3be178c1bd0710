-- How far the reading of a file has come.
use Rattle.std.specs.Prelude.{◌≡◌, ℕ, ◌+◌, ◌*◌, ◌<◌, ◌≤◌, true, false, List, [], ◌∷◌, length}
use Rattle.std.specs.Prelude.{Option}
use Rattle.std.specs.List.{find}
use Rattle.std.specs.Option.{option_map}
use Rattle.omos_model.specs.Numbers.{first_some}
use Rattle.omos_model.specs.ElfFields.{e_shnum, e_shoff, sh_info, sh_offset, sh_size, symtabs}
use Rattle.omos_model.specs.ElfFields.{name_of, sections, symbols}
use Rattle.omos_model.specs.ElfFaults.{entries, is_again, is_unsupported, is_wrong_entry}
use Rattle.omos_model.specs.ElfFaults.{is_wrong_rela, is_wrong_section, is_wrong_symbol}
use Rattle.omos_model.specs.ElfFaults.{are_right_symtabs, has_headers, is_elf, is_relocatable}
use Rattle.omos_model.specs.declared.refusal.ObjectFault.{ObjectFault}
use Rattle.omos_model.specs.declared.refusal.ObjectFault.TheVariants as fault

-- nothing is wrong with the header, and the section headers can be read
pub record HasHeaders (file : List ℕ) : Type 0 where
  pub long : 64 ≤ length file
  pub short : length file ≤ 1048576
  pub elf : is_elf file ≡ true
  pub relocatable : is_relocatable file ≡ true
  pub headers : has_headers file ≡ true
  pub some : 0 < e_shnum file
  pub few : e_shnum file ≤ 4096
  pub inside : e_shoff file + 64 * e_shnum file ≤ length file

abbrev pub IsSized : List ℕ → Type 0
IsSized file = (64 ≤ length file) × (length file ≤ 1048576)

-- this is wrong with the header first
abbrev pub IsHeaderFault : List ℕ → ObjectFault → Type 0
IsHeaderFault file fault.Length = IsSized file → ⊥
IsHeaderFault file fault.NotElf = IsSized file × (is_elf file ≡ false)
IsHeaderFault file fault.Kind =
    IsSized file × (is_elf file ≡ true) × (is_relocatable file ≡ false)
IsHeaderFault file fault.Headers =
    IsSized file × (is_elf file ≡ true) × (is_relocatable file ≡ true) × (has_headers file ≡ false)
IsHeaderFault file _ = ⊥

-- the symbol table is wrong, or there are two
abbrev pub IsSymbolsFault : List ℕ → ObjectFault → Type 0
IsSymbolsFault file x = (x ≡ fault.Symbols) × (are_right_symtabs file (symtabs file) ≡ false)

-- the entries of a relocation section and the size of its target can be read
pub record IsReadable (file : List ℕ) (i : ℕ) : Type 0 where
  pub there : i < e_shnum file
  pub target : sh_info file i < e_shnum file
  pub inside : sh_offset file i + sh_size file i ≤ length file

-- ---- faults of sections, symbols and relocations, as object_fault has them

-- O5
abbrev pub wrong_section : List ℕ → Option ObjectFault
wrong_section file = option_map fault.Section (find (is_wrong_section file) (sections file))

-- O6
abbrev pub unsupported_section : List ℕ → Option ObjectFault
unsupported_section file = option_map fault.Unsupported (find (is_unsupported file) (sections file))

-- O8
abbrev pub wrong_symbol : List ℕ → Option ObjectFault
wrong_symbol file = option_map fault.Symbol (find (is_wrong_symbol file) (symbols file))

-- O9
abbrev pub name_again : List ℕ → Option ObjectFault
name_again file =
    option_map (λ k. fault.Twice (name_of file k)) (find (is_again file) (symbols file))

-- O10
abbrev pub wrong_relas : List ℕ → Option ObjectFault
wrong_relas file = option_map fault.Relas (find (is_wrong_rela file) (sections file))

-- O11
abbrev pub wrong_entry : List ℕ → Option ObjectFault
wrong_entry file = option_map (λ e. fault.Rela e.0 e.1) (find (is_wrong_entry file) (entries file))

abbrev pub section_fault : List ℕ → Option ObjectFault
section_fault file = first_some (wrong_section file ∷ unsupported_section file ∷ [])

abbrev pub symbol_fault : List ℕ → Option ObjectFault
symbol_fault file = first_some (wrong_symbol file ∷ name_again file ∷ [])

abbrev pub rela_fault : List ℕ → Option ObjectFault
rela_fault file = first_some (wrong_relas file ∷ wrong_entry file ∷ [])
