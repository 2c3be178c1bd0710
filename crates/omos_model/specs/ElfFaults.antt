-- The first fault of an object file.
use Rattle.std.specs.Prelude.{ℕ, ◌+◌, ◌-◌, ◌*◌, ◌/◌, ◌%◌, ◌==◌, nat_lt, nat_le, Bool, true, false}
use Rattle.std.specs.Prelude.{not, ◌&&◌, ◌||◌, if◌then◌else◌, List, [], ◌∷◌, length, take, map}
use Rattle.std.specs.Prelude.{Option, Some, None, filter}
use Rattle.std.specs.List.{find, list_any, sum_by, flat_map}
use Rattle.std.specs.Option.{option_map, option_map_or}
use Rattle.std.specs.Map.{lookup}
use Rattle.omos_base.specs.Fields.{number_at}
use Rattle.omos_model.specs.ElfValues.{em_x86_64, et_rel, ev_current, shf_alloc}
use Rattle.omos_model.specs.ElfValues.{r_x86_64_none, r_x86_64_64, r_x86_64_pc32, r_x86_64_plt32}
use Rattle.omos_model.specs.ElfValues.{r_x86_64_gotpcrel, r_x86_64_32, r_x86_64_32s, r_x86_64_pc64}
use Rattle.omos_model.specs.ElfValues.{r_x86_64_gotpcrelx, r_x86_64_rex_gotpcrelx}
use Rattle.omos_model.specs.ElfValues.{shf_compressed, shf_execinstr, shf_tls, shf_write, shn_abs}
use Rattle.omos_model.specs.ElfValues.{shn_common, shn_undef, sht_fini_array, sht_group}
use Rattle.omos_model.specs.ElfValues.{sht_init_array, sht_nobits, sht_note, sht_progbits, sht_rel}
use Rattle.omos_model.specs.ElfValues.{sht_rela, sht_strtab, sht_symtab_shndx, sht_x86_64_unwind}
use Rattle.omos_model.specs.ElfValues.{stb_global, stb_local, stb_weak, stt_common}
use Rattle.omos_model.specs.Names.{same_name, is_symbol_name}
use Rattle.omos_model.specs.FragmentParts.{is_alignment, max_size, max_entries, width}
use Rattle.omos_model.specs.Numbers.{numbers_from, first_some}
use Rattle.omos_model.specs.ElfFields.{e_type, e_machine, e_version, e_shoff, e_shentsize, e_shnum}
use Rattle.omos_model.specs.ElfFields.{sh_type, sh_offset, sh_size, sh_link, sh_info, sh_addralign}
use Rattle.omos_model.specs.ElfFields.{sh_entsize}
use Rattle.omos_model.specs.ElfFields.{has_flag, is_section, sections, is_symtab, symtabs}
use Rattle.omos_model.specs.ElfFields.{symbol_count}
use Rattle.omos_model.specs.ElfFields.{symbols}
use Rattle.omos_model.specs.ElfFields.{st_shndx, st_value, st_size, binding, symbol_type}
use Rattle.omos_model.specs.ElfFields.{name_bytes, name_of}
use Rattle.omos_model.specs.ElfFields.{r_offset, r_sym, r_type}
use Rattle.omos_model.specs.declared.fragment.Kind.{Kind}
use Rattle.omos_model.specs.declared.fragment.Kind.TheVariants.{Abs64, Pc32, Plt32, GotPcRel, Abs32}
use Rattle.omos_model.specs.declared.fragment.Kind.TheVariants.{Abs32S, Pc64, GotPcRelX}
use Rattle.omos_model.specs.declared.fragment.Kind.TheVariants.{RexGotPcRelX}
use Rattle.omos_model.specs.declared.refusal.ObjectFault.{ObjectFault}
use Rattle.omos_model.specs.declared.refusal.ObjectFault.TheVariants as fault

-- ---- sections (gABI, "Sections"; x86-64 psABI, "Special Sections")

abbrev pub is_alloc : List ℕ → ℕ → Bool
is_alloc file i = has_flag file i shf_alloc

abbrev pub loaded_types : List ℕ
loaded_types =
    sht_progbits ∷ sht_note ∷ sht_nobits ∷ sht_init_array ∷ sht_fini_array ∷ sht_x86_64_unwind ∷ []

-- of a type that is loaded, neither TLS nor COMPRESSED, and not EXECINSTR beside WRITE or NOBITS
abbrev pub is_supported : List ℕ → ℕ → Bool
is_supported file i =
    list_any (λ t. t == sh_type file i) loaded_types
    && not (has_flag file i shf_tls) && not (has_flag file i shf_compressed)
    && not (has_flag file i shf_execinstr
    && (has_flag file i shf_write || sh_type file i == sht_nobits))

-- a section that is loaded
abbrev pub is_kept : List ℕ → ℕ → Bool
is_kept file i = is_section file i && is_alloc file i && is_supported file i

abbrev pub is_nobits : List ℕ → ℕ → Bool
is_nobits file i = sh_type file i == sht_nobits

-- the section's bytes end within the file
abbrev pub lies_in_file : List ℕ → ℕ → Bool
lies_in_file file i = nat_le (sh_offset file i + sh_size file i) (length file)

-- O5: the alignment, the size or the place of a kept section is wrong
abbrev pub is_wrong_section : List ℕ → ℕ → Bool
is_wrong_section file i =
    is_kept file i
    && (not (sh_addralign file i == 0 || is_alignment (sh_addralign file i))
    || nat_lt max_size (sh_size file i)
    || (not (is_nobits file i) && not (lies_in_file file i)))

-- O6: a section of type REL, GROUP or SYMTAB_SHNDX, or one that ought to be loaded and can't
abbrev pub is_unsupported : List ℕ → ℕ → Bool
is_unsupported file i =
    list_any (λ t. t == sh_type file i) (sht_rel ∷ sht_group ∷ sht_symtab_shndx ∷ [])
    || (is_alloc file i && not (is_supported file i))

-- ---- symbols (gABI, "Symbol Table")

-- a string table's number, and the table lies in the file
abbrev pub is_strtab : List ℕ → ℕ → Bool
is_strtab file i = is_section file i && (sh_type file i == sht_strtab) && lies_in_file file i

abbrev pub is_right_symtab : List ℕ → ℕ → Bool
is_right_symtab file i =
    (sh_entsize file i == 24) && (sh_size file i % 24 == 0)
    && nat_le (sh_size file i / 24) max_entries
    && lies_in_file file i && is_strtab file (sh_link file i)

-- O7 where it fails: there is no symbol table, or one that is right
abbrev pub are_right_symtabs : List ℕ → List ℕ → Bool
are_right_symtabs file [] = true
are_right_symtabs file (i ∷ []) = is_right_symtab file i
are_right_symtabs file (i ∷ j ∷ more) = false

abbrev pub is_local : List ℕ → ℕ → Bool
is_local file k = binding file k == stb_local

-- GLOBAL or WEAK
abbrev pub has_name : List ℕ → ℕ → Bool
has_name file k = (binding file k == stb_global) || (binding file k == stb_weak)

-- the symbol defines its name for other objects
abbrev pub is_export : List ℕ → ℕ → Bool
is_export file k = has_name file k && not (st_shndx file k == shn_undef)

-- the symbol is of a section that isn't kept
abbrev pub is_of_dropped : List ℕ → ℕ → Bool
is_of_dropped file k = is_section file (st_shndx file k) && not (is_kept file (st_shndx file k))

-- LOCAL, GLOBAL or WEAK, and no thread-local type
abbrev pub has_right_info : List ℕ → ℕ → Bool
has_right_info file k = nat_le (binding file k) stb_weak && nat_le (symbol_type file k) stt_common

-- UNDEF but for LOCAL, ABS, COMMON for GLOBAL alone, or a section's number
abbrev pub has_right_section : List ℕ → ℕ → Bool
has_right_section file k =
    (not (is_local file k) && (st_shndx file k == shn_undef))
    || (st_shndx file k == shn_abs)
    || ((binding file k == stb_global) && (st_shndx file k == shn_common))
    || is_section file (st_shndx file k)

-- within a kept section; a name of other objects' isn't of a section that isn't kept
abbrev pub has_right_value : List ℕ → ℕ → Bool
has_right_value file k =
    (not (is_kept file (st_shndx file k))
    || nat_le (st_value file k) (sh_size file (st_shndx file k)))
    && not (has_name file k && is_of_dropped file k)

-- a common symbol's value is its alignment
abbrev pub has_right_common : List ℕ → ℕ → Bool
has_right_common file k =
    not (st_shndx file k == shn_common)
    || ((st_value file k == 0 || is_alignment (st_value file k))
    && nat_le (st_size file k) max_size)

-- a name of other objects' is a symbol name with a zero byte behind it in the string table
abbrev pub has_right_name : List ℕ → ℕ → Bool
has_right_name file k =
    not (has_name file k)
    || (list_any (λ b. b == 0) (name_bytes file k) && is_symbol_name (name_of file k))

-- O8
abbrev pub is_wrong_symbol : List ℕ → ℕ → Bool
is_wrong_symbol file k =
    not (
    has_right_info file k && has_right_section file k && has_right_value file k
    && has_right_common file k && has_right_name file k
    )

-- O9: a lower symbol defines the name too
abbrev pub is_again : List ℕ → ℕ → Bool
is_again file k =
    is_export file k
    && list_any (λ j. is_export file j && same_name (name_of file k) (name_of file j))
    (numbers_from 1 (k - 1))

-- ---- relocations (gABI, "Relocation"; x86-64 psABI, "Relocation Types")

-- a RELA section whose target is kept
abbrev pub is_used_rela : List ℕ → ℕ → Bool
is_used_rela file i = (sh_type file i == sht_rela) && is_kept file (sh_info file i)

abbrev pub entry_count : List ℕ → ℕ → ℕ
entry_count file i = sh_size file i / 24

-- the entries of the used RELA sections up to and with this one
abbrev pub entries_up_to : List ℕ → ℕ → ℕ
entries_up_to file i = sum_by (entry_count file) (filter (is_used_rela file) (numbers_from 1 i))

abbrev pub is_right_rela : List ℕ → ℕ → Bool
is_right_rela file i =
    (sh_entsize file i == 24) && (sh_size file i % 24 == 0)
    && lies_in_file file i
    && is_symtab file (sh_link file i)
    && (not (is_nobits file (sh_info file i)) || (sh_size file i == 0))
    && nat_le (entries_up_to file i) max_entries

-- O10: a RELA section without a target, or whose target is kept and which is wrong
abbrev pub is_wrong_rela : List ℕ → ℕ → Bool
is_wrong_rela file i =
    (sh_type file i == sht_rela)
    && (not (nat_lt (sh_info file i) (e_shnum file))
    || (is_used_rela file i && not (is_right_rela file i)))

-- the kind of a fixup by the number of its relocation type
abbrev pub kind_of : ℕ → Option Kind
kind_of n =
    lookup (λ m. m == n) (
    (r_x86_64_64, Abs64) ∷ (r_x86_64_pc32, Pc32) ∷ (r_x86_64_plt32, Plt32)
    ∷ (r_x86_64_gotpcrel, GotPcRel) ∷ (r_x86_64_32, Abs32) ∷ (r_x86_64_32s, Abs32S)
    ∷ (r_x86_64_pc64, Pc64) ∷ (r_x86_64_gotpcrelx, GotPcRelX)
    ∷ (r_x86_64_rex_gotpcrelx, RexGotPcRelX) ∷ []
    )

-- the entries, each as its section and its number in it, of the sections whose target is kept
abbrev pub entries : List ℕ → List (ℕ × ℕ)
entries file =
    flat_map (λ i. map (λ j. (i, j)) (numbers_from 0 (entry_count file i)))
    (filter (is_used_rela file) (sections file))

-- the field lies in the target
abbrev pub is_in_target : List ℕ → ℕ → ℕ → Bool
is_in_target file i j =
    option_map_or (λ kind. nat_le (r_offset file i j + width kind) (sh_size file (sh_info file i)))
    (kind_of (r_type file i j)) false

-- a symbol by its number, 0 among them, that isn't a LOCAL one of a section that isn't kept
abbrev pub is_aim_of : List ℕ → ℕ → Bool
is_aim_of file k =
    nat_lt k (symbol_count file) && not (nat_lt 0 k && is_local file k && is_of_dropped file k)

-- O11; type 0 is NONE
abbrev pub is_wrong_entry : List ℕ → ℕ × ℕ → Bool
is_wrong_entry file e =
    not (r_type file e.0 e.1 == r_x86_64_none)
    && not (is_in_target file e.0 e.1 && is_aim_of file (r_sym file e.0 e.1))

-- ---- the first

-- bytes 0 to 6 say ELF, 64 bits, little-endian, version 1, and byte 7 no ABI or GNU's
-- (gABI, "ELF Identification")
abbrev pub is_elf : List ℕ → Bool
is_elf file =
    same_name (take 7 file) (127 ∷ 69 ∷ 76 ∷ 70 ∷ 2 ∷ 1 ∷ 1 ∷ [])
    && ((number_at 1 7 file == 0) || (number_at 1 7 file == 3))

-- 64 to 1,048,576 bytes
abbrev pub has_length : List ℕ → Bool
has_length file = nat_le 64 (length file) && nat_le (length file) 1048576

abbrev pub is_relocatable : List ℕ → Bool
is_relocatable file =
    (e_type file == et_rel) && (e_machine file == em_x86_64) && (e_version file == ev_current)

abbrev pub max_sections : ℕ
max_sections = 4096

abbrev pub has_headers : List ℕ → Bool
has_headers file =
    (e_shentsize file == 64) && nat_lt 0 (e_shnum file) && nat_le (e_shnum file) max_sections
    && nat_le (e_shoff file + 64 * e_shnum file) (length file)

abbrev pub fault_unless : Bool → ObjectFault → Option ObjectFault
fault_unless fine x = if fine then None else Some x

-- O1 to O11 in this order, each where there is one: of the least section, symbol and entry
abbrev pub faults : List ℕ → List (Option ObjectFault)
faults file =
    fault_unless (has_length file) fault.Length
    ∷ fault_unless (is_elf file) fault.NotElf
    ∷ fault_unless (is_relocatable file) fault.Kind
    ∷ fault_unless (has_headers file) fault.Headers
    ∷ option_map fault.Section (find (is_wrong_section file) (sections file))
    ∷ option_map fault.Unsupported (find (is_unsupported file) (sections file))
    ∷ fault_unless (are_right_symtabs file (symtabs file)) fault.Symbols
    ∷ option_map fault.Symbol (find (is_wrong_symbol file) (symbols file))
    ∷ option_map (λ k. fault.Twice (name_of file k)) (find (is_again file) (symbols file))
    ∷ option_map fault.Relas (find (is_wrong_rela file) (sections file))
    ∷ option_map (λ e. fault.Rela e.0 e.1) (find (is_wrong_entry file) (entries file))
    ∷ []

-- the first fault of a file
unfoldable pub object_fault : List ℕ → Option ObjectFault
object_fault file = first_some (faults file)
