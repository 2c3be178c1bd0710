-- The fields of an object file at their offsets, under the names of the System V gABI (chapter 4).
use Rattle.std.specs.Prelude.{ℕ, ◌+◌, ◌-◌, ◌*◌, ◌/◌, ◌%◌, ◌^◌, ◌==◌, nat_lt, Bool, not, ◌&&◌}
use Rattle.std.specs.Prelude.{if◌then◌else◌, List, take, drop, ℤ, unwrap_or, filter}
use Rattle.std.specs.List.{slice_get, take_while}
use Rattle.std.specs.Int.{cast_signed, w64}
use Rattle.omos_base.specs.Fields.{number_at}
use Rattle.omos_model.specs.ElfValues.{sht_symtab}
use Rattle.omos_model.specs.Names.{Name}
use Rattle.omos_model.specs.Numbers.{numbers_from}

-- ---- the header (gABI, "ELF Header")

abbrev pub e_type : List ℕ → ℕ
e_type file = number_at 2 16 file

abbrev pub e_machine : List ℕ → ℕ
e_machine file = number_at 2 18 file

abbrev pub e_version : List ℕ → ℕ
e_version file = number_at 4 20 file

abbrev pub e_shoff : List ℕ → ℕ
e_shoff file = number_at 8 40 file

abbrev pub e_shentsize : List ℕ → ℕ
e_shentsize file = number_at 2 58 file

abbrev pub e_shnum : List ℕ → ℕ
e_shnum file = number_at 2 60 file

-- ---- section i (gABI, "Sections")

-- where the header of section i begins
abbrev pub header_at : List ℕ → ℕ → ℕ
header_at file i = e_shoff file + 64 * i

abbrev pub sh_type : List ℕ → ℕ → ℕ
sh_type file i = number_at 4 (header_at file i + 4) file

abbrev pub sh_flags : List ℕ → ℕ → ℕ
sh_flags file i = number_at 8 (header_at file i + 8) file

abbrev pub sh_offset : List ℕ → ℕ → ℕ
sh_offset file i = number_at 8 (header_at file i + 24) file

abbrev pub sh_size : List ℕ → ℕ → ℕ
sh_size file i = number_at 8 (header_at file i + 32) file

abbrev pub sh_link : List ℕ → ℕ → ℕ
sh_link file i = number_at 4 (header_at file i + 40) file

abbrev pub sh_info : List ℕ → ℕ → ℕ
sh_info file i = number_at 4 (header_at file i + 44) file

abbrev pub sh_addralign : List ℕ → ℕ → ℕ
sh_addralign file i = number_at 8 (header_at file i + 48) file

abbrev pub sh_entsize : List ℕ → ℕ → ℕ
sh_entsize file i = number_at 8 (header_at file i + 56) file

-- the flag of this value is set
abbrev pub has_flag : List ℕ → ℕ → ℕ → Bool
has_flag file i flag = sh_flags file i / flag % 2 == 1

-- a section's bytes in the file
abbrev pub section_bytes : List ℕ → ℕ → List ℕ
section_bytes file i = take (sh_size file i) (drop (sh_offset file i) file)

-- a section's number; section 0 is none
abbrev pub is_section : List ℕ → ℕ → Bool
is_section file i = nat_lt 0 i && nat_lt i (e_shnum file)

-- the sections; section 0 isn't read
abbrev pub sections : List ℕ → List ℕ
sections file = numbers_from 1 (e_shnum file - 1)

-- ---- symbol k (gABI, "Symbol Table")

abbrev pub is_symtab : List ℕ → ℕ → Bool
is_symtab file i = is_section file i && (sh_type file i == sht_symtab)

-- the symbol tables, of which an object has one at most
abbrev pub symtabs : List ℕ → List ℕ
symtabs file = filter (is_symtab file) (sections file)

-- the first symbol table's number, or 0 where there is none
abbrev pub symbol_table : List ℕ → ℕ
symbol_table file = unwrap_or (slice_get (symtabs file) 0) 0

-- how many symbols there are, symbol 0 among them
abbrev pub symbol_count : List ℕ → ℕ
symbol_count file = if symbol_table file == 0 then 0 else sh_size file (symbol_table file) / 24

-- the symbols; symbol 0 isn't read
abbrev pub symbols : List ℕ → List ℕ
symbols file = numbers_from 1 (symbol_count file - 1)

-- where symbol k begins
abbrev pub symbol_at : List ℕ → ℕ → ℕ
symbol_at file k = sh_offset file (symbol_table file) + 24 * k

abbrev pub st_name : List ℕ → ℕ → ℕ
st_name file k = number_at 4 (symbol_at file k) file

abbrev pub st_info : List ℕ → ℕ → ℕ
st_info file k = number_at 1 (symbol_at file k + 4) file

abbrev pub st_shndx : List ℕ → ℕ → ℕ
st_shndx file k = number_at 2 (symbol_at file k + 6) file

abbrev pub st_value : List ℕ → ℕ → ℕ
st_value file k = number_at 8 (symbol_at file k + 8) file

abbrev pub st_size : List ℕ → ℕ → ℕ
st_size file k = number_at 8 (symbol_at file k + 16) file

abbrev pub binding : List ℕ → ℕ → ℕ
binding file k = st_info file k / 16

abbrev pub symbol_type : List ℕ → ℕ → ℕ
symbol_type file k = st_info file k % 16

-- the string table of the symbols from the name of symbol k on
abbrev pub name_bytes : List ℕ → ℕ → List ℕ
name_bytes file k = drop (st_name file k) (section_bytes file (sh_link file (symbol_table file)))

-- the name of symbol k: the bytes before the first zero byte (gABI, "String Table")
abbrev pub name_of : List ℕ → ℕ → Name
name_of file k = take_while (λ b. not (b == 0)) (name_bytes file k)

-- ---- entry j of relocation section i (gABI, "Relocation")

-- where the entry begins
abbrev pub entry_at : List ℕ → ℕ → ℕ → ℕ
entry_at file i j = sh_offset file i + 24 * j

abbrev pub r_offset : List ℕ → ℕ → ℕ → ℕ
r_offset file i j = number_at 8 (entry_at file i j) file

abbrev pub r_info : List ℕ → ℕ → ℕ → ℕ
r_info file i j = number_at 8 (entry_at file i j + 8) file

abbrev pub r_addend : List ℕ → ℕ → ℕ → ℤ
r_addend file i j = cast_signed w64 (number_at 8 (entry_at file i j + 16) file)

-- the number of the entry's symbol
abbrev pub r_sym : List ℕ → ℕ → ℕ → ℕ
r_sym file i j = r_info file i j / 2 ^ 32

-- the number of the entry's relocation type
abbrev pub r_type : List ℕ → ℕ → ℕ → ℕ
r_type file i j = r_info file i j % 2 ^ 32
