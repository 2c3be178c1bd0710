-- Values of fields under their names in the System V gABI (chapter 4) and the x86-64 psABI.
use Rattle.std.specs.Prelude.{ℕ}

-- ---- of the header, in e_type, e_machine and e_version (gABI, "ELF Header")

abbrev pub et_rel : ℕ
et_rel = 1

abbrev pub em_x86_64 : ℕ
em_x86_64 = 62

abbrev pub ev_current : ℕ
ev_current = 1

-- ---- types of sections, in sh_type (gABI, "Sections"; psABI, "Special Sections")

abbrev pub sht_progbits : ℕ
sht_progbits = 1

abbrev pub sht_symtab : ℕ
sht_symtab = 2

abbrev pub sht_strtab : ℕ
sht_strtab = 3

abbrev pub sht_rela : ℕ
sht_rela = 4

abbrev pub sht_note : ℕ
sht_note = 7

abbrev pub sht_nobits : ℕ
sht_nobits = 8

abbrev pub sht_rel : ℕ
sht_rel = 9

abbrev pub sht_init_array : ℕ
sht_init_array = 14

abbrev pub sht_fini_array : ℕ
sht_fini_array = 15

abbrev pub sht_group : ℕ
sht_group = 17

abbrev pub sht_symtab_shndx : ℕ
sht_symtab_shndx = 18

abbrev pub sht_x86_64_unwind : ℕ
sht_x86_64_unwind = 0x70000001

-- ---- flags of sections, in sh_flags

abbrev pub shf_write : ℕ
shf_write = 0x1

abbrev pub shf_alloc : ℕ
shf_alloc = 0x2

abbrev pub shf_execinstr : ℕ
shf_execinstr = 0x4

abbrev pub shf_tls : ℕ
shf_tls = 0x400

abbrev pub shf_compressed : ℕ
shf_compressed = 0x800

-- ---- what st_shndx says where it is no section's number (gABI, "Symbol Table")

abbrev pub shn_undef : ℕ
shn_undef = 0

abbrev pub shn_abs : ℕ
shn_abs = 0xfff1

abbrev pub shn_common : ℕ
shn_common = 0xfff2

-- ---- bindings of symbols, in the upper half of st_info

abbrev pub stb_local : ℕ
stb_local = 0

abbrev pub stb_global : ℕ
stb_global = 1

abbrev pub stb_weak : ℕ
stb_weak = 2

-- ---- types of symbols, in the lower half; thread-local ones come behind this one

abbrev pub stt_common : ℕ
stt_common = 5

-- ---- types of relocations, in the lower half of r_info (psABI, "Relocation Types")

abbrev pub r_x86_64_none : ℕ
r_x86_64_none = 0

abbrev pub r_x86_64_64 : ℕ
r_x86_64_64 = 1

abbrev pub r_x86_64_pc32 : ℕ
r_x86_64_pc32 = 2

abbrev pub r_x86_64_plt32 : ℕ
r_x86_64_plt32 = 4

abbrev pub r_x86_64_gotpcrel : ℕ
r_x86_64_gotpcrel = 9

abbrev pub r_x86_64_32 : ℕ
r_x86_64_32 = 10

abbrev pub r_x86_64_32s : ℕ
r_x86_64_32s = 11

abbrev pub r_x86_64_pc64 : ℕ
r_x86_64_pc64 = 24

abbrev pub r_x86_64_gotpcrelx : ℕ
r_x86_64_gotpcrelx = 41

abbrev pub r_x86_64_rex_gotpcrelx : ℕ
r_x86_64_rex_gotpcrelx = 42
