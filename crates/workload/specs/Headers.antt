-- The headers of a plain object (System V gABI, chapter 4, "ELF Header" and "Sections").
use Rattle.std.specs.Prelude.{ℕ, List, ◌∷◌, ◌++◌, replicate}
use Rattle.elf_words.specs.declared.ehdr.Ehdr.{Ehdr}
use Rattle.elf_words.specs.declared.shdr.Shdr.{Shdr}
use Rattle.elf_words.specs.Shdr.{shdr_bytes}
use Rattle.workload.specs.declared.plan.Part.{Part}
use Rattle.workload.specs.declared.plan.Plan.{Plan}

-- 7F and `ELF`, ELFCLASS64, ELFDATA2LSB, EV_CURRENT and nine zeros
abbrev pub identification : List ℕ
identification = 127 ∷ 69 ∷ 76 ∷ 70 ∷ 2 ∷ 1 ∷ 1 ∷ replicate 9 0

-- of an object with five section headers at this offset
abbrev pub file_header : ℕ → Ehdr
file_header headers = record {
  e_ident = identification;
  e_type = 1;  -- ET_REL
  e_machine = 62;  -- EM_X86_64
  e_version = 1;  -- EV_CURRENT
  e_entry = 0;
  e_phoff = 0;
  e_shoff = headers;
  e_flags = 0;
  e_ehsize = 64;
  e_phentsize = 0;
  e_phnum = 0;
  e_shentsize = 64;
  e_shnum = 5;
  e_shstrndx = 0;
}

-- of a section without a name and an address
abbrev pub section_header : ℕ → ℕ → Part → ℕ → ℕ → ℕ → ℕ → Shdr
section_header sh_type sh_flags part sh_link sh_info sh_addralign sh_entsize = record {
  sh_name = 0;
  sh_type = sh_type;
  sh_flags = sh_flags;
  sh_addr = 0;
  sh_offset = part.offset;
  sh_size = part.size;
  sh_link = sh_link;
  sh_info = sh_info;
  sh_addralign = sh_addralign;
  sh_entsize = sh_entsize;
}

-- Section 0 is all zeros. Section 1, the code, is SHT_PROGBITS (1) with SHF_ALLOC and
-- SHF_EXECINSTR (6). Section 2 is SHT_RELA (4) with SHF_INFO_LINK (0x40): relocations of
-- section 1 over the symbols of section 3. Section 3 is SHT_SYMTAB (2), with its names in section
-- 4, an SHT_STRTAB (3), and its first global symbol is number 1.
abbrev pub section_headers : Plan → ℕ → List ℕ
section_headers plan align =
    let nothing : Part = record { offset = 0; size = 0 } in
    let zero = section_header 0 0 nothing 0 0 0 0 in
    let code = section_header 1 6 plan.code 0 0 align 0 in
    let relas = section_header 4 0x40 plan.relas 3 1 8 24 in
    let symbols = section_header 2 0 plan.symbols 4 1 8 24 in
    let strings = section_header 3 0 plan.strings 0 0 1 0 in
    shdr_bytes zero ++ shdr_bytes code ++ shdr_bytes relas ++ shdr_bytes symbols
    ++ shdr_bytes strings
