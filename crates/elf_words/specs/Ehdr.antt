-- The ELF header (System V gABI, chapter 4, "ELF Header"): by its fields at their
-- offsets, and as its bytes.
use Rattle.std.specs.Prelude.{ℕ, List, ◌+◌, ◌++◌, take, drop}
use Rattle.omos_base.specs.Endian.{little_bytes}
use Rattle.omos_base.specs.Fields.{number_at}
use Rattle.elf_words.specs.declared.ehdr.Ehdr.{Ehdr}

-- the ELF header that begins at this place
abbrev pub ehdr_at : List ℕ → ℕ → Ehdr
ehdr_at file place = record {
  e_ident = take 16 (drop place file);
  e_type = number_at 2 (place + 16) file;
  e_machine = number_at 2 (place + 18) file;
  e_version = number_at 4 (place + 20) file;
  e_entry = number_at 8 (place + 24) file;
  e_phoff = number_at 8 (place + 32) file;
  e_shoff = number_at 8 (place + 40) file;
  e_flags = number_at 4 (place + 48) file;
  e_ehsize = number_at 2 (place + 52) file;
  e_phentsize = number_at 2 (place + 54) file;
  e_phnum = number_at 2 (place + 56) file;
  e_shentsize = number_at 2 (place + 58) file;
  e_shnum = number_at 2 (place + 60) file;
  e_shstrndx = number_at 2 (place + 62) file;
}

-- its bytes; an offset stands beside its field
unfoldable pub ehdr_bytes : Ehdr → List ℕ
ehdr_bytes header =
    let e_ident = header.e_ident in  -- 0
    let e_type = little_bytes 2 header.e_type in  -- 16
    let e_machine = little_bytes 2 header.e_machine in  -- 18
    let e_version = little_bytes 4 header.e_version in  -- 20
    let e_entry = little_bytes 8 header.e_entry in  -- 24
    let e_phoff = little_bytes 8 header.e_phoff in  -- 32
    let e_shoff = little_bytes 8 header.e_shoff in  -- 40
    let e_flags = little_bytes 4 header.e_flags in  -- 48
    let e_ehsize = little_bytes 2 header.e_ehsize in  -- 52
    let e_phentsize = little_bytes 2 header.e_phentsize in  -- 54
    let e_phnum = little_bytes 2 header.e_phnum in  -- 56
    let e_shentsize = little_bytes 2 header.e_shentsize in  -- 58
    let e_shnum = little_bytes 2 header.e_shnum in  -- 60
    let e_shstrndx = little_bytes 2 header.e_shstrndx in  -- 62
    e_ident ++ e_type ++ e_machine ++ e_version ++ e_entry ++ e_phoff ++ e_shoff ++ e_flags
    ++ e_ehsize ++ e_phentsize ++ e_phnum ++ e_shentsize ++ e_shnum ++ e_shstrndx
