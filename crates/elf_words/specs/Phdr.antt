-- A program header (System V gABI, chapter 5, "Program Header"): by its fields at their
-- offsets, and as its bytes.
use Rattle.std.specs.Prelude.{ℕ, List, ◌+◌, ◌++◌}
use Rattle.omos_base.specs.Endian.{little_bytes}
use Rattle.omos_base.specs.Fields.{number_at}
use Rattle.elf_words.specs.declared.phdr.Phdr.{Phdr}

-- the program header that begins at this place
abbrev pub phdr_at : List ℕ → ℕ → Phdr
phdr_at file place = record {
  p_type = number_at 4 place file;
  p_flags = number_at 4 (place + 4) file;
  p_offset = number_at 8 (place + 8) file;
  p_vaddr = number_at 8 (place + 16) file;
  p_paddr = number_at 8 (place + 24) file;
  p_filesz = number_at 8 (place + 32) file;
  p_memsz = number_at 8 (place + 40) file;
  p_align = number_at 8 (place + 48) file;
}

-- its bytes; an offset stands beside its field
unfoldable pub phdr_bytes : Phdr → List ℕ
phdr_bytes header =
    let p_type = little_bytes 4 header.p_type in  -- 0
    let p_flags = little_bytes 4 header.p_flags in  -- 4
    let p_offset = little_bytes 8 header.p_offset in  -- 8
    let p_vaddr = little_bytes 8 header.p_vaddr in  -- 16
    let p_paddr = little_bytes 8 header.p_paddr in  -- 24
    let p_filesz = little_bytes 8 header.p_filesz in  -- 32
    let p_memsz = little_bytes 8 header.p_memsz in  -- 40
    let p_align = little_bytes 8 header.p_align in  -- 48
    p_type ++ p_flags ++ p_offset ++ p_vaddr ++ p_paddr ++ p_filesz ++ p_memsz ++ p_align
