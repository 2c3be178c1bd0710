-- A section header (System V gABI, chapter 4, "Sections"): by its fields at their
-- offsets, and as its bytes.
use Rattle.std.specs.Prelude.{ℕ, List, ◌+◌, ◌++◌}
use Rattle.omos_base.specs.Endian.{little_bytes}
use Rattle.omos_base.specs.Fields.{number_at}
use Rattle.elf_words.specs.declared.shdr.Shdr.{Shdr}

-- the section header that begins at this place
abbrev pub shdr_at : List ℕ → ℕ → Shdr
shdr_at file place = record {
  sh_name = number_at 4 place file;
  sh_type = number_at 4 (place + 4) file;
  sh_flags = number_at 8 (place + 8) file;
  sh_addr = number_at 8 (place + 16) file;
  sh_offset = number_at 8 (place + 24) file;
  sh_size = number_at 8 (place + 32) file;
  sh_link = number_at 4 (place + 40) file;
  sh_info = number_at 4 (place + 44) file;
  sh_addralign = number_at 8 (place + 48) file;
  sh_entsize = number_at 8 (place + 56) file;
}

-- its bytes; an offset stands beside its field
unfoldable pub shdr_bytes : Shdr → List ℕ
shdr_bytes header =
    let sh_name = little_bytes 4 header.sh_name in  -- 0
    let sh_type = little_bytes 4 header.sh_type in  -- 4
    let sh_flags = little_bytes 8 header.sh_flags in  -- 8
    let sh_addr = little_bytes 8 header.sh_addr in  -- 16
    let sh_offset = little_bytes 8 header.sh_offset in  -- 24
    let sh_size = little_bytes 8 header.sh_size in  -- 32
    let sh_link = little_bytes 4 header.sh_link in  -- 40
    let sh_info = little_bytes 4 header.sh_info in  -- 44
    let sh_addralign = little_bytes 8 header.sh_addralign in  -- 48
    let sh_entsize = little_bytes 8 header.sh_entsize in  -- 56
    sh_name ++ sh_type ++ sh_flags ++ sh_addr ++ sh_offset ++ sh_size ++ sh_link ++ sh_info
    ++ sh_addralign ++ sh_entsize
