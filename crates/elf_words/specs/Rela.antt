-- A relocation (System V gABI, chapter 4, "Relocation"): by its fields at their
-- offsets, and as its bytes.
use Rattle.std.specs.Prelude.{ℕ, List, ◌+◌, ◌++◌}
use Rattle.std.specs.Int.{w64, cast_signed, cast_unsigned}
use Rattle.omos_base.specs.Endian.{little_bytes}
use Rattle.omos_base.specs.Fields.{number_at}
use Rattle.elf_words.specs.declared.rela.Rela.{Rela}

-- the relocation that begins at this place
abbrev pub rela_at : List ℕ → ℕ → Rela
rela_at file place = record {
  r_offset = number_at 8 place file;
  r_info = number_at 8 (place + 8) file;
  r_addend = cast_signed w64 (number_at 8 (place + 16) file);
}

-- its bytes; an offset stands beside its field
unfoldable pub rela_bytes : Rela → List ℕ
rela_bytes relocation =
    let r_offset = little_bytes 8 relocation.r_offset in  -- 0
    let r_info = little_bytes 8 relocation.r_info in  -- 8
    let r_addend = little_bytes 8 (cast_unsigned w64 relocation.r_addend) in  -- 16
    r_offset ++ r_info ++ r_addend
