-- A symbol (System V gABI, chapter 4, "Symbol Table"): by its fields at their
-- offsets, and as its bytes.
use Rattle.std.specs.Prelude.{ℕ, List, ◌+◌, ◌++◌, ◌∷◌, [], slice_index}
use Rattle.omos_base.specs.Endian.{little_bytes}
use Rattle.omos_base.specs.Fields.{number_at}
use Rattle.elf_words.specs.declared.sym.Sym.{Sym}

-- the symbol that begins at this place
abbrev pub sym_at : List ℕ → ℕ → Sym
sym_at file place = record {
  st_name = number_at 4 place file;
  st_info = slice_index file (place + 4);
  st_other = slice_index file (place + 5);
  st_shndx = number_at 2 (place + 6) file;
  st_value = number_at 8 (place + 8) file;
  st_size = number_at 8 (place + 16) file;
}

-- its bytes; an offset stands beside its field
unfoldable pub sym_bytes : Sym → List ℕ
sym_bytes symbol =
    let st_name = little_bytes 4 symbol.st_name in  -- 0
    let st_info = symbol.st_info ∷ [] in  -- 4
    let st_other = symbol.st_other ∷ [] in  -- 5
    let st_shndx = little_bytes 2 symbol.st_shndx in  -- 6
    let st_value = little_bytes 8 symbol.st_value in  -- 8
    let st_size = little_bytes 8 symbol.st_size in  -- 16
    st_name ++ st_info ++ st_other ++ st_shndx ++ st_value ++ st_size
