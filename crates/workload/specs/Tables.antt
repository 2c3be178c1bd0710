-- The tables of a plain object (System V gABI, chapter 4, "Relocation", "Symbol Table" and
-- "String Table").
use Rattle.std.specs.Prelude.{ℕ, ◌+◌, ◌*◌, ◌^◌, List, [], ◌∷◌, ◌++◌, length, Option, Some, None}
use Rattle.std.specs.List.{flat_map}
use Rattle.elf_words.specs.declared.rela.Rela.{Rela}
use Rattle.elf_words.specs.declared.sym.Sym.{Sym}
use Rattle.elf_words.specs.Rela.{rela_bytes}
use Rattle.elf_words.specs.Sym.{sym_bytes}
use Rattle.workload.specs.declared.plain.PlainRela.{PlainRela}
use Rattle.workload.specs.declared.plain.PlainSymbol.{PlainSymbol}

-- r_info holds the symbol's number above the 32 bits of the relocation's type
abbrev pub rela_of : PlainRela → Rela
rela_of rela = record {
  r_offset = rela.offset;
  r_info = rela.symbol * 2 ^ 32 + rela.kind;
  r_addend = rela.addend;
}

abbrev pub rela_table : List PlainRela → List ℕ
rela_table relas = flat_map (λ rela. rela_bytes (rela_of rela)) relas

-- each name and a zero byte
abbrev pub terminated : List PlainSymbol → List ℕ
terminated symbols = flat_map (λ symbol. symbol.name ++ 0 ∷ []) symbols

-- a zero byte, then each name and a zero byte
abbrev pub string_table : List PlainSymbol → List ℕ
string_table symbols = 0 ∷ terminated symbols

-- A symbol whose name begins at this place of the string table: STB_GLOBAL, of type STT_FUNC in
-- section 1 where it has an offset, and else of type STT_NOTYPE and SHN_UNDEF.
abbrev pub sym_of : ℕ → Option ℕ → Sym
sym_of name (Some offset) = record {
  st_name = name;
  st_info = 0x12;
  st_other = 0;
  st_shndx = 1;
  st_value = offset;
  st_size = 0;
}
sym_of name None = record {
  st_name = name;
  st_info = 0x10;
  st_other = 0;
  st_shndx = 0;
  st_value = 0;
  st_size = 0;
}

-- symbol 0
abbrev pub no_symbol : Sym
no_symbol = record {
  st_name = 0;
  st_info = 0;
  st_other = 0;
  st_shndx = 0;
  st_value = 0;
  st_size = 0;
}

-- the symbols whose names stand in the string table from this place on
abbrev pub symbols_from : ℕ → List PlainSymbol → List ℕ
symbols_from place [] = []
symbols_from place (symbol ∷ symbols) =
    sym_bytes (sym_of place symbol.offset)
    ++ symbols_from (place + length symbol.name + 1) symbols

-- symbol 0 is all zeros; the names of the others begin behind the first zero byte
abbrev pub symbol_entries : List PlainSymbol → List ℕ
symbol_entries symbols = sym_bytes no_symbol ++ symbols_from 1 symbols
