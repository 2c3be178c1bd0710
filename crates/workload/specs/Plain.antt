-- Plain objects (System V gABI, chapter 4): five sections, of which one is code, one holds its
-- relocations, one the symbols and one their names.
use Rattle.std.specs.Prelude.{ℕ, ◌+◌, ◌-◌, ◌≤◌, List, ◌++◌, length}
use Rattle.omos_base.specs.Fields.{zeros}
use Rattle.elf_words.specs.Ehdr.{ehdr_bytes}
use Rattle.workload.specs.declared.plain.PlainRela.{PlainRela}
use Rattle.workload.specs.declared.plain.PlainSymbol.{PlainSymbol}
use Rattle.workload.specs.declared.plan.Plan.{Plan}
use Rattle.workload.specs.Headers.{file_header, section_headers}
use Rattle.workload.specs.Tables.{rela_table, string_table}
use Rattle.workload.specs.Tables.{symbol_entries}
use Rattle.workload.specs.Plan.{object_plan}

-- the bytes, filled up with zeros to this place, and then the part
abbrev pub placed : ℕ → List ℕ → List ℕ → List ℕ
placed place bytes part = bytes ++ zeros (place - length bytes) ++ part

-- where the parts of the object lie
abbrev pub plain_plan : List ℕ → List PlainSymbol → List PlainRela → Plan
plain_plan code symbols relas =
    object_plan (length code) (length (rela_table relas)) (length (symbol_entries symbols))
    (length (string_table symbols))

-- the object with this code, aligned so, these symbols from number 1 on, and these relocations
abbrev pub plain_bytes : List ℕ → ℕ → List PlainSymbol → List PlainRela → List ℕ
plain_bytes code align symbols relas =
    let plan = plain_plan code symbols relas in
    let with_code = ehdr_bytes (file_header plan.headers) ++ code in
    let with_relas = placed plan.relas.offset with_code (rela_table relas) in
    let with_symbols = placed plan.symbols.offset with_relas (symbol_entries symbols) in
    let with_strings = placed plan.strings.offset with_symbols (string_table symbols) in
    placed plan.headers with_strings (section_headers plan align)

-- the object has at most 1,048,576 bytes: the section headers, its last part, have 320
abbrev pub IsSmall : List ℕ → List PlainSymbol → List PlainRela → Type 0
IsSmall code symbols relas = (plain_plan code symbols relas).headers + 320 ≤ 1048576

-- the relocation is of one of so many symbols, counted from 1
abbrev pub NamesSymbol : ℕ → PlainRela → Type 0
NamesSymbol count rela = (1 ≤ rela.symbol) × (rela.symbol ≤ count)
