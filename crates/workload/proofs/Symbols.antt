-- The tables of symbols and names, as far as they are written.
use Rattle.std.proofs.Common.{◌≡◌, ℕ, ◌+◌, ◌<◌, ◌≤◌, List, [], ◌∷◌, ◌++◌, length, get_or}
use Rattle.std.proofs.Common.{drop, refl, suc, append_assoc, add-one, length-append, drop-cons}
use Rattle.std.proofs.Common.{arith, ap, sym, ◌∙◌}
use Rattle.std.proofs.lemmas.List.{append-nil, drop_all}
use Rattle.elf_words.specs.Sym.{sym_bytes}
use Rattle.workload.specs.declared.plain.PlainSymbol.{PlainSymbol}
use Rattle.workload.specs.Tables.{terminated, string_table, sym_of, symbols_from}
use Rattle.workload.specs.Tables.{symbol_entries}

-- the tables of so many symbols, of which the rest are still to come
pub record Stand (symbols : List PlainSymbol) (count : ℕ) (table strings : List ℕ) : Type 0 where
  pub table_to_come :
      table ++ symbols_from (length strings) (drop count symbols) ≡ symbol_entries symbols
  pub strings_to_come : strings ++ terminated (drop count symbols) ≡ string_table symbols

-- before the first symbol
pub stand_first : (symbols : List PlainSymbol) (table strings : List ℕ)
    → table ++ symbols_from 1 symbols ≡ symbol_entries symbols → strings ≡ 0 ∷ []
    → Stand symbols 0 table strings
stand_first symbols table strings same first =
    rw first record { table_to_come = same; strings_to_come = refl }

-- one symbol more
pub stand_more : (symbols : List PlainSymbol) (count : ℕ) (symbol : PlainSymbol)
    (table strings : List ℕ)
    → count < length symbols → symbol ≡ get_or symbols count symbol
    → Stand symbols count table strings
    → Stand symbols (count + 1) (table ++ sym_bytes (sym_of (length strings) symbol.offset))
    ((strings ++ symbol.name) ++ 0 ∷ [])
stand_more symbols count symbol table strings within is before =
    let here : drop count symbols ≡ symbol ∷ drop (count + 1) symbols =
    rw add-one (drop-cons symbols count symbol within
    ∙ ap (λ (s : PlainSymbol). s ∷ drop (suc count) symbols) (sym is)) in
    let named : List ℕ = strings ++ symbol.name in
    let long : length (named ++ 0 ∷ []) ≡ length strings + length symbol.name + 1 =
    omega (arith, length-append named (0 ∷ []), length-append strings symbol.name) in
    let rest : List ℕ = terminated (drop (count + 1) symbols) in
    record {
      table_to_come = rw (long, append_assoc) (rw here at before.table_to_come);
      strings_to_come =
          ap (λ (l : List ℕ). l ++ rest) (append_assoc strings symbol.name (0 ∷ []))
          ∙ append_assoc strings (symbol.name ++ 0 ∷ []) rest
          ∙ (rw here at before.strings_to_come);
    }

-- after the last
pub stood_table : (symbols : List PlainSymbol) (count : ℕ) (table strings : List ℕ)
    → length symbols ≤ count → Stand symbols count table strings → table ≡ symbol_entries symbols
stood_table symbols count table strings all s =
    sym (append-nil table) ∙ (rw (drop_all count symbols all) at s.table_to_come)

pub stood_strings : (symbols : List PlainSymbol) (count : ℕ) (table strings : List ℕ)
    → length symbols ≤ count → Stand symbols count table strings → strings ≡ string_table symbols
stood_strings symbols count table strings all s =
    sym (append-nil strings) ∙ (rw (drop_all count symbols all) at s.strings_to_come)

-- the names so far are no longer than all of them
pub names_fit : (symbols : List PlainSymbol) (count : ℕ) (table strings : List ℕ)
    → Stand symbols count table strings → length strings ≤ length (string_table symbols)
names_fit symbols count table strings s =
    let rest : List ℕ = terminated (drop count symbols) in
    omega (arith, length-append strings rest, ap length s.strings_to_come)
