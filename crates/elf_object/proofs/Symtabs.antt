-- The one symbol table of a file.
use Rattle.std.proofs.Common.{◌≡◌, ℕ, ◌+◌, ◌*◌, ◌/◌, ◌<◌, ◌≤◌, ◌==◌, true, false}
use Rattle.std.proofs.Common.{List, [], ◌∷◌, length, sym, ap, ◌∙◌, arith}
use Rattle.std.specs.Prelude.{nat_lt, slice_get, unwrap_or}
use Rattle.std.specs.List.{list_all}
use Rattle.std.proofs.lemmas.Bool.{and_parts, cond-false, eqb-true, false_from_ne_true, leb-true}
use Rattle.std.proofs.lemmas.Bool.{ltb-true}
use Rattle.omos_model.specs.ElfFields.{e_shnum, is_section, is_symtab, section_bytes}
use Rattle.omos_model.specs.ElfFields.{sh_link, sh_offset, sh_size, symbol_table, symtabs}
use Rattle.omos_model.specs.ElfFaults.{are_right_symtabs, is_right_symtab}
use Rattle.omos_model.proofs.Ranges.{all_filtered}
use Rattle.elf_object.specs.TablesOf.{AreSymbols}

pub record IsTheTable (file : List ℕ) (table : ℕ) : Type 0 where
  pub counted : 0 < table
  pub there : table < e_shnum file
  pub first : symbol_table file ≡ table

pub the_table : (file : List ℕ) (table : ℕ) → symtabs file ≡ table ∷ [] → IsTheTable file table
the_table file table e =
    let all = all_filtered (is_symtab file) (is_symtab file) 1 _ (λ _ _ h. h) in
    let symtab = (and_parts (is_symtab file table) true
    (sym (ap (list_all (is_symtab file)) e) ∙ all)).0 in
    let both = and_parts (nat_lt 0 table) _ (and_parts (is_section file table) _ symtab).0 in
    record {
      counted = ltb-true 0 table both.0;
      there = ltb-true table (e_shnum file) both.1;
      first = ap (λ xs. unwrap_or (slice_get xs 0) 0) e;
    }

nonzero : (n : ℕ) → 0 < n → (n == 0) ≡ false
nonzero n h =
    false_from_ne_true _ (λ e. let z : n ≡ 0 = eqb-true n 0 e in absurd (omega (arith, h, z)))

-- whole entries end where their section ends, or before
pub entries_end : (offset size end : ℕ) → offset + size ≤ end → offset + 24 * (size / 24) ≤ end
entries_end offset size end h = omega (arith, h)

pub symbols_of_table : (file : List ℕ) (table : ℕ) → symtabs file ≡ table ∷ []
    → is_right_symtab file table ≡ true
    → AreSymbols file (sh_size file table / 24) (sh_offset file table)
    (section_bytes file (sh_link file table))
symbols_of_table file table e right =
    let the = the_table file table e in
    let a = and_parts _ _ (and_parts _ _ right).0 in
    let inside : sh_offset file table + sh_size file table ≤ length file =
    leb-true _ (length file) a.1 in
    record {
      counted = rw the.first (sym (cond-false (table == 0) 0 (sh_size file table / 24)
          (nonzero table the.counted)));
      begins = λ _. ap (sh_offset file) (sym the.first);
      inside = entries_end (sh_offset file table) (sh_size file table) (length file) inside;
      named = λ _. ap (λ t. section_bytes file (sh_link file t)) (sym the.first);
    }

pub right_one : (file : List ℕ) (table : ℕ) → symtabs file ≡ table ∷ []
    → is_right_symtab file table ≡ true → are_right_symtabs file (symtabs file) ≡ true
right_one file table e right = ap (are_right_symtabs file) e ∙ right
