-- What a file without a fault lets its tables be read by.
use Rattle.std.proofs.Common.{◌≡◌, ℕ, ◌+◌, ◌<◌, ◌≤◌, ◌==◌, true, false, not}
use Rattle.std.proofs.Common.{List, None, length, arith}
use Rattle.std.proofs.lemmas.Bool.{and_parts, or_parts, not-false, ltb-true, leb-true}
use Rattle.std.proofs.lemmas.Bool.{not_from_false, not_from_true}
use Rattle.omos_model.specs.ElfValues.{sht_rela}
use Rattle.omos_model.specs.Names.{is_symbol_name}
use Rattle.omos_model.specs.ElfFields.{e_shnum, is_section, name_of, sh_info, sh_offset, sh_size}
use Rattle.omos_model.specs.ElfFields.{sh_type}
use Rattle.omos_model.specs.ElfFields.{symbol_count}
use Rattle.omos_model.specs.ElfFaults.{has_name, is_kept, is_nobits, is_used_rela, lies_in_file}
use Rattle.omos_model.specs.ElfFaults.{is_right_rela, is_wrong_rela, is_wrong_symbol, object_fault}
use Rattle.elf_object.specs.Stages.{IsReadable}
use Rattle.omos_model.proofs.Joined.{rest_false, rest_true}
use Rattle.omos_model.proofs.Pieces.{section_number}
use Rattle.omos_model.proofs.RightFile.{IsSymbolNumber, right_file}

-- ---- sections

pub section_there : (file : List ℕ) (i : ℕ) → is_section file i ≡ true → i < e_shnum file
section_there file i h = ltb-true i (e_shnum file) (and_parts _ _ h).1

pub kept_there : (file : List ℕ) (i : ℕ) → is_kept file i ≡ true → i < e_shnum file
kept_there file i h = section_there file i (and_parts _ _ (and_parts _ _ h).0).0

-- a kept section that isn't NOBITS lies in the file
pub kept_inside : (file : List ℕ) (i : ℕ) → object_fault file ≡ None → is_kept file i ≡ true
    → is_nobits file i ≡ false → lies_in_file file i ≡ true
kept_inside file i right kept bits =
    let section = (and_parts _ _ (and_parts _ _ kept).0).0 in
    let fine = rest_false (is_kept file i) _
    ((right_file file right).sections i (section_number file i section)) kept in
    not-false _ (rest_false (not (is_nobits file i)) (not (lies_in_file file i))
    (or_parts _ _ fine).1 (not_from_false _ bits))

-- ---- relocations

-- a used section that isn't wrong can be read
pub readable : (file : List ℕ) (i : ℕ) → i < e_shnum file → is_wrong_rela file i ≡ false
    → is_used_rela file i ≡ true → IsReadable file i
readable file i there right used =
    let parts = and_parts (sh_type file i == sht_rela) _ used in
    let fine = rest_false (sh_type file i == sht_rela) _ right parts.0 in
    let all = not-false _ (rest_false (is_used_rela file i) (not (is_right_rela file i))
    (or_parts _ _ fine).1 used) in
    let a = and_parts _ _ (and_parts _ _ (and_parts _ _ all).0).0 in
    record {
      there = there;
      target = kept_there file (sh_info file i) parts.1;
      inside = leb-true (sh_offset file i + sh_size file i) (length file) (and_parts _ _ a.0).1;
    }

pub used_inside : (file : List ℕ) (i : ℕ) → object_fault file ≡ None → is_section file i ≡ true
    → is_used_rela file i ≡ true → IsReadable file i
used_inside file i right section used =
    readable file i (section_there file i section)
    ((right_file file right).relas i (section_number file i section)) used

-- ---- symbols

-- the name of a symbol that has one is a symbol name
pub lawful_name : (file : List ℕ) (k : ℕ) → is_wrong_symbol file k ≡ false
    → has_name file k ≡ true → is_symbol_name (name_of file k) ≡ true
lawful_name file k right has =
    let all = not-false _ right in
    (and_parts _ _ (rest_true (not (has_name file k)) _ (and_parts _ _ all).1
    (not_from_true _ has))).1

pub named : (file : List ℕ) (k : ℕ) → object_fault file ≡ None → 1 ≤ k → k < symbol_count file
    → has_name file k ≡ true → is_symbol_name (name_of file k) ≡ true
named file k right low high has =
    let number : IsSymbolNumber file k = record { low = low; high = omega arith } in
    lawful_name file k ((right_file file right).symbols k number) has
