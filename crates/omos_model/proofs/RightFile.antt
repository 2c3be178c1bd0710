-- What is right in a file without a fault.
use Rattle.std.proofs.Common.{◌≡◌, ℕ, ◌+◌, ◌-◌, ◌*◌, ◌/◌, ◌≤◌, ◌==◌, Bool, true, false, not}
use Rattle.std.proofs.Common.{◌&&◌, List, [], ◌∷◌, length, Option, Some, None, refl}
use Rattle.std.proofs.Common.{cond, arith}
use Rattle.std.specs.Prelude.{nat_le, nat_lt, slice_get, unwrap_or}
use Rattle.std.specs.List.{find, list_all}
use Rattle.std.specs.Option.{option_map}
use Rattle.std.proofs.lemmas.Bool.{and_parts, not-false, leb-true, cond_both}
use Rattle.omos_model.specs.Numbers.{first_some}
use Rattle.omos_model.specs.ElfFields.{e_shnum, e_shoff, e_shentsize, name_of, sh_size, sections}
use Rattle.omos_model.specs.ElfFields.{symtabs, symbol_count, symbols}
use Rattle.omos_model.specs.ElfFaults.{object_fault, faults, fault_unless, has_headers}
use Rattle.omos_model.specs.ElfFaults.{is_wrong_section, are_right_symtabs}
use Rattle.omos_model.specs.ElfFaults.{is_wrong_symbol, is_again, is_wrong_rela, is_wrong_entry}
use Rattle.omos_model.specs.ElfFaults.{entries}
use Rattle.omos_model.specs.ElfFaults.{has_right_section, has_right_value}
use Rattle.omos_model.specs.ElfFaults.{has_right_common}
use Rattle.omos_model.specs.declared.refusal.ObjectFault.{ObjectFault}
use Rattle.omos_model.specs.declared.refusal.ObjectFault.TheVariants as fault
use Rattle.omos_model.proofs.Ranges.{InRange, find_none, none_found}

abbrev pub IsSectionNumber : List ℕ → ℕ → Type 0
IsSectionNumber file i = InRange 1 (e_shnum file - 1) i

abbrev pub IsSymbolNumber : List ℕ → ℕ → Type 0
IsSymbolNumber file k = InRange 1 (symbol_count file - 1) k

pub record RightFile (file : List ℕ) : Type 0 where
  pub few_sections : e_shnum file ≤ 4096
  pub few_symbols : symbol_count file ≤ 65535
  pub sections : (i : ℕ) → IsSectionNumber file i → is_wrong_section file i ≡ false
  pub symbols : (k : ℕ) → IsSymbolNumber file k → is_wrong_symbol file k ≡ false
  pub names : (k : ℕ) → IsSymbolNumber file k → is_again file k ≡ false
  pub relas : (i : ℕ) → IsSectionNumber file i → is_wrong_rela file i ≡ false
  pub entries : list_all (λ e. not (is_wrong_entry file e)) (entries file) ≡ true

abbrev AreNone : List (Option ObjectFault) → Type 0
AreNone [] = Unit {0}
AreNone (x ∷ xs) = (x ≡ None) × AreNone xs

all_none : (xs : List (Option ObjectFault)) → first_some xs ≡ None → AreNone xs
all_none [] e = tt
all_none (None ∷ xs) e = (refl, all_none xs e)
all_none (Some x ∷ xs) e = cc

fine : (b : Bool) (x : ObjectFault) → fault_unless b x ≡ None → b ≡ true
fine true x e = refl
fine false x e = cc

unmapped : {X Y : Type 0} (f : X → Y) (o : Option X) → option_map f o ≡ None → o ≡ None
unmapped f None e = refl
unmapped f (Some x) e = cc

symbols_bound : (file is : List ℕ) → are_right_symtabs file is ≡ true
    → cond (unwrap_or (slice_get is 0) 0 == 0) 0 (sh_size file (unwrap_or (slice_get is 0) 0) / 24)
    ≤ 65535
symbols_bound file [] h = omega arith
symbols_bound file (i ∷ []) h =
    cond_both (i == 0) 0 (sh_size file i / 24) (λ n. n ≤ 65535) (λ e. omega arith)
    (λ e. leb-true (sh_size file i / 24) 65535
    (and_parts _ _ (and_parts _ _ (and_parts _ _ h).0).0).1)
symbols_bound file (i ∷ j ∷ more) h = cc

pub right_file : (file : List ℕ) → object_fault file ≡ None → RightFile file
unfolding object_fault
right_file file h =
    let headers = all_none (faults file) h in
    let kept = headers.1.1.1 in
    let tables = kept.1.1.1 in
    let named = tables.1 in
    let has =
    and_parts (e_shentsize file == 64 && nat_lt 0 (e_shnum file) && nat_le (e_shnum file) 4096)
    (nat_le (e_shoff file + 64 * e_shnum file) (length file))
    (fine (has_headers file) fault.Headers kept.0) in
    record {
      few_sections =
          leb-true (e_shnum file) 4096
          (and_parts (e_shentsize file == 64 && nat_lt 0 (e_shnum file))
          (nat_le (e_shnum file) 4096) has.0).1;
      few_symbols =
          symbols_bound file (symtabs file)
          (fine (are_right_symtabs file (symtabs file)) fault.Symbols tables.0);
      sections =
          find_none (is_wrong_section file) 1 (e_shnum file - 1)
          (unmapped fault.Section (find (is_wrong_section file) (sections file)) kept.1.0);
      symbols =
          find_none (is_wrong_symbol file) 1 (symbol_count file - 1)
          (unmapped fault.Symbol (find (is_wrong_symbol file) (symbols file)) named.0);
      names = find_none (is_again file) 1 (symbol_count file - 1)
          (unmapped (λ (k : ℕ). fault.Twice (name_of file k)) (find (is_again file) (symbols file))
          named.1.0);
      relas = find_none (is_wrong_rela file) 1 (e_shnum file - 1)
          (unmapped fault.Relas (find (is_wrong_rela file) (sections file)) named.1.1.0);
      entries =
          none_found (is_wrong_entry file) (entries file)
          (unmapped (λ (e : ℕ × ℕ). fault.Rela e.0 e.1) (find (is_wrong_entry file) (entries file))
          named.1.1.1.0);
    }

-- ---- a symbol that is right

pub record RightSymbol (file : List ℕ) (k : ℕ) : Type 0 where
  pub index : has_right_section file k ≡ true
  pub value : has_right_value file k ≡ true
  pub common : has_right_common file k ≡ true

pub right_symbol : (file : List ℕ) → RightFile file → (k : ℕ) → IsSymbolNumber file k
    → RightSymbol file k
right_symbol file right k within =
    let all = not-false _ (right.symbols k within) in
    let a = and_parts _ _ all in
    let b = and_parts _ _ a.0 in
    let c = and_parts _ _ b.0 in
    let d = and_parts _ _ c.0 in
    record { index = d.1; value = c.1; common = b.1 }
