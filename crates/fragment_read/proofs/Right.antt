-- What a file without a fault lets its fragment be read by.
use Rattle.std.proofs.Common.{◌≡◌, ℕ, zero, suc, ◌<◌, ◌≤◌, ◌==◌, Bool, true, false, not}
use Rattle.std.proofs.Common.{◌&&◌, ◌||◌}
use Rattle.std.proofs.Common.{List, [], ◌∷◌, None, refl, sym, ap, subst}
use Rattle.std.proofs.Common.{arith}
use Rattle.std.specs.Prelude.{nat_lt, nat_le}
use Rattle.std.specs.List.{list_all, list_any}
use Rattle.std.proofs.lemmas.Bool.{and_parts, or_parts, not-false, not-true, not_from_true}
use Rattle.std.proofs.lemmas.Bool.{and_from, lt-ltb, leb-true}
use Rattle.std.proofs.lemmas.Bool.{ltb-false, eqb-true, ltb-true}
use Rattle.omos_model.specs.ElfValues.{shn_common}
use Rattle.omos_model.specs.FragmentParts.{is_alignment}
use Rattle.omos_model.specs.ElfFields.{e_shnum, is_section, sh_addralign, sh_size, st_shndx}
use Rattle.omos_model.specs.ElfFields.{st_size}
use Rattle.omos_model.specs.ElfFields.{binding, st_value, symbol_count}
use Rattle.omos_model.specs.ElfFaults.{has_name, has_right_section, is_export, is_kept}
use Rattle.omos_model.specs.ElfFaults.{is_aim_of, is_local, is_of_dropped}
use Rattle.omos_model.specs.ElfFaults.{object_fault}
use Rattle.omos_model.specs.FragmentOf.{is_common}
use Rattle.omos_model.proofs.Joined.{fourth, rest_false, rest_true}
use Rattle.omos_model.proofs.Pieces.{kept_section, section_number}
use Rattle.omos_model.proofs.RightFile.{IsSymbolNumber, right_file, right_symbol}
use Rattle.fragment_read.specs.inside.Numbered.{has_place}

-- ---- alignments

some_at_most : (m a : ℕ) (xs : List ℕ) → list_any (λ b. b == a) xs ≡ true
    → list_all (λ b. nat_le b m) xs ≡ true → a ≤ m
some_at_most m a [] h k = cc
some_at_most m a (x ∷ xs) h k =
    let parts = and_parts (nat_le x m) (list_all (λ b. nat_le b m) xs) k in
    go (x == a) refl (leb-true x m parts.0) (λ rest. some_at_most m a xs rest parts.1)
  where
    go : (b : Bool) → (x == a) ≡ b → x ≤ m → (list_any (λ b. b == a) xs ≡ true → a ≤ m) → a ≤ m
    go true e here more = subst (λ n. n ≤ m) (eqb-true x a e) here
    go false e here more = more (rest_true (x == a) (list_any (λ b. b == a) xs) h e)

abbrev alignments : List ℕ
alignments = 1 ∷ 2 ∷ 4 ∷ 8 ∷ 16 ∷ 32 ∷ 64 ∷ 128 ∷ 256 ∷ 512 ∷ 1024 ∷ 2048 ∷ 4096 ∷ []

pub small_alignment : (a : ℕ) → (a == 0 || is_alignment a) ≡ true → a ≤ 4096
small_alignment a h = go (a == 0) refl
  where
    go : (b : Bool) → (a == 0) ≡ b → a ≤ 4096
    go true e =
        subst (λ n. n ≤ 4096) (sym (eqb-true a 0 e)) (let low : 0 ≤ 4096 = omega arith in low)
    go false e = some_at_most 4096 a alignments (rest_true (a == 0) (is_alignment a) h e) refl

-- ---- sections

pub record KeptSection (file : List ℕ) (i : ℕ) : Type 0 where
  pub there : i < e_shnum file
  pub aligned : (sh_addralign file i == 0 || is_alignment (sh_addralign file i)) ≡ true
  pub small : sh_size file i ≤ 8388608

pub kept_right : (file : List ℕ) (i : ℕ) → object_fault file ≡ None → is_kept file i ≡ true
    → KeptSection file i
kept_right file i right kept =
    let section = kept_section file i kept in
    let wrong = (right_file file right).sections i (section_number file i section) in
    let fine = or_parts _ _ (rest_false (is_kept file i) _ wrong kept) in
    let sized = or_parts _ _ fine.0 in
    record {
      there = ltb-true i (e_shnum file)
          (and_parts (nat_lt 0 i) (nat_lt i (e_shnum file)) section).1;
      aligned = not-false _ sized.0;
      small = ltb-false 8388608 (sh_size file i) sized.1;
    }

-- ---- symbols

pub record CommonSymbol (file : List ℕ) (k : ℕ) : Type 0 where
  pub aligned : (st_value file k == 0 || is_alignment (st_value file k)) ≡ true
  pub small : st_size file k ≤ 8388608

pub number : (file : List ℕ) (k : ℕ) → 1 ≤ k → k < symbol_count file → IsSymbolNumber file k
number file k low high = record { low = low; high = omega arith }

pub common_right : (file : List ℕ) (k : ℕ) → object_fault file ≡ None → 1 ≤ k
    → k < symbol_count file → is_common file k ≡ true → CommonSymbol file k
common_right file k right low high is =
    let symbol = right_symbol file (right_file file right) k (number file k low high) in
    let parts =
    and_parts _ _
    (rest_true (not (st_shndx file k == shn_common)) _ symbol.common (not_from_true _ is)) in
    record {
      aligned = parts.0;
      small = leb-true (st_size file k) 8388608 parts.1;
    }

-- ---- where a symbol stands

-- of a symbol that is a number, a common one, or of a section that is kept if it is one at all
is_place : (a b c d k m : Bool) → (a || b || c || d) ≡ true → a ≡ false → (c ≡ true → m ≡ true)
    → (d && not k) ≡ false → (b || m || k) ≡ true
is_place a true c d k m h x y z = refl
is_place true false c d k m h x y z = cc
is_place false false true d k m h x y z = ap (λ n. n || k) (y refl)
is_place false false false false k m h x y z = cc
is_place false false false true false m h x y z = cc
is_place false false false true true true h x y z = refl
is_place false false false true true false h x y z = refl

-- of four tests the last holds where the others fail
or_assoc_true : (a b c : Bool) → (a || b || c) ≡ true → (a || (b || c)) ≡ true
or_assoc_true true b c h = refl
or_assoc_true false b c h = h

and_false : (a b : Bool) → b ≡ false → (a && b) ≡ false
and_false true b h = h
and_false false b h = refl

pub placed_export : (file : List ℕ) (k : ℕ) → object_fault file ≡ None → 1 ≤ k
    → k < symbol_count file → is_export file k ≡ true → has_place file k ≡ true
placed_export file k right low high is =
    let symbol = right_symbol file (right_file file right) k (number file k low high) in
    let export = and_parts (has_name file k) (not (st_shndx file k == 0)) is in
    let dropped =
    rest_false (has_name file k) (is_of_dropped file k)
    (not-true _ (and_parts _ _ symbol.value).1) export.0 in
    is_place (not (is_local file k) && (st_shndx file k == 0)) (st_shndx file k == 65521)
    ((binding file k == 1) && (st_shndx file k == 65522)) (is_section file (st_shndx file k))
    (is_kept file (st_shndx file k)) (is_common file k) symbol.index
    (and_false (not (is_local file k)) (st_shndx file k == 0)
    (not-true (st_shndx file k == 0) export.1))
    (λ h. (and_parts (binding file k == 1) (st_shndx file k == 65522) h).1)
    dropped

pub local_common : (file : List ℕ) (k : ℕ) → object_fault file ≡ None → 1 ≤ k
    → k < symbol_count file → is_local file k ≡ true → is_common file k ≡ false
local_common file k right low high is = go (is_common file k) refl
  where
    right_section : has_right_section file k ≡ true
    right_section = (right_symbol file (right_file file right) k (number file k low high)).index

    go : (b : Bool) → is_common file k ≡ b → is_common file k ≡ false
    go false e = e
    go true e =
        let index : st_shndx file k ≡ 65522 = eqb-true (st_shndx file k) 65522 e in
        let zero_bound : binding file k ≡ 0 = eqb-true (binding file k) 0 is in
        let a : (not (is_local file k) && (st_shndx file k == 0)) ≡ false =
        and_false (not (is_local file k)) (st_shndx file k == 0) (ap (λ (n : ℕ). n == 0) index) in
        let b : (st_shndx file k == 65521) ≡ false = ap (λ (n : ℕ). n == 65521) index in
        let c : ((binding file k == 1) && (st_shndx file k == 65522)) ≡ false =
        ap (λ (n : ℕ). (n == 1) && (st_shndx file k == 65522)) zero_bound in
        let d : is_section file (st_shndx file k) ≡ true = fourth _ _ _ _ right_section a b c in
        let few = (right_file file right).few_sections in
        let there : st_shndx file k < e_shnum file =
        ltb-true (st_shndx file k) (e_shnum file) (and_parts (nat_lt 0 (st_shndx file k)) _ d).1 in
        absurd (omega (arith, few, there, index))

pub placed_local : (file : List ℕ) (k : ℕ) → object_fault file ≡ None → 1 ≤ k
    → k < symbol_count file → is_local file k ≡ true → is_of_dropped file k ≡ false
    → has_place file k ≡ true
placed_local file k right low high is kept =
    let symbol = right_symbol file (right_file file right) k (number file k low high) in
    let zero_bound : binding file k ≡ 0 = eqb-true (binding file k) 0 is in
    is_place (not (is_local file k) && (st_shndx file k == 0)) (st_shndx file k == 65521)
    ((binding file k == 1) && (st_shndx file k == 65522)) (is_section file (st_shndx file k))
    (is_kept file (st_shndx file k)) (is_common file k) symbol.index
    (ap (λ (b : Bool). not b && (st_shndx file k == 0)) is)
    (λ h. (and_parts (binding file k == 1) (st_shndx file k == 65522) h).1)
    kept

pub record KeptPlace (file : List ℕ) (k : ℕ) : Type 0 where
  pub kept : is_kept file (st_shndx file k) ≡ true
  pub small : st_value file k ≤ 8388608

pub kept_place : (file : List ℕ) (k : ℕ) → object_fault file ≡ None → 1 ≤ k
    → k < symbol_count file → has_place file k ≡ true → (st_shndx file k == 65521) ≡ false
    → is_common file k ≡ false → KeptPlace file k
kept_place file k right low high placed fixed common =
    let symbol = right_symbol file (right_file file right) k (number file k low high) in
    let some =
    rest_true (st_shndx file k == 65521) (is_common file k || is_kept file (st_shndx file k))
    (or_assoc_true (st_shndx file k == 65521) (is_common file k)
    (is_kept file (st_shndx file k)) placed) fixed in
    let kept = rest_true (is_common file k) (is_kept file (st_shndx file k)) some common in
    let within =
    rest_true (not (is_kept file (st_shndx file k)))
    (nat_le (st_value file k) (sh_size file (st_shndx file k)))
    (and_parts _ _ symbol.value).0 (not_from_true _ kept) in
    let size = (kept_right file (st_shndx file k) right kept).small in
    let most : st_value file k ≤ sh_size file (st_shndx file k) =
    leb-true (st_value file k) (sh_size file (st_shndx file k)) within in
    record { kept = kept; small = omega arith }

-- a LOCAL symbol that is aimed at has a place
pub undropped : (file : List ℕ) (k : ℕ) → is_aim_of file k ≡ true → 0 < k
    → is_local file k ≡ true → is_of_dropped file k ≡ false
undropped file k aim some is =
    let kept = (and_parts (nat_lt k (symbol_count file)) _ aim).1 in
    rest_false (nat_lt 0 k && is_local file k) (is_of_dropped file k) (not-true _ kept)
    (and_from (nat_lt 0 k) (is_local file k) (lt-ltb 0 k some) is)

pub aim_there : (file : List ℕ) (k : ℕ) → is_aim_of file k ≡ true → k < symbol_count file
aim_there file k aim =
    ltb-true k (symbol_count file) (and_parts (nat_lt k (symbol_count file)) _ aim).0

-- ---- names

named_binding : (n : ℕ) → nat_le n 2 ≡ true → (n == 0) ≡ false → ((n == 1) || (n == 2)) ≡ true
named_binding zero h e = cc
named_binding (suc zero) h e = refl
named_binding (suc (suc zero)) h e = refl
named_binding (suc (suc (suc n))) h e =
    let most : suc (suc (suc n)) ≤ 2 = leb-true (suc (suc (suc n))) 2 h in absurd (omega arith)

-- a symbol that isn't LOCAL has a name
pub has_name_unless_local : (file : List ℕ) (k : ℕ) → object_fault file ≡ None → 1 ≤ k
    → k < symbol_count file → is_local file k ≡ false → has_name file k ≡ true
has_name_unless_local file k right low high is =
    let all = not-false _ ((right_file file right).symbols k (number file k low high)) in
    let info = (and_parts _ _ (and_parts _ _ (and_parts _ _ (and_parts _ _ all).0).0).0).0 in
    named_binding (binding file k) (and_parts (nat_le (binding file k) 2) _ info).0 is
