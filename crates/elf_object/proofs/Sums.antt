-- The entries of the used relocation sections, section by section.
use Rattle.std.proofs.Common.{◌≡◌, ℕ, ◌+◌, ◌-◌, ◌<◌, ◌≤◌, ◌==◌, Bool, true, false, not, ◌&&◌, ◌||◌}
use Rattle.std.proofs.Common.{List, [], ◌∷◌, ◌++◌, refl, sym, ap, ◌∙◌, cond}
use Rattle.std.specs.Prelude.{filter}
use Rattle.std.specs.List.{sum_by}
use Rattle.std.proofs.lemmas.Bool.{and_left, and_parts, and_right, eq-eqb, leb-true, lt-ltb}
use Rattle.std.proofs.lemmas.List.{append-nil}
use Rattle.std.proofs.lemmas.List.Sums.{sum_by_push}
use Rattle.omos_model.specs.ElfValues.{sht_rela}
use Rattle.omos_model.specs.Numbers.{numbers_from}
use Rattle.omos_model.specs.ElfFields.{e_shnum, header_at, sh_info, sh_type}
use Rattle.elf_words.specs.Shdr.{shdr_at}
use Rattle.elf_words.specs.declared.shdr.Shdr.{Shdr}
use Rattle.omos_model.specs.ElfFaults.{entries_up_to, entry_count, is_kept, is_right_rela}
use Rattle.omos_model.specs.ElfFaults.{is_used_rela, is_wrong_rela}
use Rattle.omos_model.specs.FragmentParts.{max_entries}
use Rattle.elf_object.proofs.DefinedBelow.{one_more}
use Rattle.elf_object.proofs.Right.{kept_there}

filter_push : (q : ℕ → Bool) (xs : List ℕ) (n : ℕ)
    → filter q (xs ++ n ∷ []) ≡ filter q xs ++ cond (q n) (n ∷ []) []
filter_push q [] n = refl
filter_push q (x ∷ xs) n = go (q x) (filter_push q xs n)
  where
    go : (b : Bool) → filter q (xs ++ n ∷ []) ≡ filter q xs ++ cond (q n) (n ∷ []) []
        → cond b (x ∷ filter q (xs ++ n ∷ [])) (filter q (xs ++ n ∷ []))
        ≡ cond b (x ∷ filter q xs) (filter q xs) ++ cond (q n) (n ∷ []) []
    go true e = ap (λ ys. x ∷ ys) e
    go false e = e

up_to : (file : List ℕ) (i : ℕ) → 1 ≤ i
    → entries_up_to file i
    ≡ sum_by (entry_count file)
    (filter (is_used_rela file) (numbers_from 1 (i - 1)) ++ cond (is_used_rela file i) (i ∷ []) [])
up_to file i h =
    ap (λ ns. sum_by (entry_count file) (filter (is_used_rela file) ns))
    (one_more i h)
    ∙ ap (sum_by (entry_count file)) (filter_push (is_used_rela file) (numbers_from 1 (i - 1)) i)

-- a used section adds its entries
pub with_used : (file : List ℕ) (i before : ℕ) → 1 ≤ i → before ≡ entries_up_to file (i - 1)
    → is_used_rela file i ≡ true → entries_up_to file i ≡ before + entry_count file i
with_used file i before h is used =
    let front = filter (is_used_rela file) (numbers_from 1 (i - 1)) in
    up_to file i h
    ∙ ap (λ b. sum_by (entry_count file) (front ++ cond b (i ∷ []) [])) used
    ∙ sum_by_push (entry_count file) front i
    ∙ ap (λ n. n + entry_count file i) (sym is)

-- any other adds none
pub without_used : (file : List ℕ) (i before : ℕ) → 1 ≤ i → before ≡ entries_up_to file (i - 1)
    → is_used_rela file i ≡ false → before ≡ entries_up_to file i
without_used file i before h is used =
    let front = filter (is_used_rela file) (numbers_from 1 (i - 1)) in
    is ∙ ap (sum_by (entry_count file)) (sym (append-nil front))
    ∙ ap (λ b. sum_by (entry_count file) (front ++ cond b (i ∷ []) [])) (sym used)
    ∙ sym (up_to file i h)

-- ---- what the tests on a section say

pub record IsPassed (file : List ℕ) (i : ℕ) : Type 0 where
  pub right : is_wrong_rela file i ≡ false
  pub unused : is_used_rela file i ≡ false

pub other_kind : (file : List ℕ) (i : ℕ) → (sh_type file i == sht_rela) ≡ false → IsPassed file i
other_kind file i t = record { right = and_left _ _ t; unused = and_left _ _ t }

shape_dropped : (t l k r : Bool) → t ≡ true → l ≡ true → k ≡ false
    → (t && (not l || (t && k && r))) ≡ false
shape_dropped t l k r a b c = rw (a, b, c) refl

shape_right : (t l k r : Bool) → t ≡ true → l ≡ true → k ≡ true → r ≡ true
    → (t && (not l || (t && k && not r))) ≡ false
shape_right t l k r a b c d = rw (a, b, c, d) refl

both : (t k : Bool) → t ≡ true → k ≡ true → (t && k) ≡ true
both t k a b = rw (a, b) refl

pub dropped : (file : List ℕ) (i : ℕ) → (sh_type file i == sht_rela) ≡ true
    → sh_info file i < e_shnum file → is_kept file (sh_info file i) ≡ false → IsPassed file i
dropped file i t low k =
    record {
      right = shape_dropped _ _ _ _ t (lt-ltb (sh_info file i) (e_shnum file) low) k;
      unused = and_right _ _ k;
    }

pub used : (file : List ℕ) (i : ℕ) → (sh_type file i == sht_rela) ≡ true
    → is_kept file (sh_info file i) ≡ true → is_used_rela file i ≡ true
used file i t k = both _ _ t k

pub record IsFine (file : List ℕ) (i : ℕ) : Type 0 where
  pub right : is_wrong_rela file i ≡ false
  pub few : entries_up_to file i ≤ 65535

pub fine : (file : List ℕ) (i : ℕ) → (sh_type file i == sht_rela) ≡ true
    → is_kept file (sh_info file i) ≡ true → is_right_rela file i ≡ true → IsFine file i
fine file i t k r =
    let low = kept_there file (sh_info file i) k in
    record {
      right = shape_right _ _ _ _ t (lt-ltb (sh_info file i) (e_shnum file) low) k r;
      few = leb-true (entries_up_to file i) max_entries (and_parts _ _ r).1;
    }

-- ---- the same of a header that was read

pub is_rela : (file : List ℕ) (i : ℕ) (h : Shdr) → h ≡ shdr_at file (header_at file i)
    → h.sh_type ≡ sht_rela → (sh_type file i == sht_rela) ≡ true
is_rela file i h e is = eq-eqb (sh_type file i) sht_rela (sym (ap (λ (s : Shdr). s.sh_type) e) ∙ is)

pub target : (file : List ℕ) (i : ℕ) (h : Shdr) (b found : Bool)
    → h ≡ shdr_at file (header_at file i) → b ≡ is_kept file h.sh_info → b ≡ found
    → is_kept file (sh_info file i) ≡ found
target file i h b found e is was =
    ap (is_kept file) (sym (ap (λ (s : Shdr). s.sh_info) e)) ∙ sym is ∙ was
