-- The relocations of a file without a fault, one by one.
use Rattle.std.proofs.Common.{◌≡◌, ℕ, zero, suc, ◌+◌, ◌-◌, ◌<◌, ◌≤◌, ◌==◌, Bool, true, false, not}
use Rattle.std.proofs.Common.{List, ◌∷◌, Option, Some, None, refl, sym, ap, ◌∙◌, subst, cond}
use Rattle.std.proofs.Common.{map, arith}
use Rattle.std.specs.Prelude.{nat_le, filter}
use Rattle.std.specs.Option.{option_map_or}
use Rattle.std.specs.List.{flat_map, list_all}
use Rattle.std.proofs.lemmas.Bool.{and_parts, not-false, not-true}
use Rattle.std.proofs.lemmas.Bool.{not_from_false, true≢false, leb-true}
use Rattle.std.proofs.lemmas.Bool.{eqb-true, eqb-false}
use Rattle.std.proofs.lemmas.List.Folds.{list_all-append}
use Rattle.omos_model.specs.FragmentParts.{width}
use Rattle.omos_model.specs.declared.fragment.Kind.{Kind}
use Rattle.omos_model.specs.ElfFields.{e_shnum, is_section, sh_size}
use Rattle.omos_model.specs.ElfFields.{r_offset, r_sym, r_type, sh_info, sh_type}
use Rattle.omos_model.specs.Numbers.{numbers_from}
use Rattle.omos_model.specs.ElfFaults.{entry_count, is_kept}
use Rattle.omos_model.specs.ElfFaults.{is_aim_of, is_in_target}
use Rattle.omos_model.specs.ElfFaults.{is_used_rela, is_wrong_entry, kind_of, object_fault}
use Rattle.omos_model.proofs.Joined.{rest_false}
use Rattle.omos_model.proofs.Pieces.{section_number}
use Rattle.omos_model.proofs.Ranges.{InRange}
use Rattle.omos_model.proofs.RightFile.{right_file}
use Rattle.fragment_read.proofs.Right.{kept_right}

-- ---- relocations

in_row : (t : ℕ × ℕ → Bool) (i s c j : ℕ) → list_all t (map (λ j. (i, j)) (numbers_from s c)) ≡ true
    → InRange s c j → t (i, j) ≡ true
in_row t i s zero j h within =
    let low = within.low in let high = within.high in absurd (omega arith)
in_row t i s (suc c) j h within =
    let parts = and_parts (t (i, s)) (list_all t (map (λ j. (i, j)) (numbers_from (s + 1) c))) h in
    go (s == j) refl parts.0 (λ later. in_row t i (s + 1) c j parts.1 later)
  where
    go : (b : Bool) → (s == j) ≡ b → t (i, s) ≡ true → (InRange (s + 1) c j → t (i, j) ≡ true)
        → t (i, j) ≡ true
    go true e here more = subst (λ n. t (i, n) ≡ true) (eqb-true s j e) here
    go false e here more =
        let apart = eqb-false s j e in
        let low = within.low in
        let high = within.high in
        more (record { low = omega arith; high = omega arith })

in_rows : (t : ℕ × ℕ → Bool) (used : ℕ → Bool) (count : ℕ → ℕ) (s c i j : ℕ)
    → list_all t
    (flat_map (λ i. map (λ j. (i, j)) (numbers_from 0 (count i)))
    (filter used (numbers_from s c))) ≡ true
    → InRange s c i → used i ≡ true → j < count i → t (i, j) ≡ true
in_rows t used count s zero i j h within is less =
    let low = within.low in let high = within.high in absurd (omega arith)
in_rows t used count s (suc c) i j h within is less =
    step (used s) refl h (λ rest later. in_rows t used count (s + 1) c i j rest later is less)
  where
    row : ℕ → List (ℕ × ℕ)
    row i = map (λ j. (i, j)) (numbers_from 0 (count i))

    later : (s ≡ i → ⊥) → InRange (s + 1) c i
    later apart =
        let low = within.low in
        let high = within.high in record { low = omega arith; high = omega arith }

    go : (b : Bool) → (s == i) ≡ b → list_all t (row s) ≡ true
        → (InRange (s + 1) c i → t (i, j) ≡ true)
        → t (i, j) ≡ true
    go true e here more =
        subst (λ n. t (n, j) ≡ true) (eqb-true s i e)
        (let mine : j < count s = subst (λ n. j < count n) (sym (eqb-true s i e)) less in
        in_row t s 0 (count s) j here (record { low = omega arith; high = omega arith }))
    go false e here more = more (later (eqb-false s i e))

    step : (b : Bool) → used s ≡ b
        → list_all t
        (flat_map row
        (cond b (s ∷ filter used (numbers_from (s + 1) c))
        (filter used (numbers_from (s + 1) c)))) ≡ true
        → (list_all t (flat_map row (filter used (numbers_from (s + 1) c))) ≡ true
        → InRange (s + 1) c i → t (i, j) ≡ true)
        → t (i, j) ≡ true
    step false e k more = more k (later (λ same. true≢false (sym is ∙ ap used (sym same) ∙ e)))
    step true e k more =
        let parts =
        and_parts (list_all t (row s))
        (list_all t (flat_map row (filter used (numbers_from (s + 1) c))))
        (sym (list_all-append t (row s) (flat_map row (filter used (numbers_from (s + 1) c))))
        ∙ k) in
        go (s == i) refl parts.0 (more parts.1)

-- an entry of a used section is right
pub entry_right : (file : List ℕ) (i j : ℕ) → object_fault file ≡ None → is_section file i ≡ true
    → is_used_rela file i ≡ true → j < entry_count file i → is_wrong_entry file (i, j) ≡ false
entry_right file i j right section used less =
    let n = section_number file i section in
    not-true _
    (in_rows (λ e. not (is_wrong_entry file e)) (is_used_rela file) (entry_count file) 1
    (e_shnum file - 1) i j
    (right_file file right).entries n used less)

-- ---- one entry

pub record RightEntry (file : List ℕ) (i j : ℕ) : Type 0 where
  pub aim : is_aim_of file (r_sym file i j) ≡ true
  pub offset : r_offset file i j ≤ 8388608

-- an entry with a kind isn't NONE
isnt_none : (n : ℕ) (kind : Kind) → kind_of n ≡ Some kind → (n == 0) ≡ false
isnt_none n kind h = go (n == 0) refl
  where
    go : (b : Bool) → (n == 0) ≡ b → (n == 0) ≡ false
    go false e = e
    go true e = let none : kind_of n ≡ None = ap kind_of (eqb-true n 0 e) in cc

in_target : (o : Option Kind) (kind : Kind) (offset size : ℕ) → o ≡ Some kind
    → option_map_or (λ kind. nat_le (offset + width kind) size) o false ≡ true → offset ≤ size
in_target None kind offset size e h = cc
in_target (Some x) kind offset size e h =
    let most : offset + width x ≤ size = leb-true (offset + width x) size h in omega arith

pub right_entry : (file : List ℕ) (i j : ℕ) (kind : Kind) → object_fault file ≡ None
    → is_section file i ≡ true → is_used_rela file i ≡ true → j < entry_count file i
    → kind_of (r_type file i j) ≡ Some kind → RightEntry file i j
right_entry file i j kind right section used less is =
    let wrong = entry_right file i j right section used less in
    let some = isnt_none (r_type file i j) kind is in
    let fine =
    not-false _ (rest_false (not (r_type file i j == 0)) _ wrong (not_from_false _ some)) in
    let parts = and_parts (is_in_target file i j) (is_aim_of file (r_sym file i j)) fine in
    let target = (and_parts (sh_type file i == 4) (is_kept file (sh_info file i)) used).1 in
    let size = (kept_right file (sh_info file i) right target).small in
    let within =
    in_target (kind_of (r_type file i j)) kind (r_offset file i j)
    (sh_size file (sh_info file i)) is parts.0 in
    record { aim = parts.1; offset = omega arith }
