-- Runs of numbers as they grow by one.
use Rattle.std.proofs.Common.{◌≡◌, ℕ, zero, suc, ◌+◌, ◌-◌, ◌≤◌, Bool, true, false, List, [], ◌∷◌}
use Rattle.std.proofs.Common.{◌++◌, Option, None}
use Rattle.std.proofs.Common.{refl, ap, ◌∙◌, cond, length, map, arith}
use Rattle.std.specs.Prelude.{filter}
use Rattle.std.proofs.lemmas.List.{append-nil, map-append}
use Rattle.std.specs.List.{cons_option, count_by, filter_map, flat_map}
use Rattle.std.proofs.lemmas.Grind.{flat_map-append}
use Rattle.std.proofs.lemmas.List.Elements.{filter-append, filter_map-append}
use Rattle.std.proofs.lemmas.List.Sums.{count_by-le-length, sum_by_push}
use Rattle.omos_model.specs.ElfFaults.{is_kept, object_fault}
use Rattle.omos_model.specs.ElfFields.{e_shnum}
use Rattle.omos_model.specs.FragmentOf.{common_piece, is_common, kept_sections, section_piece}
use Rattle.omos_model.proofs.Ranges.{length-numbers_from, length_filtered}
use Rattle.omos_model.proofs.RightFile.{right_file}
use Rattle.omos_model.specs.Numbers.{numbers_from}

-- one number more
numbers_from-last : (s c : ℕ) → numbers_from s (c + 1) ≡ numbers_from s c ++ (s + c) ∷ []
numbers_from-last s zero =
    let e : s ≡ s + zero = omega arith in ap (λ n. n ∷ []) e
numbers_from-last s (suc c) =
    let d : suc c + 1 ≡ suc (c + 1) = omega arith in
    let e : s + 1 + c ≡ s + suc c = omega arith in
    ap (numbers_from s) d
    ∙ ap (λ ns. s ∷ ns) (numbers_from-last (s + 1) c ∙ ap (λ n. numbers_from (s + 1) c ++ n ∷ []) e)

-- the numbers from 1 below i, and i
pub up_to : (i : ℕ) → 1 ≤ i → numbers_from 1 (i + 1 - 1) ≡ numbers_from 1 (i - 1) ++ i ∷ []
up_to i h =
    let e : i + 1 - 1 ≡ i - 1 + 1 = omega arith in
    let f : 1 + (i - 1) ≡ i = omega arith in
    ap (numbers_from 1) e ∙ numbers_from-last 1 (i - 1)
    ∙ ap (λ n. numbers_from 1 (i - 1) ++ n ∷ []) f

module _ {X : Type 0} (p : ℕ → Bool) (f : ℕ → X) where
  -- a number that passes is added to those that do
  pub pick_more : (i : ℕ) → 1 ≤ i → p i ≡ true
      → map f (filter p (numbers_from 1 (i + 1 - 1)))
      ≡ map f (filter p (numbers_from 1 (i - 1))) ++ f i ∷ []
  pick_more i h e =
      ap (λ ns. map f (filter p ns)) (up_to i h)
      ∙ ap (map f) (filter-append p (numbers_from 1 (i - 1)) (i ∷ [])
      ∙ ap (λ b. filter p (numbers_from 1 (i - 1)) ++ cond b (i ∷ []) []) e)
      ∙ map-append f (filter p (numbers_from 1 (i - 1))) (i ∷ [])

  -- and one that doesn't leaves them
  pub pick_none : (i : ℕ) → 1 ≤ i → p i ≡ false
      → map f (filter p (numbers_from 1 (i + 1 - 1))) ≡ map f (filter p (numbers_from 1 (i - 1)))
  pick_none i h e =
      ap (λ ns. map f (filter p ns)) (up_to i h)
      ∙ ap (map f) (filter-append p (numbers_from 1 (i - 1)) (i ∷ [])
      ∙ ap (λ b. filter p (numbers_from 1 (i - 1)) ++ cond b (i ∷ []) []) e)
      ∙ ap (map f) (append-nil (filter p (numbers_from 1 (i - 1))))

-- ---- counts

pub count_more : (p : ℕ → Bool) (i : ℕ) → 1 ≤ i
    → count_by p (numbers_from 1 (i + 1 - 1)) ≡ count_by p (numbers_from 1 (i - 1)) + cond (p i) 1 0
count_more p i h = ap (count_by p) (up_to i h)
    ∙ sum_by_push (λ n. cond (p n) 1 0) (numbers_from 1 (i - 1)) i

pub count_bound : (p : ℕ → Bool) (c : ℕ) → count_by p (numbers_from 1 c) ≤ c
count_bound p c = omega (arith, count_by-le-length p (numbers_from 1 c), length-numbers_from 1 c)

-- a section that is kept is counted for those after it
pub section_piece_more : (file : List ℕ) (i : ℕ)
    → section_piece file (i + 1) ≡ section_piece file i + cond (is_kept file i) 1 0
section_piece_more file zero = refl
section_piece_more file (suc n) = count_more (is_kept file) (suc n) (omega arith)

pub common_piece_more : (file : List ℕ) (k : ℕ) → 1 ≤ k
    → common_piece file (k + 1) ≡ common_piece file k + cond (is_common file k) 1 0
common_piece_more file k h =
    ap (λ n. length (kept_sections file) + n) (count_more (is_common file) k h) ∙ omega arith

-- fewer than 4,096 sections are kept
pub few_kept : (file : List ℕ) → object_fault file ≡ None → common_piece file 1 ≤ 4096
few_kept file right =
    omega (
      arith,
      length_filtered (is_kept file) 1 (e_shnum file - 1),
      (right_file file right).few_sections,
    )

-- ---- fixups

module _ {X : Type 0} (f : ℕ × ℕ → Option X) (i : ℕ) where
  abbrev pub made : ℕ → List X
  made j = filter_map f (map (λ j. (i, j)) (numbers_from 0 j))

  pub made_more : (j : ℕ) → made (j + 1) ≡ made j ++ cons_option (f (i, j)) []
  made_more j =
      let e : 0 + j ≡ j = omega arith in
      ap (λ ns. filter_map f (map (λ j. (i, j)) ns))
      (numbers_from-last 0 j ∙ ap (λ n. numbers_from 0 j ++ n ∷ []) e)
      ∙ ap (filter_map f) (map-append (λ j. (i, j)) (numbers_from 0 j) (j ∷ []))
      ∙ filter_map-append f (map (λ j. (i, j)) (numbers_from 0 j)) ((i, j) ∷ [])

module _ {X : Type 0} (f : ℕ × ℕ → Option X) (used : ℕ → Bool) (count : ℕ → ℕ) where
  abbrev pub row : ℕ → List (ℕ × ℕ)
  row i = map (λ j. (i, j)) (numbers_from 0 (count i))

  pub rows_more : (i : ℕ) → 1 ≤ i → used i ≡ true
      → filter_map f (flat_map row (filter used (numbers_from 1 (i + 1 - 1))))
      ≡ filter_map f (flat_map row (filter used (numbers_from 1 (i - 1)))) ++ filter_map f (row i)
  rows_more i h e =
      let before = filter used (numbers_from 1 (i - 1)) in
      ap (λ ns. filter_map f (flat_map row (filter used ns))) (up_to i h)
      ∙ ap (λ ns. filter_map f (flat_map row ns))
      (filter-append used (numbers_from 1 (i - 1)) (i ∷ [])
      ∙ ap (λ b. before ++ cond b (i ∷ []) []) e)
      ∙ ap (filter_map f) (flat_map-append row before (i ∷ [])
      ∙ ap (λ es. flat_map row before ++ es) (append-nil (row i)))
      ∙ filter_map-append f (flat_map row before) (row i)

  pub rows_none : (i : ℕ) → 1 ≤ i → used i ≡ false
      → filter_map f (flat_map row (filter used (numbers_from 1 (i + 1 - 1))))
      ≡ filter_map f (flat_map row (filter used (numbers_from 1 (i - 1))))
  rows_none i h e =
      let before = filter used (numbers_from 1 (i - 1)) in
      ap (λ ns. filter_map f (flat_map row (filter used ns))) (up_to i h)
      ∙ ap (λ ns. filter_map f (flat_map row ns))
      (filter-append used (numbers_from 1 (i - 1)) (i ∷ [])
      ∙ ap (λ b. before ++ cond b (i ∷ []) []) e ∙ append-nil before)
