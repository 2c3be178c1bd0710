-- The pieces of a file without a fault, and where each is.
use Rattle.std.proofs.Common.{◌≡◌, ℕ, zero, suc, ◌+◌, ◌-◌, ◌<◌, ◌≤◌, ◌==◌, Bool, true, false, not}
use Rattle.std.proofs.Common.{◌&&◌, ◌||◌, List, [], ◌∷◌, ◌++◌, length, drop, Some}
use Rattle.std.proofs.Common.{refl, sym, ap, ◌∙◌, cond, map, arith, length-append}
use Rattle.std.proofs.Common.{length-drop}
use Rattle.std.specs.Prelude.{nat_le, nat_lt, slice_get, filter}
use Rattle.std.specs.List.{list_all, count_by}
use Rattle.std.specs.Option.{option_map}
use Rattle.std.proofs.lemmas.Bool.{and_parts, and_from, or_parts, not-false, leb-true}
use Rattle.std.proofs.lemmas.Bool.{ltb-true, ltb-false, le-leb, eq-eqb}
use Rattle.std.proofs.lemmas.List.{length-take-le}
use Rattle.std.proofs.lemmas.List.Folds.{list_all-append, list_all-map}
use Rattle.std.proofs.lemmas.List.Sums.{length-filter}
use Rattle.omos_model.specs.FragmentParts.{is_piece, is_alignment, is_zeros}
use Rattle.omos_model.specs.Numbers.{numbers_from}
use Rattle.omos_model.specs.ElfFields.{e_shnum, sh_size, sh_offset, sh_addralign, section_bytes}
use Rattle.omos_model.specs.ElfFields.{has_flag, is_section, symbols, symbol_count}
use Rattle.omos_model.specs.ElfFields.{st_value, st_size}
use Rattle.omos_model.specs.ElfFaults.{is_kept, is_alloc, is_supported, is_nobits, lies_in_file}
use Rattle.omos_model.specs.FragmentOf.{alignment_of, piece_of_section, piece_of_common, is_common}
use Rattle.omos_model.specs.FragmentOf.{kept_sections, pieces_of, section_piece, common_piece}
use Rattle.omos_model.specs.declared.fragment.Group.TheVariants.{Code, Consts, Vars, Zeros}
use Rattle.omos_model.proofs.Ranges.{InRange, all_filtered, at_filtered, length_filtered}
use Rattle.omos_model.proofs.Ranges.{length-map}
use Rattle.omos_model.proofs.RightFile.{RightFile, IsSectionNumber, IsSymbolNumber}
use Rattle.omos_model.proofs.RightFile.{right_symbol}
use Rattle.omos_model.proofs.TermLaws.{slice_get-map}

-- ---- numbers

pub section_number : (file : List ℕ) (i : ℕ) → is_section file i ≡ true → IsSectionNumber file i
section_number file i h =
    let parts = and_parts (nat_lt 0 i) (nat_lt i (e_shnum file)) h in
    let low : 0 < i = ltb-true 0 i parts.0 in
    let high : i < e_shnum file =
    ltb-true i (e_shnum file) parts.1 in record { low = omega arith; high = omega arith }

pub kept_section : (file : List ℕ) (i : ℕ) → is_kept file i ≡ true → is_section file i ≡ true
kept_section file i h =
    (and_parts (is_section file i) (is_alloc file i)
    (and_parts (is_section file i && is_alloc file i) (is_supported file i) h).0).0

-- ---- each piece is one

pub loaded : (x w : Bool) → is_zeros (cond x Code (cond w Vars Consts)) ≡ false
loaded true w = refl
loaded false true = refl
loaded false false = refl

aligned : (a : ℕ) → (a == 0 || is_alignment a) ≡ true → is_alignment (alignment_of a) ≡ true
aligned a h = go (a == 0) h
  where
    go : (b : Bool) → (b || is_alignment a) ≡ true → is_alignment (cond b 1 a) ≡ true
    go true e = refl
    go false e = e

filled : (file : List ℕ) (i : ℕ) → lies_in_file file i ≡ true
    → length (section_bytes file i) ≡ sh_size file i
filled file i h =
    let end : sh_offset file i + sh_size file i ≤ length file =
    leb-true (sh_offset file i + sh_size file i) (length file) h in
    length-take-le (sh_size file i) (drop (sh_offset file i) file)
    (omega (arith, length-drop (sh_offset file i) file, end))

section_is_piece : (file : List ℕ) → RightFile file → (i : ℕ) → is_kept file i ≡ true
    → is_piece (piece_of_section file i) ≡ true
section_is_piece file right i h =
    let fine =
    or_parts (not (sh_addralign file i == 0 || is_alignment (sh_addralign file i))
    || nat_lt 8388608 (sh_size file i)) (not (is_nobits file i) && not (lies_in_file file i))
    (rw h at (right.sections i (section_number file i (kept_section file i h)))) in
    let small =
    or_parts (not (sh_addralign file i == 0 || is_alignment (sh_addralign file i)))
    (nat_lt 8388608 (sh_size file i)) fine.0 in
    and_from _ _
    (and_from _ _ (le-leb (sh_size file i) 8388608 (ltb-false 8388608 (sh_size file i) small.1))
    (aligned (sh_addralign file i) (not-false _ small.0)))
    (bytes (is_nobits file i) refl fine.1)
  where
    bytes : (b : Bool) → is_nobits file i ≡ b → (not b && not (lies_in_file file i)) ≡ false
        → (length (cond b [] (section_bytes file i)) == cond
        (is_zeros
        (cond b Zeros (cond (has_flag file i 4) Code (cond (has_flag file i 1) Vars Consts)))) 0
        (sh_size file i)) ≡ true
    bytes true e k = refl
    bytes false e k =
        rw (loaded (has_flag file i 4) (has_flag file i 1))
        (eq-eqb (length (section_bytes file i)) (sh_size file i)
        (filled file i (not-false (lies_in_file file i) k)))

symbol_is_piece : (file : List ℕ) → RightFile file → (k : ℕ) → IsSymbolNumber file k
    → is_common file k ≡ true → is_piece (piece_of_common file k) ≡ true
symbol_is_piece file right k within h =
    let common = (right_symbol file right k within).common in
    let parts =
    and_parts (st_value file k == 0 || is_alignment (st_value file k))
    (nat_le (st_size file k) 8388608) (rw h at common) in
    and_from _ _ (and_from _ _ parts.1 (aligned (st_value file k) parts.0)) refl

pub are_pieces : (file : List ℕ) → RightFile file → list_all is_piece (pieces_of file) ≡ true
are_pieces file right =
    list_all-append is_piece (map (piece_of_section file) (kept_sections file))
    (map (piece_of_common file) (filter (is_common file) (symbols file)))
    ∙ and_from _ _
    (list_all-map is_piece (piece_of_section file) (kept_sections file)
    ∙ all_filtered (is_kept file) (λ i. is_piece (piece_of_section file i)) 1 (e_shnum file - 1)
    (λ i within h. section_is_piece file right i h))
    (list_all-map is_piece (piece_of_common file) (filter (is_common file) (symbols file))
    ∙ all_filtered (is_common file) (λ k. is_piece (piece_of_common file k)) 1
    (symbol_count file - 1) (symbol_is_piece file right))

pub few_pieces : (file : List ℕ) → RightFile file → length (pieces_of file) ≤ 69631
few_pieces file right =
    let ps = map (piece_of_section file) (kept_sections file) in
    let qs = map (piece_of_common file) (filter (is_common file) (symbols file)) in
    let both : length (ps ++ qs) ≡ length ps + length qs = length-append ps qs in
    let a : length ps ≡ length (kept_sections file) =
    length-map (piece_of_section file) (kept_sections file) in
    let b : length qs ≡ length (filter (is_common file) (symbols file)) =
    length-map (piece_of_common file) (filter (is_common file) (symbols file)) in
    let c : length (kept_sections file) ≤ e_shnum file - 1 =
    length_filtered (is_kept file) 1 (e_shnum file - 1) in
    let d : length (filter (is_common file) (symbols file)) ≤ symbol_count file - 1 =
    length_filtered (is_common file) 1 (symbol_count file - 1) in
    omega (arith, right.few_sections, right.few_symbols)

-- ---- where each is

slice_get_left : {X : Type 0} (xs ys : List X) (n : ℕ) (p : X) → slice_get xs n ≡ Some p
    → slice_get (xs ++ ys) n ≡ Some p
slice_get_left [] ys n p h = cc
slice_get_left (x ∷ xs) ys zero p h = h
slice_get_left (x ∷ xs) ys (suc n) p h = slice_get_left xs ys n p h

slice_get_right : {X : Type 0} (xs ys : List X) (n : ℕ)
    → slice_get (xs ++ ys) (length xs + n) ≡ slice_get ys n
slice_get_right [] ys n = let e : zero + n ≡ n = omega arith in ap (slice_get ys) e
slice_get_right (x ∷ xs) ys n =
    let e : suc (length xs) + n ≡ suc (length xs + n) =
    omega arith in ap (slice_get (x ∷ xs ++ ys)) e ∙ slice_get_right xs ys n

-- what is made of the number n of those that pass is at the place that those before it give
made_at : {X : Type 0} (q : ℕ → Bool) (f : ℕ → X) (c n : ℕ) → InRange 1 c n → q n ≡ true
    → slice_get (map f (filter q (numbers_from 1 c))) (count_by q (numbers_from 1 (n - 1)))
    ≡ Some (f n)
made_at q f c n within h =
    let same : 1 + (n - 1) ≡ n = omega (arith, within.low) in
    ap (slice_get (map f (filter q (numbers_from 1 c))))
    (sym (length-filter q (numbers_from 1 (n - 1))))
    ∙ slice_get-map f (filter q (numbers_from 1 c)) (length (filter q (numbers_from 1 (n - 1))))
    ∙ ap (option_map f)
    (at_filtered q 1 c (n - 1) (omega (arith, within.low, within.high)) (ap q same ∙ h))
    ∙ ap (λ m. Some (f m)) same

pub section_there : (file : List ℕ) (i : ℕ) → is_kept file i ≡ true
    → slice_get (pieces_of file) (section_piece file i) ≡ Some (piece_of_section file i)
section_there file i h =
    slice_get_left (map (piece_of_section file) (kept_sections file))
    (map (piece_of_common file) (filter (is_common file) (symbols file))) (section_piece file i)
    (piece_of_section file i)
    (made_at (is_kept file) (piece_of_section file) (e_shnum file - 1) i
    (section_number file i (kept_section file i h)) h)

pub common_there : (file : List ℕ) (k : ℕ) → IsSymbolNumber file k → is_common file k ≡ true
    → slice_get (pieces_of file) (common_piece file k) ≡ Some (piece_of_common file k)
common_there file k within h =
    let ps = map (piece_of_section file) (kept_sections file) in
    let qs = map (piece_of_common file) (filter (is_common file) (symbols file)) in
    let before = count_by (is_common file) (numbers_from 1 (k - 1)) in
    ap (λ n. slice_get (ps ++ qs) (n + before))
    (sym (length-map (piece_of_section file) (kept_sections file)))
    ∙ slice_get_right ps qs before
    ∙ made_at (is_common file) (piece_of_common file) (symbol_count file - 1) k within h
