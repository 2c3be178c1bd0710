-- The exports of a file without a fault have spots in its pieces, and names of their own.
use Rattle.std.proofs.Common.{◌≡◌, ℕ, zero, suc, ◌+◌, ◌-◌, ◌<◌, ◌==◌, Bool, true, false}
use Rattle.std.proofs.Common.{not, ◌&&◌, ◌||◌, List, ◌∷◌, refl}
use Rattle.std.proofs.Common.{◌∙◌, cond, map, arith}
use Rattle.std.specs.Prelude.{nat_le, filter}
use Rattle.std.specs.List.{list_all, list_any}
use Rattle.std.proofs.lemmas.Bool.{and_parts, and_from, and_right, or_from, not-true, not-false}
use Rattle.std.proofs.lemmas.Bool.{not_from_false, le-leb}
use Rattle.std.proofs.lemmas.List.Folds.{list_all-map}
use Rattle.omos_model.specs.ElfValues.{shn_abs, shn_common, shn_undef}
use Rattle.omos_model.specs.Names.{Name, same_name}
use Rattle.omos_model.specs.FragmentParts.{is_spot}
use Rattle.omos_model.specs.FragmentParts.{is_exported}
use Rattle.omos_model.specs.FragmentParts.{are_distinct}
use Rattle.omos_model.specs.Numbers.{numbers_from}
use Rattle.omos_model.specs.ElfFields.{sh_size, is_section}
use Rattle.omos_model.specs.ElfFields.{symbols, symbol_count, st_shndx}
use Rattle.omos_model.specs.ElfFields.{st_value, name_of}
use Rattle.omos_model.specs.ElfFaults.{is_kept, is_local, has_name}
use Rattle.omos_model.specs.ElfFaults.{is_export, is_of_dropped}
use Rattle.omos_model.specs.FragmentOf.{is_common, pieces_of}
use Rattle.omos_model.specs.FragmentOf.{section_piece, common_piece, spot_of, exports_of}
use Rattle.omos_model.specs.declared.fragment.Export.{Export}
use Rattle.omos_model.specs.declared.fragment.Spot.TheVariants.{Inside, Fixed}
use Rattle.omos_model.proofs.Joined.{fourth, rest_false}
use Rattle.omos_model.proofs.Names.{same_name-swap}
use Rattle.omos_model.proofs.Ranges.{InRange, rest_in, first_in, any_none, all_filtered}
use Rattle.omos_model.proofs.RightFile.{RightFile, RightSymbol, IsSymbolNumber}
use Rattle.omos_model.proofs.RightFile.{right_symbol}
use Rattle.omos_model.proofs.Pieces.{section_there, common_there}

-- ---- tests

pub and_not : (a b : Bool) → (a && not b) ≡ false → a ≡ true → b ≡ true
and_not true b h e = not-false b h
and_not false b h e = cc

pub or_not : (a b : Bool) → (not a || b) ≡ true → a ≡ true → b ≡ true
or_not true b h e = h
or_not false b h e = cc

-- ---- spots

-- a symbol that isn't undefined, and not of a section that isn't kept, has a spot in the pieces
pub right_spot : (file : List ℕ) → RightFile file → (k : ℕ) → IsSymbolNumber file k
    → (not (is_local file k) && (st_shndx file k == shn_undef)) ≡ false
    → is_of_dropped file k ≡ false
    → is_spot (pieces_of file) (spot_of file k) ≡ true
right_spot file right k within defined kept = go (st_shndx file k == shn_abs) refl
  where
    n : ℕ
    n = st_shndx file k

    symbol : RightSymbol file k
    symbol = right_symbol file right k within

    in_section : (n == shn_abs) ≡ false → is_common file k ≡ false
        → is_spot (pieces_of file) (Inside (section_piece file n) (st_value file k)) ≡ true
    in_section a c =
        let there : is_section file n ≡ true =
        fourth (not (is_local file k) && (n == shn_undef)) (n == shn_abs) _ (is_section file n)
        symbol.index defined a (and_right _ (n == shn_common) c) in
        let loads : is_kept file n ≡ true =
        and_not (is_section file n) (is_kept file n) kept there in
        let small : nat_le (st_value file k) (sh_size file n) ≡ true =
        or_not (is_kept file n) _
        (and_parts (not (is_kept file n) || nat_le (st_value file k) (sh_size file n))
        (not (has_name file k && is_of_dropped file k)) symbol.value).0 loads in
        rw (section_there file n loads) small

    section_or_common : (b : Bool) → is_common file k ≡ b → (n == shn_abs) ≡ false
        → is_spot (pieces_of file)
        (cond b (Inside (common_piece file k) 0)
        (Inside (section_piece file n) (st_value file k))) ≡ true
    section_or_common true c a = rw (common_there file k within c) (le-leb 0 _ (omega arith))
    section_or_common false c a = in_section a c

    go : (b : Bool) → (n == shn_abs) ≡ b
        → is_spot (pieces_of file)
        (cond b (Fixed (st_value file k))
        (cond (is_common file k) (Inside (common_piece file k) 0)
        (Inside (section_piece file n) (st_value file k)))) ≡ true
    go true a = refl
    go false a = section_or_common (is_common file k) refl a

-- ---- exports

export_of : List ℕ → ℕ → Export
export_of file k = record { name = name_of file k; spot = spot_of file k }

right_export : (file : List ℕ) → RightFile file → (k : ℕ) → IsSymbolNumber file k
    → is_export file k ≡ true → is_spot (pieces_of file) (spot_of file k) ≡ true
right_export file right k within h =
    let parts = and_parts (has_name file k) (not (st_shndx file k == shn_undef)) h in
    let value = (right_symbol file right k within).value in
    let fine =
    (and_parts (not (is_kept file (st_shndx file k))
    || nat_le (st_value file k) (sh_size file (st_shndx file k)))
    (not (has_name file k && is_of_dropped file k)) value).1 in
    right_spot file right k within (and_right _ _ (not-true (st_shndx file k == shn_undef) parts.1))
    (rest_false (has_name file k) (is_of_dropped file k)
    (not-true (has_name file k && is_of_dropped file k) fine) parts.0)

pub right_exports : (file : List ℕ) → RightFile file
    → list_all (λ x. is_spot (pieces_of file) x.spot) (exports_of file) ≡ true
right_exports file right =
    list_all-map _ _ (filter (is_export file) (symbols file))
    ∙ all_filtered (is_export file) (λ k. is_spot (pieces_of file) (spot_of file k)) 1
    (symbol_count file - 1) (right_export file right)

-- no export of the run has the name n
not_among : (file : List ℕ) (n : Name) (s c : ℕ)
    → ((k : ℕ) → InRange s c k → is_export file k ≡ true → same_name n (name_of file k) ≡ false)
    → is_exported
    (map (λ k. record { name = name_of file k; spot = spot_of file k })
    (filter (is_export file) (numbers_from s c))) n ≡ false
not_among file n s zero h = refl
not_among file n s (suc c) h =
    go (is_export file s) refl (not_among file n (s + 1) c (λ k r. h k (rest_in s c k r)))
  where
    rest : List ℕ
    rest = filter (is_export file) (numbers_from (s + 1) c)

    go : (b : Bool) → is_export file s ≡ b
        → is_exported (map (λ k. record { name = name_of file k; spot = spot_of file k }) rest) n
        ≡ false
        → is_exported
        (map (λ k. record { name = name_of file k; spot = spot_of file k })
        (cond b (s ∷ rest) rest)) n ≡ false
    go true e i = or_from _ _ (h s (first_in s c) e) i
    go false e i = i

distinct_from : (file : List ℕ) (s c : ℕ)
    → ((j k : ℕ) → InRange s c j → InRange s c k → j < k → is_export file j ≡ true
    → is_export file k ≡ true → same_name (name_of file k) (name_of file j) ≡ false)
    → are_distinct
    (map (λ k. record { name = name_of file k; spot = spot_of file k })
    (filter (is_export file) (numbers_from s c))) ≡ true
distinct_from file s zero h = refl
distinct_from file s (suc c) h =
    go (is_export file s) refl
    (distinct_from file (s + 1) c (λ j k a b. h j k (rest_in s c j a) (rest_in s c k b)))
  where
    rest : List ℕ
    rest = filter (is_export file) (numbers_from (s + 1) c)

    go : (b : Bool) → is_export file s ≡ b
        → are_distinct (map (λ k. record { name = name_of file k; spot = spot_of file k }) rest)
        ≡ true
        → are_distinct
        (map (λ k. record { name = name_of file k; spot = spot_of file k })
        (cond b (s ∷ rest) rest)) ≡ true
    go true e i =
        and_from _ _
        (not_from_false _ (not_among file (name_of file s) (s + 1) c (
        λ k r x. same_name-swap (name_of file s) (name_of file k)
        ∙ h s k (first_in s c) (rest_in s c k r) (omega (arith, r.low)) e x
        )))
        i
    go false e i = i

pub distinct_exports : (file : List ℕ) → RightFile file → are_distinct (exports_of file) ≡ true
distinct_exports file right =
    distinct_from file 1 (symbol_count file - 1) (
    λ j k a b below x y.
    let below_k : InRange 1 (k - 1) j =
    record { low = a.low; high = omega (arith, a.low, below) } in
    let none =
    rest_false (is_export file k)
    (list_any (λ i. is_export file i && same_name (name_of file k) (name_of file i))
    (numbers_from 1 (k - 1))) (right.names k b) y in
    rest_false (is_export file j) (same_name (name_of file k) (name_of file j))
    (any_none (λ i. is_export file i && same_name (name_of file k) (name_of file i)) 1 (k - 1) none
    j below_k) x
    )
