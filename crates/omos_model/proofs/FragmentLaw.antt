-- What a file without a fault holds is a fragment.
use Rattle.std.proofs.Common.{◌≡◌, ℕ, ◌+◌, ◌-◌, ◌/◌, ◌<◌, ◌≤◌, ◌==◌, Bool, true, false}
use Rattle.std.proofs.Common.{not, ◌&&◌, ◌||◌, List, length, Option, Some, None, refl, sym}
use Rattle.std.proofs.Common.{ap, ◌∙◌, subst, cond, arith, IfOk}
use Rattle.std.specs.Prelude.{nat_le, nat_lt, filter}
use Rattle.std.specs.List.{list_all, filter_map}
use Rattle.std.specs.Option.{option_map}
use Rattle.std.proofs.lemmas.Bool.{and_parts, and_from, not-true}
use Rattle.std.proofs.lemmas.Bool.{not_from_false, leb-true, ltb-true, le-leb, lt-ltb, eqb-true}
use Rattle.std.proofs.lemmas.Bool.{eqb-false, and_left, or_parts, not_from_true, false_from_ne_true}
use Rattle.std.proofs.lemmas.Option.{none-some}
use Rattle.omos_model.specs.ElfValues.{shn_undef, stb_weak}
use Rattle.omos_model.specs.FragmentParts.{IsFragment, is_fragment}
use Rattle.omos_model.specs.FragmentParts.{is_fixup, is_field, is_aim, is_zeros}
use Rattle.omos_model.specs.FragmentParts.{width}
use Rattle.omos_model.specs.ElfFields.{e_shnum, sh_type, sh_size, sh_info, has_flag, is_section}
use Rattle.omos_model.specs.ElfFields.{sections, symbols, symbol_count, st_shndx}
use Rattle.omos_model.specs.ElfFields.{binding, name_of, r_addend, r_offset, r_sym}
use Rattle.omos_model.specs.ElfFields.{r_type}
use Rattle.omos_model.specs.ElfFaults.{is_kept, is_nobits, is_local}
use Rattle.omos_model.specs.ElfFaults.{is_export, is_of_dropped, is_used_rela}
use Rattle.omos_model.specs.ElfFaults.{entry_count, entries_up_to, is_right_rela, kind_of, entries}
use Rattle.omos_model.specs.ElfFaults.{is_in_target, is_aim_of, is_wrong_entry, object_fault}
use Rattle.omos_model.specs.FragmentOf.{group_of, pieces_of}
use Rattle.omos_model.specs.FragmentOf.{section_piece, spot_of, exports_of, aim_of}
use Rattle.omos_model.specs.FragmentOf.{fixup_of, parts_of_file, unless_fault, fragment_of}
use Rattle.omos_model.specs.Laws.{FragmentLaw}
use Rattle.omos_model.specs.declared.fragment.Aim.TheVariants as aim
use Rattle.omos_model.specs.declared.fragment.Fixup.{Fixup}
use Rattle.omos_model.specs.declared.fragment.Kind.{Kind}
use Rattle.omos_model.specs.declared.fragment.Spot.TheVariants.{Fixed}
use Rattle.omos_model.specs.declared.refusal.ObjectFault.{ObjectFault}
use Rattle.omos_model.proofs.Joined.{rest_false}
use Rattle.omos_model.proofs.Ranges.{length_filtered, length-map, total_bound, length-pairs}
use Rattle.omos_model.proofs.Ranges.{all_pairs, all_both, length-filter_map, all_made}
use Rattle.omos_model.proofs.RightFile.{RightFile, IsSectionNumber}
use Rattle.omos_model.proofs.RightFile.{right_file}
use Rattle.omos_model.proofs.Pieces.{section_number, loaded, are_pieces, few_pieces}
use Rattle.omos_model.proofs.Pieces.{section_there}
use Rattle.omos_model.proofs.RightExports.{and_not, or_not, right_spot, right_exports}
use Rattle.omos_model.proofs.RightExports.{distinct_exports}

-- ---- fixups

right_rela : (file : List ℕ) → RightFile file → (i : ℕ) → IsSectionNumber file i
    → is_used_rela file i ≡ true → is_right_rela file i ≡ true
right_rela file right i within h =
    let is_rela = (and_parts (sh_type file i == 4) (is_kept file (sh_info file i)) h).0 in
    let fine =
    rest_false (sh_type file i == 4) (not (nat_lt (sh_info file i) (e_shnum file))
    || (is_used_rela file i && not (is_right_rela file i))) (right.relas i within) is_rela in
    and_not (is_used_rela file i) (is_right_rela file i)
    (or_parts (not (nat_lt (sh_info file i) (e_shnum file)))
    (is_used_rela file i && not (is_right_rela file i)) fine).1 h

few_entries : (file : List ℕ) → RightFile file → length (entries file) ≤ 65535
few_entries file right =
    rw (length-pairs (entry_count file) (filter (is_used_rela file) (sections file)))
    (total_bound (is_used_rela file) (entry_count file) 65535 (e_shnum file - 1)
    (λ i within h. leb-true (entries_up_to file i) 65535
    (and_parts _ _ (right_rela file right i within h)).1))

-- the entry is there, in a section that is used
abbrev inside : List ℕ → ℕ × ℕ → Bool
inside file e = is_section file e.0 && is_used_rela file e.0 && nat_lt e.1 (entry_count file e.0)

all_inside : (file : List ℕ) → list_all (inside file) (entries file) ≡ true
all_inside file =
    all_pairs (is_used_rela file) (entry_count file) (inside file) 1 (e_shnum file - 1) (
    λ i j within h below.
    and_from _ _
    (and_from _ _
    (and_from _ _ (lt-ltb 0 i (omega (arith, within.low)))
    (lt-ltb i (e_shnum file) (omega (arith, within.low, within.high)))) h)
    (lt-ltb j (entry_count file i) below)
    )

right_fixup : (file : List ℕ) → RightFile file → (e : ℕ × ℕ) (y : Fixup)
    → (not (is_wrong_entry file e) && inside file e) ≡ true → fixup_of file e ≡ Some y
    → is_fixup (pieces_of file) y ≡ true
right_fixup file right e y h is = go (kind_of (r_type file e.0 e.1)) refl is
  where
    i : ℕ
    i = e.0

    j : ℕ
    j = e.1

    target : ℕ
    target = sh_info file i

    k : ℕ
    k = r_sym file i j

    parts : (not (is_wrong_entry file e) ≡ true) × (inside file e ≡ true)
    parts = and_parts (not (is_wrong_entry file e)) (inside file e) h

    there : ((is_section file i && is_used_rela file i) ≡ true)
        × (nat_lt j (entry_count file i) ≡ true)
    there = and_parts (is_section file i && is_used_rela file i) (nat_lt j (entry_count file i))
        parts.1

    used : (is_section file i ≡ true) × (is_used_rela file i ≡ true)
    used = and_parts (is_section file i) (is_used_rela file i) there.0

    loads : is_kept file target ≡ true
    loads = (and_parts (sh_type file i == 4) (is_kept file target) used.1).1

    has_entry : (sh_size file i == 0) ≡ true → ⊥
    has_entry z =
        let empty : entry_count file i ≡ 0 = ap (λ n. n / 24) (eqb-true (sh_size file i) 0 z) in
        let below : j < entry_count file i = ltb-true j (entry_count file i) there.1 in
        absurd (omega (arith, empty, below))

    has_bytes : is_nobits file target ≡ false
    has_bytes =
        let rela = right_rela file right i (section_number file i used.0) used.1 in
        let most = and_parts _ (nat_le (entries_up_to file i) 65535) rela in
        let both = and_parts _ (not (is_nobits file target) || (sh_size file i == 0)) most.0 in
        false_from_ne_true (is_nobits file target)
        (λ b. has_entry (or_not (is_nobits file target) (sh_size file i == 0) both.1 b))

    aims : is_aim_of file k ≡ true → is_aim (pieces_of file) (aim_of file k) ≡ true
    aims a = at_zero (k == 0) refl
      where
        local : (b : Bool) → is_local file k ≡ b → (k == 0) ≡ false
            → is_aim (pieces_of file)
            (cond b (aim.At (spot_of file k))
            (aim.Name (name_of file k)
            ((st_shndx file k == shn_undef) && (binding file k == stb_weak)))) ≡ true
        local false l z = refl
        local true l z =
            let known =
            and_parts (nat_lt k (symbol_count file))
            (not (nat_lt 0 k && is_local file k && is_of_dropped file k)) a in
            let below : k < symbol_count file = ltb-true k (symbol_count file) known.0 in
            let some : 0 < k = omega (arith, eqb-false k 0 z) in
            let named : (nat_lt 0 k && is_local file k) ≡ true =
            and_from (nat_lt 0 k) (is_local file k) (lt-ltb 0 k some) l in
            right_spot file right k
            (record { low = omega (arith, some); high = omega (arith, below, some) })
            (and_left (not (is_local file k)) (st_shndx file k == shn_undef)
            (not_from_true (is_local file k) l))
            (rest_false (nat_lt 0 k && is_local file k) (is_of_dropped file k) (not-true _ known.1)
            named)

        at_zero : (b : Bool) → (k == 0) ≡ b
            → is_aim (pieces_of file)
            (cond b (aim.At (Fixed 0))
            (cond (is_local file k) (aim.At (spot_of file k))
            (aim.Name (name_of file k)
            ((st_shndx file k == shn_undef) && (binding file k == stb_weak))))) ≡ true
        at_zero true z = refl
        at_zero false z = local (is_local file k) refl z

    go : (o : Option Kind) → kind_of (r_type file i j) ≡ o
        → option_map
        (λ kind. record {
          piece = section_piece file target;
          offset = r_offset file i j;
          kind = kind;
          addend = r_addend file i j;
          aim = aim_of file k;
        }) o ≡ Some y
        → is_fixup (pieces_of file) y ≡ true
    go None d s = cc
    go (Some kind) d s =
        let known : (r_type file i j == 0) ≡ false =
        false_from_ne_true (r_type file i j == 0)
        (λ z. none-some kind (sym (ap kind_of (eqb-true (r_type file i j) 0 z)) ∙ d)) in
        let fine = and_parts (is_in_target file i j) (is_aim_of file k)
        (and_not (not (r_type file i j == 0)) (is_in_target file i j && is_aim_of file k)
        (not-true (is_wrong_entry file e) parts.0)
        (not_from_false (r_type file i j == 0) known)) in
        let same : record {
          piece = section_piece file target;
          offset = r_offset file i j;
          kind = kind;
          addend = r_addend file i j;
          aim = aim_of file k;
        } ≡ y = cc in
        let fits : nat_le (r_offset file i j + width kind) (sh_size file target) ≡ true =
        rw d at fine.0 in
        subst (λ z. is_fixup (pieces_of file) z ≡ true) same
        (and_from
        (is_field (pieces_of file) (section_piece file target) (r_offset file i j) (width kind))
        (is_aim (pieces_of file) (aim_of file k))
        (rw (section_there file target loads)
        (and_from (not (is_zeros (group_of file target))) _
        (rw (has_bytes, loaded (has_flag file target 4) (has_flag file target 1)) refl) fits))
        (aims fine.1))

right_fixups : (file : List ℕ) → RightFile file
    → list_all (is_fixup (pieces_of file)) (filter_map (fixup_of file) (entries file)) ≡ true
right_fixups file right =
    all_made (fixup_of file) (λ e. not (is_wrong_entry file e) && inside file e)
    (is_fixup (pieces_of file)) (entries file) (right_fixup file right)
    (all_both (λ e. not (is_wrong_entry file e)) (inside file) (entries file) right.entries
    (all_inside file))

-- ---- the whole

few_exports : (file : List ℕ) → RightFile file → length (exports_of file) ≤ 65535
few_exports file right =
    let same : length (exports_of file) ≡ length (filter (is_export file) (symbols file)) =
    length-map (λ k. record { name = name_of file k; spot = spot_of file k })
    (filter (is_export file) (symbols file)) in
    let few : length (filter (is_export file) (symbols file)) ≤ symbol_count file - 1 =
    length_filtered (is_export file) 1 (symbol_count file - 1) in
    omega (arith, right.few_symbols)

few_fixups : (file : List ℕ) → RightFile file
    → length (filter_map (fixup_of file) (entries file)) ≤ 65535
few_fixups file right =
    omega (arith, length-filter_map (fixup_of file) (entries file), few_entries file right)

right_parts : (file : List ℕ) → RightFile file → is_fragment (parts_of_file file) ≡ true
right_parts file right =
    and_from _ _
    (and_from _ _
    (and_from _ _
    (and_from _ _
    (and_from _ _
    (and_from _ _ (le-leb (length (pieces_of file)) 69631 (few_pieces file right))
    (le-leb (length (exports_of file)) 65535 (few_exports file right)))
    (le-leb (length (filter_map (fixup_of file) (entries file))) 65535 (few_fixups file right)))
    (are_pieces file right))
    (right_exports file right))
    (right_fixups file right))
    (distinct_exports file right)

pub fragment_law : FragmentLaw
unfolding fragment_of
fragment_law file = go (object_fault file) refl
  where
    go : (o : Option ObjectFault) → object_fault file ≡ o
        → IfOk (unless_fault o (parts_of_file file)) IsFragment
    go None e = right_parts file (right_file file e)
    go (Some x) e = tt
