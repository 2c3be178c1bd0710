-- Fields that are written one after another.
use Rattle.std.proofs.Common.{◌≡◌, ℕ, ◌+◌, ◌-◌, ◌<◌, ◌≤◌, List, [], ◌∷◌, ◌++◌, length, get_or, take}
use Rattle.std.proofs.Common.{drop, map, reverse, min, zero, suc, Option, Some, None, Bool, true}
use Rattle.std.proofs.Common.{false, unwrap_or, refl, sym, ap, subst, ◌∙◌, arith}
use Rattle.std.specs.Prelude.{is_some, slice_get, slice_index, if◌then◌else◌}
use Rattle.std.specs.Int.{bytes_low_first}
use Rattle.std.specs.List.{enumerate_from, find, flat_map, zip}
use Rattle.std.specs.Option.{option_map, option_or}
use Rattle.std.proofs.lemmas.Grind.{flat_map-append}
use Rattle.std.proofs.lemmas.List.{append-nil, get_or-map, reverse-append, take_more, take_all}
use Rattle.std.proofs.lemmas.List.{take-append-drop, length-map}
use Rattle.std.proofs.lemmas.List.Folds.{find-append}
use Rattle.std.proofs.lemmas.List.FromFn.{get_or-enumerate_from, length-enumerate_from}
use Rattle.std.proofs.lemmas.Option.{get_or_from_slice_get, slice_get-map, slice_get_within}
use Rattle.std.proofs.lemmas.Slice.Zip.{length-zip, get_or-zip}
use Rattle.dict_row.proofs.Decoded.{found}
use Rattle.omos_base.specs.Endian.{little_bytes}
use Rattle.omos_base.specs.Fields.{with_number}
use Rattle.omos_model.specs.FixupParts.{field_of, fixup_at}
use Rattle.omos_model.specs.FragmentParts.{width}
use Rattle.omos_model.specs.declared.entry.Entry.{Entry}
use Rattle.omos_model.specs.declared.fixups.Field.{Field}
use Rattle.omos_model.specs.declared.fragment.Aim.{Aim}
use Rattle.omos_model.specs.declared.fragment.Fixup.{Fixup}
use Rattle.omos_model.specs.declared.mark.Landing.{Landing}
use Rattle.omos_model.specs.declared.mark.Target.{Target}
use Rattle.omos_model.specs.declared.refusal.Refusal.{Refusal}
use Rattle.omos_model.specs.declared.refusal.Refusal.TheVariants.{Overflow}
use Rattle.link_model.specs.Field.{field_value}
use Rattle.link_model.specs.ImageBytes.{covers}
use Rattle.link_model.specs.Layout.{target_at}
use Rattle.link_model.specs.Module.{part_with}
use Rattle.link_model.specs.Plan.{first_in}
use Rattle.link_model.specs.Program.{Part, Reference, reference_of, references_in}
use Rattle.link_layout.proofs.Parts.{first_in-append}
use Rattle.image_write.specs.inside.Addresses.{address_in}
use Rattle.image_write.specs.inside.Fields.{IsPatched, byte_in, field_number, field_place_in}
use Rattle.image_write.specs.inside.Fields.{last_byte, overflow_in, references_of}
use Rattle.image_write.specs.inside.Painted.{Painted, run_at}
use Rattle.link_layout.specs.Slots.{fixups_in}
use Rattle.image_write.proofs.Painting.{either, painted-as, painted-run, painted-then}

-- ---- the first refusal of some references

pub refused-among : {X : Type 0} (f : X → Option Refusal) (xs ys zs all : List X) (y : Refusal)
    → all ≡ (xs ++ ys) ++ zs
    → first_in f xs ≡ None → first_in f ys ≡ Some y → first_in f all ≡ Some y
refused-among f xs ys zs all y e none some =
    ap (first_in f) e ∙ first_in-append f (xs ++ ys) zs
    ∙ ap (λ o. option_or o (first_in f zs))
    (first_in-append f xs ys ∙ (λ i. option_or (none i) (some i)))

-- ---- one field

length-bytes : (i n v : ℕ) → length (bytes_low_first i n v) ≡ n
length-bytes i zero v = refl
length-bytes i (suc n) v = ap suc (length-bytes (suc i) n v)

no_overflow : (o : Option ℕ) (x : Refusal) (v : ℕ) → o ≡ Some v
    → option_or (if is_some o then None else Some x) None ≡ None
no_overflow o x v e = λ i. option_or (if is_some (e i) then None else Some x) None

chosen : {X Y : Type 0} (b : Bool) (f : X → Y) (x : X) → option_map f (if b then Some x else None)
    ≡ (if b then Some (f x) else None)
chosen true f x = refl
chosen false f x = refl

module _ (places : List (List ℕ)) (slot : Target → ℕ) (base : ℕ) where
  pub patched-one : (r : Reference) (field : ℕ) (new old : List ℕ)
      → field_number places slot base r ≡ Some field
      → field_place_in places r + width r.fixup.kind ≤ length old
      → new ≡ with_number (width r.fixup.kind) (field_place_in places r) field old
      → IsPatched places slot base (r ∷ []) new old
  patched-one r field new old e fits en =
      record {
        fit = no_overflow (field_number places slot base r) (Overflow r.leaf r.number) field e;
        painted = painted-as (last_byte places slot base (r ∷ [])) run (λ x _. same x);
      } where
        w : ℕ
        w = width r.fixup.kind

        at : ℕ
        at = field_place_in places r

        bytes : List ℕ
        bytes = little_bytes w field

        n : length bytes ≡ w
        n = length-bytes 0 w field

        run : Painted new (run_at at bytes) old
        run =
            subst (λ (xs : List ℕ). Painted xs (run_at at bytes) old)
            ((λ i. take at old ++ bytes ++ drop (at + n i) old) ∙ sym en)
            (painted-run old at bytes (omega (arith, n)))

        same : (x : ℕ) → run_at at bytes x ≡ last_byte places slot base (r ∷ []) x
        same x =
            (λ i. if covers at (n i) x then Some (slice_index bytes (x - at)) else None)
            ∙ (λ i. if covers at w x
            then Some (slice_index (little_bytes w (unwrap_or (sym e i) 0)) (x - at)) else None)
            ∙ sym (chosen (covers at w x) (byte_in places slot base x) r)

  -- the same, from the field's place and the number that it gets there
  pub patched-at : (r : Reference) (place field : ℕ) (new old : List ℕ)
      → place ≡ field_place_in places r
      → Some field ≡ field_value r.fixup.kind (address_in places base (target_at r.landing))
      r.fixup.addend (base + place) (slot (target_at r.landing))
      → field_place_in places r + width r.fixup.kind ≤ length old
      → new ≡ with_number (width r.fixup.kind) place field old
      → IsPatched places slot base (r ∷ []) new old
  patched-at r place field new old at value fits en =
      let target = target_at r.landing in
      patched-one r field new old
      ((λ i. field_value r.fixup.kind (address_in places base target) r.fixup.addend
      (base + sym at i) (slot target)) ∙ sym value)
      fits (en ∙ (λ i. with_number (width r.fixup.kind) (at i) field old))

  pub patched-append : (rs ts : List Reference) (new mid old : List ℕ)
      → IsPatched places slot base rs mid old
      → IsPatched places slot base ts new mid → IsPatched places slot base (rs ++ ts) new old
  patched-append rs ts new mid old before later =
      record {
        fit = first_in-append (overflow_in places slot base) rs ts
            ∙ (λ i. option_or (before.fit i) (later.fit i));
        painted =
            painted-as (last_byte places slot base (rs ++ ts))
            (painted-then later.painted before.painted)
            (λ x _.
            either (byte_in places slot base x) (find (is_at x) (reverse ts))
            (find (is_at x) (reverse rs))
            ∙ ap (option_map (byte_in places slot base x))
            (sym (find-append (is_at x) (reverse ts) (reverse rs)))
            ∙ ap (λ xs. option_map (byte_in places slot base x) (find (is_at x) xs))
            (sym (reverse-append rs ts)));
      } where
        is_at : ℕ → Reference → Bool
        is_at x r = covers (field_place_in places r) (width r.fixup.kind) x

-- ---- the references of a leaf

pub leaf-more : (leaf : ℕ) (fixups : List Fixup) (landings : List Landing) (i : ℕ) (f : Fixup)
    (l : Landing)
    → i < min (length fixups) (length landings) → f ≡ get_or fixups i f → l ≡ get_or landings i l
    → take (i + 1) (references_of leaf fixups landings)
    ≡ take i (references_of leaf fixups landings) ++ reference_of leaf (i, (f, l)) ∷ []
leaf-more leaf fixups landings i f l lt ef el =
    let zipped = zip fixups landings in
    let n : length zipped ≡ min (length fixups) (length landings) = length-zip fixups landings in
    let m = length-enumerate_from 0 zipped in
    let k = length-map (enumerate_from 0 zipped) (reference_of leaf) in
    let here : get_or (references_of leaf fixups landings) i (reference_of leaf (i, (f, l)))
    ≡ reference_of leaf (i, (f, l)) =
    get_or-map (reference_of leaf) (enumerate_from 0 zipped) i (i, (f, l)) _ (omega (arith, n, m))
    ∙ ap (reference_of leaf)
    (get_or-enumerate_from 0 zipped i (i, (f, l)) (omega (arith, n))
    ∙ (λ j. (
      zero_more i j,
      (get_or-zip fixups landings i (f, l) (omega arith) (omega arith)
          ∙ (λ h. (sym ef h, sym el h))) j,
    ))) in
    take_more (references_of leaf fixups landings) i (reference_of leaf (i, (f, l)))
    (omega (arith, n, m, k))
    ∙ (λ j. take i (references_of leaf fixups landings) ++ here j ∷ []) where
      zero_more : (j : ℕ) → 0 + j ≡ j
      zero_more j = omega arith

-- the same from the fields alone: whatever is aimed at, it is there
pub field-more : (leaf : ℕ) (fixups : List Fixup) (landings : List Landing) (i : ℕ)
    (fields : List Field) (d : Field) (l : Landing)
    → map field_of fixups ≡ fields → i < length fields → slice_get landings i ≡ Some l
    → (aim : Aim) × (take (i + 1) (references_of leaf fixups landings)
    ≡ take i (references_of leaf fixups landings)
    ++ reference_of leaf (i, (fixup_at (get_or fields i d, aim), l)) ∷ [])
field-more leaf fixups landings i fields d l are lt is =
    let count : length fixups ≡ length fields = sym (length-map fixups field_of) ∙ ap length are in
    let below = slice_get_within landings i l is in
    let here = found fixups i (omega (arith, lt, count)) in
    let seen : field_of here.0 ≡ get_or fields i d =
    sym (get_or_from_slice_get (map field_of fixups) i (field_of here.0) d
    (slice_get-map field_of fixups i ∙ ap (option_map field_of) here.1))
    ∙ ap (λ xs. get_or xs i d) are in (
      here.0.aim,
      leaf-more leaf fixups landings i here.0 l (omega (arith, lt, count, below))
          (sym (get_or_from_slice_get fixups i here.0 here.0 here.1))
          (sym (get_or_from_slice_get landings i l l is))
          ∙ ap (λ x. take i (references_of leaf fixups landings)
          ++ reference_of leaf (i, (fixup_at (x, here.0.aim), l)) ∷ []) seen,
    )

pub leaf-all : (leaf : ℕ) (fixups : List Fixup) (landings : List Landing) (i : ℕ)
    → min (length fixups) (length landings) ≤ i
    → take i (references_of leaf fixups landings) ≡ references_of leaf fixups landings
leaf-all leaf fixups landings i h =
    take_all i (references_of leaf fixups landings)
    (omega (
      arith,
      length-zip fixups landings,
      length-enumerate_from 0 (zip fixups landings),
      length-map (enumerate_from 0 (zip fixups landings)) (reference_of leaf),
    ))

-- what is refused in the front of a list is refused in the list
pub refused-in : {X : Type 0} (f : X → Option Refusal) (i : ℕ) (ys all : List X) (y : Refusal)
    → take (i + 1) all ≡ take i all ++ ys → first_in f (take i all) ≡ None → first_in f ys ≡ Some y
    → first_in f all ≡ Some y
refused-in f i ys all y e none some =
    refused-among f (take i all) ys (drop (i + 1) all) all y
    (sym (take-append-drop (i + 1) all) ∙ ap (λ xs. xs ++ drop (i + 1) all) e) none some

-- ---- the references of all leaves

abbrev pub parts_in : List Entry → List (List Landing) → List (ℕ × Part)
parts_in leaves landings = enumerate_from 0 (map part_with (zip leaves landings))

pub leaves-more : (leaves : List Entry) (landings : List (List Landing)) (i : ℕ) (leaf : Entry)
    (row row' : List Landing) (fixups : List Fixup)
    → length landings ≡ length leaves → i < length leaves → leaf ≡ get_or leaves i leaf
    → row ≡ get_or landings i row
    → row' ≡ row → fixups ≡ fixups_in leaf
    → flat_map references_in (take (i + 1) (parts_in leaves landings))
    ≡ flat_map references_in (take i (parts_in leaves landings)) ++ references_of i fixups row'
leaves-more leaves landings i leaf row row' fixups same lt el er row_is fixups_is =
    let zipped = zip leaves landings in
    let n : length zipped ≡ min (length leaves) (length landings) = length-zip leaves landings in
    let k = length-map zipped part_with in
    let m = length-enumerate_from 0 (map part_with zipped) in
    let here : get_or (parts_in leaves landings) i (i, part_with (leaf, row))
    ≡ (i, part_with (leaf, row)) =
    get_or-enumerate_from 0 (map part_with zipped) i (i, part_with (leaf, row))
    (omega (arith, n, k))
    ∙ (λ j. (
      zero_more i j,
      (get_or-map part_with zipped i (leaf, row) (part_with (leaf, row)) (omega (arith, n))
          ∙ ap part_with (get_or-zip leaves landings i (leaf, row) lt (omega arith)
          ∙ (λ h. (sym el h, sym er h)))) j,
    )) in
    ap (flat_map references_in)
    (take_more (parts_in leaves landings) i (i, part_with (leaf, row)) (omega (arith, n, k, m))
    ∙ (λ j. take i (parts_in leaves landings) ++ here j ∷ []))
    ∙ flat_map-append references_in (take i (parts_in leaves landings))
    ((i, part_with (leaf, row)) ∷ [])
    ∙ ap (λ xs. flat_map references_in (take i (parts_in leaves landings)) ++ xs)
    (append-nil (references_of i (fixups_in leaf) row))
    ∙ (λ j. flat_map references_in (take i (parts_in leaves landings))
    ++ references_of i (sym fixups_is j) (sym row_is j)) where
      zero_more : (j : ℕ) → 0 + j ≡ j
      zero_more j = omega arith

pub leaves-all : (leaves : List Entry) (landings : List (List Landing)) (i : ℕ)
    → length landings ≡ length leaves → length leaves ≤ i
    → flat_map references_in (take i (parts_in leaves landings))
    ≡ flat_map references_in (parts_in leaves landings)
leaves-all leaves landings i same h =
    ap (flat_map references_in)
    (take_all i (parts_in leaves landings)
    (omega (
      arith,
      length-zip leaves landings,
      length-map (zip leaves landings) part_with,
      length-enumerate_from 0 (map part_with (zip leaves landings)),
    )))

pub refused-leaf : (f : Reference → Option Refusal) (i : ℕ) (ys : List Reference)
    (parts : List (ℕ × Part)) (y : Refusal)
    → flat_map references_in (take (i + 1) parts) ≡ flat_map references_in (take i parts) ++ ys
    → first_in f (flat_map references_in (take i parts)) ≡ None → first_in f ys ≡ Some y
    → first_in f (flat_map references_in parts) ≡ Some y
refused-leaf f i ys parts y e none some =
    refused-among f (flat_map references_in (take i parts)) ys
    (flat_map references_in (drop (i + 1) parts)) (flat_map references_in parts) y
    (ap (flat_map references_in) (sym (take-append-drop (i + 1) parts))
    ∙ flat_map-append references_in (take (i + 1) parts) (drop (i + 1) parts)
    ∙ ap (λ xs. xs ++ flat_map references_in (drop (i + 1) parts)) e) none some
