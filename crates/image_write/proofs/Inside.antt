-- What stands in its group lies in the file.
use Rattle.std.proofs.Common.{◌≡◌, ℕ, ◌+◌, ◌*◌, ◌<◌, ◌≤◌, List, [], ◌∷◌, All, length, get_or, Bool}
use Rattle.std.proofs.Common.{true, false, Option, unwrap_or, inl, inr, refl, sym, ap, subst, ◌∙◌}
use Rattle.std.proofs.Common.{arith}
use Rattle.std.specs.Prelude.{if◌then◌else◌, nat_le, not, ◌&&◌, slice_get}
use Rattle.std.specs.Option.{option_map_or}
use Rattle.std.proofs.lemmas.Bool.{and_parts, false≢true, leb-true, not-true}
use Rattle.std.proofs.lemmas.List.{get_or_default, get_or_past}
use Rattle.std.proofs.lemmas.List.Elements.{All-map}
use Rattle.std.proofs.lemmas.Option.{slice_get_cases, unwrap_or-slice_get}
use Rattle.std.proofs.lemmas.Slice.Zip.{length-zip, get_or-zip}
use Rattle.omos_model.specs.FixupParts.{field_of}
use Rattle.omos_model.specs.FragmentParts.{is_aim, is_field, is_fixup, is_piece, is_zeros, width}
use Rattle.omos_model.specs.declared.entry.Entry.{Entry}
use Rattle.omos_model.specs.declared.fragment.Fixup.{Fixup}
use Rattle.omos_model.specs.declared.fragment.Group.{Group}
use Rattle.omos_model.specs.declared.fragment.Group.TheVariants.{Code, Consts, Vars, Zeros}
use Rattle.omos_model.specs.declared.fragment.Piece.{Piece}
use Rattle.omos_model.specs.declared.mark.Target.{Target}
use Rattle.link_model.specs.Layout.{aligned, all_pages, end_of, end_with_slots, group_begin}
use Rattle.link_model.specs.Layout.{group_pages, group_size, page, pages_of, program_pieces}
use Rattle.link_model.specs.Layout.{slots_begin, slots_of}
use Rattle.link_model.specs.Program.{Parts, object_of}
use Rattle.image_write.specs.inside.Addresses.{AreLow, max_place, place_in}
use Rattle.image_write.specs.inside.Fields.{AreFieldsInside, IsFieldInside}
use Rattle.image_write.specs.inside.Groups.{bytes_in_file}
use Rattle.link_layout.specs.Pieces.{IsLawful, pieces_in}
use Rattle.image_write.specs.inside.Sections.{AreInside, IsInside, IsLeafInside, PlacedPiece}
use Rattle.link_layout.specs.Slots.{fixups_in}
use Rattle.image_write.specs.inside.Standing.{LeafStands, LeavesStand, StandsInGroup}
use Rattle.image_write.proofs.Lawful.{piece-bytes, tested}
use Rattle.image_write.proofs.Sectioned.{pair-at}

-- ---- groups

in-pages : (size : ℕ) → size ≤ page * pages_of size
in-pages size = omega arith

slots-above : (end : ℕ) (slots : List Target) → end ≤ end_with_slots end slots
slots-above end [] = omega arith
slots-above end (t ∷ ts) = omega arith

end-inside : (g : Group) (parts : Parts)
    → end_of g (program_pieces parts) ≤ page * group_pages g parts
end-inside Code parts = in-pages (group_size Code parts)
end-inside Consts parts = in-pages (group_size Consts parts)
end-inside Vars parts =
    let up = slots-above (end_of Vars (program_pieces parts)) (slots_of parts) in
    let in' = in-pages (group_size Vars parts) in
    omega (arith, up, in')
end-inside Zeros parts = in-pages (group_size Zeros parts)

in-file : (g : Group) (parts : Parts) → is_zeros g ≡ false
    → group_begin g parts + page * group_pages g parts ≤ bytes_in_file parts
in-file Code parts h = omega arith
in-file Consts parts h = omega arith
in-file Vars parts h = omega arith
in-file Zeros parts h = cc

in-all : (g : Group) (parts : Parts)
    → group_begin g parts + page * group_pages g parts ≤ page * all_pages parts
in-all Code parts = omega arith
in-all Consts parts = omega arith
in-all Vars parts = omega arith
in-all Zeros parts = omega arith

-- the slots lie in the file
slots-inside' : (end : ℕ) (slots : List Target)
    → aligned 8 end + 8 * length slots ≤ page * pages_of (end_with_slots end slots)
slots-inside' end [] = omega arith
slots-inside' end (t ∷ ts) = in-pages (aligned 8 end + 8 * length (t ∷ ts))

pub slots-inside : (parts : Parts)
    → slots_begin parts + 8 * length (slots_of parts) ≤ bytes_in_file parts
slots-inside parts =
    let h = slots-inside' (end_of Vars (program_pieces parts)) (slots_of parts) in omega (arith, h)

-- ---- one piece

stands-inside : (parts : Parts) (y : PlacedPiece) → StandsInGroup parts y → is_piece y.1 ≡ true
    → IsInside (bytes_in_file parts) y
stands-inside parts y h p = record { inside = λ some. go (is_zeros y.1.group) refl some } where
  go : (b : Bool) → is_zeros y.1.group ≡ b → 0 < length y.1.bytes
      → y.0 + length y.1.bytes ≤ bytes_in_file parts
  go true e some =
      let n : length y.1.bytes ≡ 0 = piece-bytes y.1 p ∙ (λ i. if e i then 0 else y.1.size) in
      absurd (omega arith)
  go false e some =
      let n : length y.1.bytes ≡ y.1.size = piece-bytes y.1 p
      ∙ (λ i. if e i then 0 else y.1.size) in
      let end = end-inside y.1.group parts in
      let all = in-file y.1.group parts e in
      omega (arith, h.to, end, all)

stands-low : (parts : Parts) (y : PlacedPiece) → StandsInGroup parts y
    → y.0 ≤ page * all_pages parts
stands-low parts y h =
    let end = end-inside y.1.group parts in
    let all = in-all y.1.group parts in
    omega (arith, h.to, end, all)

-- ---- by number

pub leaf-at : (parts : Parts) (places : List (List ℕ)) (leaves : List Entry) (k : ℕ) (leaf : Entry)
    → LeavesStand parts places leaves
    → k < length leaves → leaf ≡ get_or leaves k leaf → LeafStands parts (get_or places k [], leaf)
leaf-at parts places leaves k leaf h lt e =
    let n = h.count in
    let row : get_or places k [] ≡ get_or places k (get_or places k []) =
    get_or_default places k [] (get_or places k []) (omega arith) in
    subst (LeafStands parts) (pair-at places leaves k (get_or places k []) leaf n lt row e)
    (h.each k (get_or places k [], leaf) (omega (arith, length-zip places leaves)))

pub piece-at : (parts : Parts) (row : List ℕ) (leaf : Entry) (j : ℕ) (p : Piece)
    → LeafStands parts (row, leaf)
    → j < length (pieces_in leaf) → p ≡ get_or (pieces_in leaf) j p
    → StandsInGroup parts (get_or row j 0, p)
piece-at parts row leaf j p h lt e =
    let n = h.count in
    let place : get_or row j 0 ≡ get_or row j (get_or row j 0) =
    get_or_default row j 0 (get_or row j 0) (omega arith) in
    subst (StandsInGroup parts) (pair-at row (pieces_in leaf) j (get_or row j 0) p n lt place e)
    (h.each j (get_or row j 0, p) (omega (arith, length-zip row (pieces_in leaf))))

pub place-in : (places : List (List ℕ)) (leaf piece : ℕ)
    → place_in places leaf piece ≡ get_or (get_or places leaf []) piece 0
place-in places leaf piece =
    unwrap_or-slice_get (unwrap_or (slice_get places leaf) []) piece 0
    ∙ ap (λ (row : List ℕ). get_or row piece 0) (unwrap_or-slice_get places leaf [])

-- ---- all pieces

leaf-inside : (parts : Parts) (x : List ℕ × Entry) → LeafStands parts x → IsLawful x.1
    → IsLeafInside (bytes_in_file parts) x
leaf-inside parts x h lawful =
    record {
      count = h.count;
      each = λ k d lt.
          let n = h.count in
          let m = length-zip x.0 (pieces_in x.1) in
          let e = get_or-zip x.0 (pieces_in x.1) k d (omega (arith, m)) (omega (arith, m)) in
          subst (IsInside (bytes_in_file parts)) (sym e)
          (stands-inside parts _ (subst (StandsInGroup parts) e (h.each k d lt))
          ((tested (object_of x.1) lawful).pieces k d.1 (omega (arith, m))));
    }

pub all-inside : (parts : Parts) (places : List (List ℕ)) (leaves : List Entry)
    → LeavesStand parts places leaves
    → All IsLawful leaves → AreInside (bytes_in_file parts) places leaves
all-inside parts places leaves h lawful =
    record {
      count = h.count;
      each = λ k d lt.
          let n = h.count in
          let m = length-zip places leaves in
          let e = get_or-zip places leaves k d (omega (arith, m)) (omega (arith, m)) in
          subst (IsLeafInside (bytes_in_file parts)) (sym e)
          (leaf-inside parts _ (subst (LeafStands parts) e (h.each k d lt))
          (lawful k d.1 (omega (arith, m))));
    }

low-row : (parts : Parts) (row : List ℕ) (leaf : Entry) (j : ℕ) → LeafStands parts (row, leaf)
    → all_pages parts ≤ 2047
    → get_or row j 0 ≤ max_place
low-row parts row leaf j h few =
    let n = h.count in
    elim (slice_get_cases (pieces_in leaf) j).1 [
      | inl w ↦
          let s : get_or row j 0 ≤ page * all_pages parts =
          stands-low parts (get_or row j 0, w.0)
          (piece-at parts row leaf j w.0 h w.1 (sym w.3)) in
          omega (arith, s)
      | inr w ↦ let e = get_or_past row j 0 (omega (arith, w.0)) in omega (arith, e)
    ]

pub all-low : (parts : Parts) (places : List (List ℕ)) (leaves : List Entry)
    → LeavesStand parts places leaves
    → all_pages parts ≤ 2047 → AreLow places
all-low parts places leaves h few =
    record {
      low = λ leaf piece. subst (λ n. n ≤ max_place) (sym (place-in places leaf piece))
          (each leaf piece);
    } where
      each : (leaf piece : ℕ) → get_or (get_or places leaf []) piece 0 ≤ max_place
      each leaf piece =
          let n = h.count in
          elim (slice_get_cases leaves leaf).1 [
            | inl w ↦ low-row parts (get_or places leaf []) w.0 piece
                (leaf-at parts places leaves leaf w.0 h w.1 (sym w.3)) few
            | inr w ↦
                let e : get_or places leaf [] ≡ [] =
                get_or_past places leaf [] (omega (arith, w.0)) in
                let z : get_or (get_or places leaf []) piece 0 ≡ 0 =
                ap (λ (row : List ℕ). get_or row piece 0) e in
                omega (arith, z)
          ]

-- ---- fields

field-inside : (parts : Parts) (places : List (List ℕ)) (leaves : List Entry) (k : ℕ) (leaf : Entry)
    (x : Fixup)
    → LeafStands parts (get_or places k [], leaf) → is_fixup (pieces_in leaf) x ≡ true
    → IsFieldInside (bytes_in_file parts) places k (field_of x)
field-inside parts places leaves k leaf x h fix =
    let field =
    (and_parts (is_field (pieces_in leaf) x.piece x.offset (width x.kind))
    (is_aim (pieces_in leaf) x.aim) fix).0 in
    let row = get_or places k [] in
    elim (slice_get_cases (pieces_in leaf) x.piece).1 [
      | inl w ↦
          let is : (not (is_zeros w.0.group) && nat_le (x.offset + width x.kind) w.0.size) ≡ true =
          sym (ap (λ (o : Option Piece). option_map_or
          (λ p. not (is_zeros p.group) && nat_le (x.offset + width x.kind) p.size) o false) w.2)
          ∙ field in
          let both =
          and_parts (not (is_zeros w.0.group)) (nat_le (x.offset + width x.kind) w.0.size) is in
          let fits = leb-true (x.offset + width x.kind) w.0.size both.1 in
          let s : StandsInGroup parts (get_or row x.piece 0, w.0) =
          piece-at parts row leaf x.piece w.0 h w.1 (sym w.3) in
          let end = end-inside w.0.group parts in
          let all = in-file w.0.group parts (not-true (is_zeros w.0.group) both.0) in
          let place = place-in places k x.piece in
          record { inside = omega (arith, s.to, end, all, fits, place) }
      | inr w ↦
          absurd
          (false≢true
          (sym (ap (λ (o : Option Piece). option_map_or
          (λ p. not (is_zeros p.group) && nat_le (x.offset + width x.kind) p.size) o false) w.1)
          ∙ field))
    ]

pub fields-inside : (parts : Parts) (places : List (List ℕ)) (leaves : List Entry)
    → LeavesStand parts places leaves
    → All IsLawful leaves → AreFieldsInside (bytes_in_file parts) places leaves
fields-inside parts places leaves h lawful =
    record {
      each = λ k leaf lt e.
          All-map (IsFieldInside (bytes_in_file parts) places k) field_of (fixups_in leaf)
          (λ j d within. field-inside parts places leaves k leaf (get_or (fixups_in leaf) j d)
          (leaf-at parts places leaves k leaf h lt e)
          ((tested (object_of leaf) (subst IsLawful (sym e) (lawful k leaf lt))).fixups
          j d within));
    }
