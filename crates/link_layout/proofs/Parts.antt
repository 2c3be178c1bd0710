-- The parts of a module, from its leaves and landings.
use Rattle.std.proofs.Common.{◌≡◌, ℕ, ◌+◌, ◌≤◌, Bool, true, false, cond, List, [], ◌∷◌, ◌++◌}
use Rattle.std.proofs.Common.{length, map, fold, filter}
use Rattle.std.proofs.Common.{Option, refl, sym, ap, ◌∙◌, arith}
use Rattle.std.specs.List.{enumerate_from, flat_map, sum_by, zip}
use Rattle.std.specs.Option.{option_or}
use Rattle.std.proofs.lemmas.List.{map-append, length_push}
use Rattle.std.proofs.lemmas.List.Elements.{filter-append}
use Rattle.std.proofs.lemmas.List.Folds.{flat_map-map}
use Rattle.std.proofs.lemmas.List.Sums.{fold-append, sum_by-cons}
use Rattle.std.proofs.lemmas.Slice.Zip.{firsts-zip, length-zip}
use Rattle.omos_model.specs.declared.entry.Entry.{Entry}
use Rattle.omos_model.specs.declared.fragment.Fixup.{Fixup}
use Rattle.omos_model.specs.declared.fragment.Piece.{Piece}
use Rattle.omos_model.specs.declared.mark.Landing.{Landing}
use Rattle.omos_model.specs.declared.mark.Target.{Target}
use Rattle.omos_model.specs.declared.refusal.Refusal.{Refusal}
use Rattle.omos_model.proofs.Joined.{option_or_assoc}
use Rattle.link_model.specs.Program.{Part, Parts, Reference, reference_of, references_in}
use Rattle.link_model.specs.Module.{part_with}
use Rattle.link_model.specs.Plan.{first_in, unresolved}
use Rattle.link_model.specs.Layout.{is_got, is_slot, slots_of, target_at, with_slot}
use Rattle.link_model.specs.Layout.{program_pieces, places_behind, places_from, places_of}
use Rattle.link_layout.specs.Layout.{places_over}
use Rattle.link_layout.specs.Pieces.{all_pieces, pieces_in}
use Rattle.link_layout.specs.inside.References.{refusal_among, refusal_for, refusal_of_leaf}
use Rattle.link_layout.specs.Slots.{fixups_in, slots_with, slots_with_leaf}

abbrev Rows : Type 0
Rows = List (Entry × List Landing)

-- ---- pieces

pub pieces-parts : (leaves : List Entry) (landings : List (List Landing))
    → length landings ≡ length leaves
    → program_pieces (map part_with (zip leaves landings)) ≡ all_pieces leaves
pieces-parts leaves landings same =
    flat_map-map (λ (x : Part). x.object.pieces) part_with (zip leaves landings)
    ∙ sym (flat_map-map pieces_in (λ (x : Entry × List Landing). x.0) (zip leaves landings))
    ∙ ap all_pieces (firsts-zip leaves landings same)

places-rows : (parts : Parts) (before : List Piece) (rows : Rows)
    → places_from parts before (map part_with rows) ≡ places_over parts before (map (λ x. x.0) rows)
places-rows parts before [] = refl
places-rows parts before (x ∷ xs) =
    ap (λ r. places_behind parts before (pieces_in x.0) ∷ r)
    (places-rows parts (before ++ pieces_in x.0) xs)

pub places-parts : (leaves : List Entry) (landings : List (List Landing))
    → length landings ≡ length leaves
    → let parts = map part_with (zip leaves landings) in
    places_of parts ≡ places_over parts [] leaves
places-parts leaves landings same =
    let parts = map part_with (zip leaves landings) in
    places-rows parts [] (zip leaves landings)
    ∙ ap (places_over parts []) (firsts-zip leaves landings same)

-- ---- slots

abbrev got : Reference → Bool
got r = is_got r.fixup.kind

abbrev landed_at : Reference → Target
landed_at r = target_at r.landing

row-slots : (leaf k : ℕ) (acc : List Target) (ys : List (Fixup × Landing))
    → fold with_slot acc
    (map landed_at (filter got (map (reference_of leaf) (enumerate_from k ys))))
    ≡ fold slots_with acc ys
row-slots leaf k acc [] = refl
row-slots leaf k acc (y ∷ ys) =
    go (is_got y.0.kind) (row-slots leaf (k + 1) (with_slot acc (target_at y.1)) ys)
    (row-slots leaf (k + 1) acc ys)
  where
    rest : List Reference
    rest = filter got (map (reference_of leaf) (enumerate_from (k + 1) ys))

    go : (b : Bool)
        → fold with_slot (with_slot acc (target_at y.1)) (map landed_at rest)
        ≡ fold slots_with (with_slot acc (target_at y.1)) ys
        → fold with_slot acc (map landed_at rest) ≡ fold slots_with acc ys
        → fold with_slot acc (map landed_at (cond b (reference_of leaf (k, y) ∷ rest) rest))
        ≡ fold slots_with (cond b (with_slot acc (target_at y.1)) acc) ys
    go true there not_there = there
    go false there not_there = not_there

rows-slots : (n : ℕ) (acc : List Target) (xs : Rows)
    → fold with_slot acc
    (map landed_at (filter got (flat_map references_in (enumerate_from n (map part_with xs)))))
    ≡ fold slots_with_leaf acc xs
rows-slots n acc [] = refl
rows-slots n acc (x ∷ xs) =
    let front = references_in (n, part_with x) in
    let back = flat_map references_in (enumerate_from (n + 1) (map part_with xs)) in
    ap (λ rs. fold with_slot acc (map landed_at rs)) (filter-append got front back)
    ∙ ap (fold with_slot acc) (map-append landed_at (filter got front) (filter got back))
    ∙ fold-append with_slot acc (map landed_at (filter got front)) (map landed_at (filter got back))
    ∙ ap (λ a. fold with_slot a (map landed_at (filter got back)))
    (row-slots n 0 acc (zip (fixups_in x.0) x.1))
    ∙ rows-slots (n + 1) (slots_with_leaf acc x) xs

pub slots-parts : (leaves : List Entry) (landings : List (List Landing))
    → slots_of (map part_with (zip leaves landings)) ≡ fold slots_with_leaf [] (zip leaves landings)
slots-parts leaves landings = rows-slots 0 [] (zip leaves landings)

-- ---- no more slots than references

one_more : (slots : List Target) (r : Fixup × Landing)
    → length (slots_with slots r) ≤ length slots + 1
one_more slots r = go (is_got r.0.kind) (is_slot slots (target_at r.1))
  where
    go : (b c : Bool)
        → length (cond b (cond c slots (slots ++ target_at r.1 ∷ [])) slots) ≤ length slots + 1
    go true true = omega arith
    go true false = omega (arith, length_push slots (target_at r.1))
    go false c = omega arith

row_more : (slots : List Target) (ys : List (Fixup × Landing))
    → length (fold slots_with slots ys) ≤ length slots + length ys
row_more slots [] = omega arith
row_more slots (y ∷ ys) =
    omega (arith, row_more (slots_with slots y) ys, one_more slots y)

pub few-slots : (slots : List Target) (leaves : List Entry) (landings : List (List Landing))
    → length (fold slots_with_leaf slots (zip leaves landings)) ≤ length slots + sum_by length
    landings
few-slots slots [] landings = omega arith
few-slots slots (x ∷ xs) [] = omega arith
few-slots slots (x ∷ xs) (y ∷ ys) =
    omega (
      arith,
      few-slots (slots_with_leaf slots (x, y)) xs ys,
      row_more slots (zip (fixups_in x) y),
      length-zip (fixups_in x) y,
      sum_by-cons (λ (ls : List Landing). length ls) y ys,
    )

-- ---- references

pub first_in-append : {X : Type 0} (f : X → Option Refusal) (xs ys : List X)
    → first_in f (xs ++ ys) ≡ option_or (first_in f xs) (first_in f ys)
first_in-append f [] ys = refl
first_in-append f (x ∷ xs) ys =
    ap (option_or (f x)) (first_in-append f xs ys)
    ∙ sym (option_or_assoc (f x) (first_in f xs) (first_in f ys))

rows-refused : (n : ℕ) (xs : Rows)
    → first_in refusal_for (flat_map references_in (enumerate_from n (map part_with xs)))
    ≡ refusal_among (enumerate_from n xs)
rows-refused n [] = refl
rows-refused n (x ∷ xs) =
    first_in-append refusal_for (references_in (n, part_with x))
    (flat_map references_in (enumerate_from (n + 1) (map part_with xs)))
    ∙ ap (option_or (refusal_of_leaf (n, x))) (rows-refused (n + 1) xs)

pub unresolved-parts : (leaves : List Entry) (landings : List (List Landing))
    → unresolved (map part_with (zip leaves landings))
    ≡ refusal_among (enumerate_from 0 (zip leaves landings))
unresolved-parts leaves landings = rows-refused 0 (zip leaves landings)
