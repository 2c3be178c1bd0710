-- In a layout each piece stands in its group.
use Rattle.std.proofs.Common.{◌≡◌, ℕ, suc, ◌+◌, ◌≤◌, List, [], ◌∷◌, ◌++◌, All, length, map, fold}
use Rattle.std.proofs.Common.{Bool, true, false, cond, refl, sym, ap, ◌∙◌, arith, append_assoc}
use Rattle.std.specs.List.{zip}
use Rattle.std.proofs.lemmas.List.Elements.{All-append, All-cons, All-head, All-nil, All-tail}
use Rattle.std.proofs.lemmas.List.Sums.{fold-append}
use Rattle.omos_model.specs.declared.entry.Entry.{Entry}
use Rattle.omos_model.specs.declared.fragment.Group.{Group}
use Rattle.omos_model.specs.declared.fragment.Group.TheVariants.{Code, Consts, Vars, Zeros}
use Rattle.omos_model.specs.declared.fragment.Piece.{Piece}
use Rattle.omos_model.specs.declared.mark.Landing.{Landing}
use Rattle.link_model.specs.Layout.{aligned, begin_of, end_of, end_with, program_pieces, place_of}
use Rattle.link_model.specs.Layout.{places_behind, places_from, same_group}
use Rattle.link_model.specs.Module.{part_with}
use Rattle.link_model.specs.Program.{Parts}
use Rattle.link_layout.specs.Pieces.{AreBounded, IsBoundedPiece, all_pieces, pieces_in}
use Rattle.image_write.specs.inside.Standing.{LeafStands, LeavesStand, StandsInGroup}

aligned-above : (align offset : ℕ) → 1 ≤ align → offset ≤ aligned align offset
aligned-above align offset h = omega arith

same_group-refl : (g : Group) → same_group g g ≡ true
same_group-refl Code = refl
same_group-refl Consts = refl
same_group-refl Vars = refl
same_group-refl Zeros = refl

one-grows : (b : Bool) (e f : ℕ) → e ≤ f → e ≤ cond b f e
one-grows true e f h = h
one-grows false e f h = omega arith

-- a group never shrinks
pub ends-grow : (g : Group) (ps : List Piece) (e : ℕ) → All IsBoundedPiece ps
    → e ≤ fold (end_with g) e ps
ends-grow g [] e h = omega arith
ends-grow g (p ∷ ps) e h =
    let bounded = All-head IsBoundedPiece p ps h in
    let up = aligned-above p.align e bounded.some in
    let one : e ≤ end_with g e p =
    one-grows (same_group g p.group) e (begin_of e p + p.size) (omega arith) in
    let rest = ends-grow g ps (end_with g e p) (All-tail IsBoundedPiece p ps h) in
    omega (arith, one, rest)

one-stands : (parts : Parts) (before after : List Piece) (p : Piece)
    → program_pieces parts ≡ before ++ (p ∷ after)
    → IsBoundedPiece p → All IsBoundedPiece after → StandsInGroup parts (place_of parts before p, p)
one-stands parts before after p same bounded rest =
    let g = p.group in
    let end = end_of g before in
    let here : end_with g end p ≡ begin_of end p + p.size =
    ap (λ b. cond b (begin_of end p + p.size) end) (same_group-refl g) in
    let all : end_of g (program_pieces parts) ≡ fold (end_with g) (end_with g end p) after =
    ap (end_of g) same ∙ fold-append (end_with g) 0 before (p ∷ after) in
    let grown = ends-grow g after (end_with g end p) rest in
    record { from = omega arith; to = omega (arith, here, all, grown) }

leaf-stands : (parts : Parts) (before ps after : List Piece)
    → program_pieces parts ≡ before ++ (ps ++ after)
    → All IsBoundedPiece ps → All IsBoundedPiece after
    → (length (places_behind parts before ps) ≡ length ps)
    × All (StandsInGroup parts) (zip (places_behind parts before ps) ps)
leaf-stands parts before [] after same h rest = (refl, All-nil (StandsInGroup parts))
leaf-stands parts before (p ∷ ps) after same h rest =
    let tail = All-tail IsBoundedPiece p ps h in
    let next =
    leaf-stands parts (before ++ p ∷ []) ps after
    (same ∙ sym (append_assoc before (p ∷ []) (ps ++ after))) tail rest in (
      ap suc next.0,
      All-cons (StandsInGroup parts) (place_of parts before p, p)
          (zip (places_behind parts (before ++ p ∷ []) ps) ps)
          (one-stands parts before (ps ++ after) p same (All-head IsBoundedPiece p ps h)
          (All-append IsBoundedPiece ps after tail rest)) next.1,
    )

all-bounded : (leaves : List Entry) → All (λ leaf. AreBounded (pieces_in leaf)) leaves
    → All IsBoundedPiece (all_pieces leaves)
all-bounded [] h = All-nil IsBoundedPiece
all-bounded (leaf ∷ leaves) h =
    All-append IsBoundedPiece (pieces_in leaf) (all_pieces leaves)
    (All-head (λ x. AreBounded (pieces_in x)) leaf leaves h).each
    (all-bounded leaves (All-tail (λ x. AreBounded (pieces_in x)) leaf leaves h))

pub leaves-stand : (parts : Parts) (before : List Piece) (leaves : List Entry)
    (landings : List (List Landing))
    → length landings ≡ length leaves → program_pieces parts ≡ before ++ all_pieces leaves
    → All (λ leaf. AreBounded (pieces_in leaf)) leaves
    → LeavesStand parts (places_from parts before (map part_with (zip leaves landings))) leaves
leaves-stand parts before [] [] n same h =
    record { count = refl; each = All-nil (LeafStands parts) }
leaves-stand parts before [] (l ∷ landings) n same h =
    record { count = refl; each = All-nil (LeafStands parts) }
leaves-stand parts before (leaf ∷ leaves) [] n same h = absurd (omega arith)
leaves-stand parts before (leaf ∷ leaves) (l ∷ landings) n same h =
    let first = All-head (λ x. AreBounded (pieces_in x)) leaf leaves h in
    let tail = All-tail (λ x. AreBounded (pieces_in x)) leaf leaves h in
    let here =
    leaf-stands parts before (pieces_in leaf) (all_pieces leaves) same first.each
    (all-bounded leaves tail) in
    let next =
    leaves-stand parts (before ++ pieces_in leaf) leaves landings (omega arith)
    (same ∙ sym (append_assoc before (pieces_in leaf) (all_pieces leaves))) tail in
    record {
      count = ap suc next.count;
      each =
          All-cons (LeafStands parts) (places_behind parts before (pieces_in leaf), leaf)
          (zip (places_from parts (before ++ pieces_in leaf) (map part_with (zip leaves landings)))
          leaves)
          (record { count = here.0; each = here.1 }) next.each;
    }
