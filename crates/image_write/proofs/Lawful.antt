-- What holds of the pieces and fixups of a lawful fragment.
use Rattle.std.proofs.Common.{◌≡◌, ◌≤◌, All, length, true, rules, tests}
use Rattle.std.specs.Prelude.{if◌then◌else◌, nat_le, ◌&&◌}
use Rattle.std.specs.List.{list_all}
use Rattle.std.proofs.lemmas.Bool.{and_parts, leb-true}
use Rattle.std.proofs.lemmas.List.Elements.{All-weaker}
use Rattle.std.proofs.lemmas.List.Sums.{AllPass-from_list_all}
use Rattle.omos_model.specs.FragmentParts.{FragmentParts, IsFragment, are_distinct, is_fixup}
use Rattle.omos_model.specs.FragmentParts.{is_in_bounds, is_piece, is_spot, is_zeros, max_entries}
use Rattle.omos_model.specs.FragmentParts.{max_pieces}
use Rattle.omos_model.specs.declared.fragment.Piece.{Piece}
use Rattle.link_layout.specs.Pieces.{AreBounded, IsBoundedPiece}

pub record IsTested (f : FragmentParts) : Type 0 where
  pub count : length f.pieces ≤ max_pieces
  pub pieces : All (λ p. is_piece p ≡ true) f.pieces
  pub fixups : All (λ x. is_fixup f.pieces x ≡ true) f.fixups

pub tested : (f : FragmentParts) → IsFragment f → IsTested f
tested f h =
    let a = nat_le (length f.pieces) max_pieces in
    let b = nat_le (length f.exports) max_entries in
    let c = nat_le (length f.fixups) max_entries in
    let d = list_all is_piece f.pieces in
    let e = list_all (λ x. is_spot f.pieces x.spot) f.exports in
    let g = list_all (is_fixup f.pieces) f.fixups in
    let six =
    and_parts (a && b && c && d && e) g
    (and_parts (is_in_bounds f) (are_distinct f.exports) h).0 in
    let four = and_parts (a && b && c) d (and_parts (a && b && c && d) e six.0).0 in
    let two = and_parts a b (and_parts (a && b) c four.0).0 in
    record {
      count = leb-true (length f.pieces) max_pieces two.0;
      pieces = AllPass-from_list_all is_piece f.pieces four.1;
      fixups = AllPass-from_list_all (is_fixup f.pieces) f.fixups six.1;
    }

one-bounded : (p : Piece) → is_piece p ≡ true → IsBoundedPiece p
one-bounded p h = search (rules, tests)

pub bounded : (f : FragmentParts) → IsFragment f → AreBounded f.pieces
bounded f h =
    let t = tested f h in
    record {
      count = t.count;
      each = All-weaker (λ p. is_piece p ≡ true) IsBoundedPiece one-bounded f.pieces t.pieces;
    }

pub piece-bytes : (p : Piece) → is_piece p ≡ true
    → length p.bytes ≡ (if is_zeros p.group then 0 else p.size)
piece-bytes p h = search (rules, tests)
