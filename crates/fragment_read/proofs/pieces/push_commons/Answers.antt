use Rattle.std.proofs.Common.{◌≡◌, ◌-◌, ◌∷◌, ◌++◌, [], List, ℕ, sym, ap, ◌∙◌, map, arith}
use Rattle.std.proofs.Common.{append_assoc}
use Rattle.std.specs.Prelude.{filter}
use Rattle.omos_model.specs.ElfFields.{symbol_count}
use Rattle.omos_model.specs.FragmentOf.{is_common, piece_of_common}
use Rattle.omos_model.specs.Numbers.{numbers_from}
use Rattle.omos_model.specs.declared.fragment.Piece.{Piece}
use Rattle.fragment_read.proofs.Counted.{pick_more, pick_none}
use Rattle.fragment_read.proofs.pieces.push_commons.Goals as goal
use Rattle.fragment_read.proofs.pieces.push_commons.Goals.{then-is_common+in_ok-piece_of_common+in_ok-push}
use Rattle.fragment_read.proofs.pieces.push_commons.Goals.{else-is_common}

pub loop-k-preserved : goal.loop-k-preserved
loop-k-preserved c =
    let file = c.args.tables.now in
    let before = c.args.pieces.now in
    let so_far =
    map (piece_of_common file) (filter (is_common file) (numbers_from 1 (c.loop-k.k - 1))) in
    record {
      pieces = elim c.if-is_common.branch [
        | then-is_common+in_ok-piece_of_common+in_ok-push w ↦
            w.pieces-is ∙ w.in_ok-push.ensures.added
            ∙ ap (λ (ps : List Piece). ps ++ w.in_ok-piece_of_common.field-0 ∷ [])
            c.loop-k.invariant.pieces
            ∙ append_assoc before so_far (w.in_ok-piece_of_common.field-0 ∷ [])
            ∙ ap (λ (p : Piece). before ++ (so_far ++ p ∷ [])) w.in_ok-piece_of_common.ensures
            ∙ ap (λ (ps : List Piece). before ++ ps)
            (sym (pick_more (is_common file) (piece_of_common file) c.loop-k.k c.loop-k.auto.k
            (sym c.is_common.ensures ∙ w.if-is_common.true)))
        | else-is_common w ↦
            w.pieces-is ∙ c.loop-k.invariant.pieces
            ∙ ap (λ (ps : List Piece). before ++ ps)
            (sym (pick_none (is_common file) (piece_of_common file) c.loop-k.k c.loop-k.auto.k
            (sym c.is_common.ensures ∙ w.if-is_common.false)))
      ];
      within = omega (arith, c.symbols-k-end.ensures.count);
    }

pub returns : goal.returns
returns c =
    let file = c.args.tables.now in
    let end : c.loop-k.k - 1 ≡ symbol_count file - 1 =
    omega (arith, c.symbols-k-end.ensures.count, c.loop-k.invariant.within) in
    c.loop-k.invariant.pieces
    ∙ ap (λ (n : ℕ). c.args.pieces.now
    ++ map (piece_of_common file) (filter (is_common file) (numbers_from 1 n))) end
