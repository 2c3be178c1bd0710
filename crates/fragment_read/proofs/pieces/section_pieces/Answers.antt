use Rattle.std.proofs.Common.{◌≡◌, ◌-◌, ◌∷◌, ◌++◌, [], List, ℕ, sym, ap, ◌∙◌, map, arith}
use Rattle.std.specs.Prelude.{filter}
use Rattle.omos_model.specs.ElfFields.{e_shnum}
use Rattle.omos_model.specs.ElfFaults.{is_kept}
use Rattle.omos_model.specs.FragmentOf.{piece_of_section}
use Rattle.omos_model.specs.Numbers.{numbers_from}
use Rattle.omos_model.specs.declared.fragment.Piece.{Piece}
use Rattle.fragment_read.proofs.Counted.{pick_more, pick_none}
use Rattle.fragment_read.proofs.pieces.section_pieces.Goals as goal
use Rattle.fragment_read.proofs.pieces.section_pieces.Goals.{then-kept+in_ok-piece_of_section+in_ok-push}
use Rattle.fragment_read.proofs.pieces.section_pieces.Goals.{else-kept}

pub loop-i-preserved : goal.loop-i-preserved
loop-i-preserved c =
    let file = c.args.tables.now in
    record {
      pieces = elim c.if-kept.branch [
        | then-kept+in_ok-piece_of_section+in_ok-push w ↦
            w.pieces-is ∙ w.in_ok-push.ensures.added
            ∙ ap (λ (ps : List Piece). ps ++ w.in_ok-piece_of_section.field-0 ∷ [])
            c.loop-i.invariant.pieces
            ∙ ap (λ (p : Piece). map (piece_of_section file)
            (filter (is_kept file) (numbers_from 1 (c.loop-i.i - 1))) ++ p ∷ [])
            w.in_ok-piece_of_section.ensures
            ∙ sym (pick_more (is_kept file) (piece_of_section file) c.loop-i.i c.loop-i.auto.i
            (sym c.kept.ensures ∙ w.if-kept.true))
        | else-kept w ↦
            w.pieces-is ∙ c.loop-i.invariant.pieces
            ∙ sym (pick_none (is_kept file) (piece_of_section file) c.loop-i.i c.loop-i.auto.i
            (sym c.kept.ensures ∙ w.if-kept.false))
      ];
      within = omega (arith, c.sections-i-end.ensures.count);
    }

pub returns : goal.returns
returns c =
    let file = c.args.tables.now in
    let end : c.loop-i.i - 1 ≡ e_shnum file - 1 =
    omega (arith, c.sections-i-end.ensures.count, c.loop-i.invariant.within) in
    c.loop-i.invariant.pieces
    ∙ ap (λ (n : ℕ). map (piece_of_section file) (filter (is_kept file) (numbers_from 1 n))) end
