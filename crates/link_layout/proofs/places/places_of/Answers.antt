use Rattle.std.proofs.Common.{[], ◌++◌, take, sym, ap, ◌∙◌, arith}
use Rattle.std.proofs.lemmas.Grind.{common_steps}
use Rattle.std.proofs.lemmas.List.{take_all}
use Rattle.link_model.specs.Layout.{end_of}
use Rattle.link_layout.specs.Layout.{places_over}
use Rattle.link_layout.specs.Pieces.{all_pieces}
use Rattle.link_layout.proofs.Groups.{AreEnds-append}
use Rattle.link_layout.proofs.Standing.{take_next, all_pieces-push, places_over-push}
use Rattle.link_layout.proofs.places.places_of.Goals as goal

pub loop-leaf-preserved : goal.loop-leaf-preserved
loop-leaf-preserved c =
    let xs = take c.loop-leaf.leaf-index c.args.leaves.now in
    let next = take_next c.args.leaves.now c.loop-leaf.leaf-index c.leaf-item.result
    c.loop-leaf-test.true c.leaf-item.is in
    record {
      places = λ parts begins.
          let row = c.in_ok-place_leaf.ensures.places parts (all_pieces xs) begins
          c.loop-leaf.invariant.ends in
          rw (
            next,
            places_over-push parts [] xs c.leaf-item.result,
            ← c.pieces_in.ensures.pieces,
            ← row,
            ← c.loop-leaf.invariant.places parts begins,
          )
          (grind (arith, common_steps));
      ends = λ g.
          AreEnds-append c.loop-leaf.ends c.place_leaf.new.ends (all_pieces xs)
          c.pieces_in.result.now c.loop-leaf.invariant.ends c.in_ok-place_leaf.ensures.ends g
          ∙ ap (end_of g) (ap (λ ps. all_pieces xs ++ ps) c.pieces_in.ensures.pieces
          ∙ sym (all_pieces-push xs c.leaf-item.result) ∙ ap all_pieces (sym next));
      near = λ g. omega (arith, c.in_ok-place_leaf.ensures.near g, c.loop-leaf.invariant.near g);
    }

pub returns : goal.returns
returns c = λ parts begins.
    c.from_vec.ensures ∙ c.loop-leaf.invariant.places parts begins
    ∙ ap (places_over parts []) (take_all _ c.args.leaves.now (omega arith))
