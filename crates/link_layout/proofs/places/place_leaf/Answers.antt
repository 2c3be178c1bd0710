use Rattle.std.proofs.Common.{◌++◌, take, arith}
use Rattle.std.proofs.lemmas.Grind.{common_steps}
use Rattle.link_layout.proofs.Groups.{AreEnds-append}
use Rattle.link_layout.proofs.Standing.{take_next, placed, places_behind-push}
use Rattle.link_layout.proofs.places.place_leaf.Goals as goal

pub loop-piece-preserved : goal.loop-piece-preserved
loop-piece-preserved c =
    let ps = take c.loop-piece.piece-index c.args.pieces.now in
    record {
      places = λ parts before begins ends.
          let now = AreEnds-append c.args.ends.now c.loop-piece.ends before ps ends
          c.loop-piece.invariant.ends in
          let at = placed parts (before ++ ps) c.args.begins.now c.loop-piece.ends
          c.piece-item.result c.lay_piece-begin.result begins now
          c.lay_piece-begin.ensures.begin in
          rw (
            take_next c.args.pieces.now c.loop-piece.piece-index c.piece-item.result
                c.loop-piece-test.true c.piece-item.is,
            places_behind-push parts before ps c.piece-item.result,
            ← at,
            ← c.loop-piece.invariant.places parts before begins ends,
          )
          (grind (arith, common_steps));
      ends = λ g. grind (
        arith,
        common_steps,
        c.lay_piece-begin.ensures.ends g,
        c.loop-piece.invariant.ends g,
      );
      near = λ g. omega (arith, c.lay_piece-begin.ensures.near g, c.loop-piece.invariant.near g);
    }
