use Rattle.std.proofs.Common.{arith, rules}
use Rattle.image_write.proofs.Sectioned.{inside-at, leaf-begins, leaf-goes}
use Rattle.image_write.proofs.sections.copy_leaf.Goals as goal

pub loop-at-init : goal.loop-at-init
loop-at-init c =
    record {
      within = omega arith;
      painted = leaf-begins c.args.body.now c.args.places.now c.args.pieces.now c.requires.count;
    }

pub copy_piece-requires : goal.copy_piece-requires
copy_piece-requires c =
    inside-at _ _ c.args.places.now c.args.pieces.now _ _ _ c.requires.inside c.requires.count
    (omega arith) (search rules) c.index-pieces-at.is c.loop-at.invariant.painted.size

pub loop-at-preserved : goal.loop-at-preserved
loop-at-preserved c =
    record {
      within = omega arith;
      painted =
          leaf-goes c.args.places.now c.args.pieces.now _ c.loop-at.at _ _ _ _ _ c.requires.count
          (omega arith) (search rules) c.index-pieces-at.is (omega arith) c.copy_piece.ensures
          c.loop-at.invariant.painted;
    }
