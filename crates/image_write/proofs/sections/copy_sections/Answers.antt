use Rattle.std.proofs.Common.{length, sym, ap, ◌∙◌, arith}
use Rattle.image_write.proofs.Sectioned.{leaf-each, leaf-inside, leaves-go}
use Rattle.image_write.proofs.sections.copy_sections.Goals as goal

pub copy_leaf-requires-clause-count : goal.copy_leaf-requires-clause-count
copy_leaf-requires-clause-count c =
    let h = leaf-inside _ _ c.args.places.now c.args.leaves.now _ _ _ c.requires (omega arith)
    c.index-places-at.is c.index-leaves-at.is c.loop-at.invariant.painted.size in
    ap length c.as_slice.ensures ∙ h.count ∙ ap length (sym c.pieces_in.ensures.pieces)

pub copy_leaf-requires-clause-inside : goal.copy_leaf-requires-clause-inside
copy_leaf-requires-clause-inside c =
    let h = leaf-inside _ _ c.args.places.now c.args.leaves.now _ _ _ c.requires (omega arith)
    c.index-places-at.is c.index-leaves-at.is c.loop-at.invariant.painted.size in
    leaf-each _ _ _ _ _ h c.as_slice.ensures c.pieces_in.ensures.pieces

pub loop-at-preserved : goal.loop-at-preserved
loop-at-preserved c =
    let h = leaf-inside _ _ c.args.places.now c.args.leaves.now _ _ _ c.requires (omega arith)
    c.index-places-at.is c.index-leaves-at.is c.loop-at.invariant.painted.size in
    record {
      within = omega arith;
      painted =
          leaves-go c.args.places.now c.args.leaves.now _ c.loop-at.at _ _ _ _ _ _ _
          c.requires.count (omega arith) c.index-places-at.is c.index-leaves-at.is h.count
          c.as_slice.ensures c.pieces_in.ensures.pieces (omega arith) c.copy_leaf.ensures
          c.loop-at.invariant.painted;
    }
