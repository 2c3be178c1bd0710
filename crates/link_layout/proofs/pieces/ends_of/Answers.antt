use Rattle.std.proofs.Common.{arith}
use Rattle.std.proofs.lemmas.Grind.{common_steps}
use Rattle.link_layout.proofs.pieces.ends_of.Goals as goal

pub loop-leaf-preserved : goal.loop-leaf-preserved
loop-leaf-preserved c =
    record {
      ends = λ g. grind (
        arith,
        common_steps,
        c.loop-leaf.invariant.ends g,
        c.lay_pieces.ensures.ends g,
      );
      near = λ g. omega (arith, c.loop-leaf.invariant.near g, c.lay_pieces.ensures.near g);
    }
