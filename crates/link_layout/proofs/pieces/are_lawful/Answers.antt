use Rattle.std.proofs.Common.{arith, subst, sym}
use Rattle.std.proofs.lemmas.List.{take_all}
use Rattle.std.proofs.lemmas.List.Elements.{All-more, All-same}
use Rattle.link_layout.specs.Pieces.{IsLawful}
use Rattle.link_layout.proofs.pieces.are_lawful.Goals as goal

pub loop-leaf-preserved : goal.loop-leaf-preserved
loop-leaf-preserved c =
    All-more IsLawful c.args.leaves.now c.loop-leaf.leaf-index c.leaf-item.result (omega arith)
    c.loop-leaf.invariant (subst IsLawful c.leaf-item.is c.pieces_in-pieces.ensures.lawful)

pub returns : goal.returns
returns c =
    All-same IsLawful c.args.leaves.now _
    (sym (take_all c.loop-leaf.leaf-index c.args.leaves.now (omega arith)))
    c.loop-leaf.invariant
