use Rattle.std.proofs.Common.{All, take}
use Rattle.link_layout.specs.Pieces.{IsLawful}
use Rattle.link_layout.proofs.pieces.are_lawful.Given as goal

abbrev pub invariant-loop-leaf : goal.invariant-loop-leaf
invariant-loop-leaf l = All IsLawful (take l.leaf-index l.leaves)
