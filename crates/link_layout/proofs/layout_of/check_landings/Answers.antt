use Rattle.link_layout.proofs.Parts.{unresolved-parts}
use Rattle.link_layout.proofs.layout_of.check_landings.Goals as goal

pub check_references-requires : goal.check_references-requires
check_references-requires c = c.requires.leaves

pub returns : goal.returns
returns c =
    rw (unresolved-parts c.args.program.now.leaves.now c.args.program.now.landings.now)
    c.check_references.ensures
