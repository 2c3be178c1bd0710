use Rattle.module_table.proofs.Objects.{leaf_row}
use Rattle.module_table.proofs.marks.row.Goals as goal

pub returns : goal.returns
returns c s f is =
    leaf_row c.args.number s c.args.entry c.get.result.now c.in-Object.fragment f
    c.fixups.result.now c.aims.result.now c.in_ok-marks.marks c.get.ensures c.in-Object.is
    c.fixups.ensures.fixups c.aims.ensures c.in_ok-marks.ensures is
