use Rattle.std.proofs.Common.{◌≡◌, map, take}
use Rattle.omos_model.specs.State.{mark_of}
use Rattle.module_table.proofs.marks.marks_of.Given as goal

abbrev pub invariant-loop-aim : goal.invariant-loop-aim
invariant-loop-aim l =
    l.marks ≡ map (mark_of l.leaf) (take l.aim-index l.aims)
