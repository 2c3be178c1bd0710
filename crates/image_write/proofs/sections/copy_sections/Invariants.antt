use Rattle.std.proofs.Common.{◌≤◌, drop, length}
use Rattle.image_write.specs.inside.Painted.{Painted}
use Rattle.image_write.specs.inside.Sections.{first_byte, placed_in}
use Rattle.image_write.proofs.sections.copy_sections.Given as goal

abbrev pub invariant-loop-at : goal.invariant-loop-at
invariant-loop-at l =
    record {
      within : l.at ≤ length l.leaves;
      painted : Painted l.body (first_byte (placed_in (drop l.at l.places) (drop l.at l.leaves)))
          l.fn.body;
    }

abbrev pub decreases-loop-at : goal.decreases-loop-at
decreases-loop-at l = l.at
