use Rattle.std.proofs.Common.{◌≤◌, drop, length}
use Rattle.std.specs.List.{zip}
use Rattle.image_write.specs.inside.Painted.{Painted}
use Rattle.image_write.specs.inside.Sections.{first_byte}
use Rattle.image_write.proofs.sections.copy_leaf.Given as goal

abbrev pub invariant-loop-at : goal.invariant-loop-at
invariant-loop-at l =
    record {
      within : l.at ≤ length l.pieces;
      painted : Painted l.body (first_byte (drop l.at (zip l.places l.pieces))) l.fn.body;
    }

abbrev pub decreases-loop-at : goal.decreases-loop-at
decreases-loop-at l = l.at
