use Rattle.std.proofs.Common.{arith}
use Rattle.stream_reads.proofs.Grown.{grew_more}
use Rattle.stream_reads.proofs.exact.read_exactly.Goals as goal

pub returns-in-Ok-End-clause-filled : goal.returns-in-Ok-End-clause-filled
returns-in-Ok-End-clause-filled g c =
    let more = rw c.in-Ok-End.field-0-is at c.in-Ok-End.ensures.read in (
      grew_more _ _ _ _ _ _ _ _ c.pieces.invariant.0 more,
      omega (arith, c.pieces-test.true, more.advances.0),
      more.advances.1,
    )

pub returns-in-Ok-Failed-clause-filled : goal.returns-in-Ok-Failed-clause-filled
returns-in-Ok-Failed-clause-filled g c =
    let more = rw c.in-Ok-Failed.field-0-is at c.in-Ok-Failed.ensures.read in (
      grew_more _ _ _ _ _ _ _ _ c.pieces.invariant.0 more,
      omega (arith, c.pieces-test.true, more.advances),
    )
