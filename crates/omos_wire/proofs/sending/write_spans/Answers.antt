use Rattle.std.proofs.Common.{arith}
use Rattle.omos_wire.proofs.Parts.{spans_more, spans_failed}
use Rattle.omos_wire.proofs.sending.write_spans.Goals as goal

pub placements-preserved : goal.placements-preserved
placements-preserved g c =
    let piece = c.split_at-in-placements.ensures in
    let written = rw (c.as_slice.ensures.value, c.spans_of.ensures) at c.in-All.ensures.wrote in (
      omega (arith, piece.front_len, piece.back_len, c.split_at.ensures.back_len),
      spans_more _ _ _ _ _ _ c.placements.done _ c.split_at.ensures.back piece.front piece.front_len
          c.placements.invariant.1 written,
      omega arith,
      λ few. c.in-All.ensures.counts (c.placements.invariant.3 few),
    )

pub returns-in-Failed-clause-wrote : goal.returns-in-Failed-clause-wrote
returns-in-Failed-clause-wrote g c =
    let piece = c.split_at-in-placements.ensures in
    let written = rw (c.as_slice.ensures.value, c.spans_of.ensures) at c.in-Failed.ensures.wrote in
    spans_failed _ _ _ _ _ _ c.placements.done _ c.split_at.ensures.back piece.front
    c.placements.invariant.1 written

pub returns-in-Failed-clause-counts : goal.returns-in-Failed-clause-counts
returns-in-Failed-clause-counts g c =
    λ few. c.in-Failed.ensures.counts (c.placements.invariant.3 few)

pub returns-clause-counts : goal.returns-clause-counts
returns-clause-counts g c = c.placements.invariant.3
