use Rattle.std.specs.Prelude.{codes, decimal}
use Rattle.workload_calls.proofs.Joined.{line_by}
use Rattle.workload_calls.proofs.line.line_of.Goals as goal

pub returns : goal.returns
returns c =
    let first = rw c.from.ensures at c.in_ok-push_count.ensures in
    line_by (codes "objects ") (decimal c.args.n) (codes " images ")
    (decimal c.args.sums.now.images) (codes " bytes ") (decimal c.args.sums.now.bytes)
    (codes " hits ") (decimal c.args.figures.now.hits) (codes " evicted ")
    (decimal c.args.figures.now.evicted)
    (codes " placements ") (decimal c.args.figures.now.placements) (codes " version ")
    (decimal c.args.figures.now.version) (codes "\n")
    _ _ _ _ _ _ _ _ _ c.in_ok-line.ensures first c.in_ok-push_count-2.ensures
    c.in_ok-push_count-3.ensures c.in_ok-push_count-4.ensures
    c.in_ok-push_count-5.ensures c.in_ok-push_count-6.ensures c.in_ok-push_count-7.ensures
    c.in_ok-push_slice.ensures.added
