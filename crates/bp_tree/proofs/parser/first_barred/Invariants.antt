use Rattle.std.proofs.Common.{length}
use Rattle.bp_tree.specs.inside.Pending.{pending}
use Rattle.bp_tree.proofs.Images.{Passed}
use Rattle.bp_tree.proofs.parser.first_barred.Given as goal

abbrev pub invariant-tokens : goal.invariant-tokens
invariant-tokens l = Passed (pending l.fn.from) (pending l.rest)

abbrev pub decreases-tokens : goal.decreases-tokens
decreases-tokens l = length (pending l.rest)
