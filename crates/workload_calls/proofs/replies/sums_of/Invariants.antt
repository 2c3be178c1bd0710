use Rattle.std.proofs.Common.{length}
use Rattle.workload_calls.proofs.Summing.{Reads}
use Rattle.workload_calls.proofs.replies.sums_of.Given as goal

abbrev pub invariant-replies : goal.invariant-replies
invariant-replies l = Reads l.bytes l.rest l.sums

abbrev pub decreases-replies : goal.decreases-replies
decreases-replies l = length l.rest
