use Rattle.module_eval.specs.inside.Plans.{AreCounts, StayCounted}
use Rattle.module_eval.specs.inside.Times.{never}
use Rattle.module_eval.proofs.plan.count_all.Given as goal

abbrev pub invariant-steps : goal.invariant-steps
invariant-steps l =
    record {
      counts : AreCounts l.snap.entries never l.counts.entries l.waiting;
      stay : StayCounted l.fn.counts.entries l.counts.entries;
    }
