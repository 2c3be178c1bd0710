use Rattle.std.proofs.Common.{◌≡◌, true, ◌||◌}
use Rattle.std.specs.Map.{keys_of}
use Rattle.omos_model.specs.Names.{Name}
use Rattle.omos_model.specs.NameLists.{is_among}
use Rattle.module_eval.specs.inside.Plans.{AreCounts}
use Rattle.module_eval.specs.inside.Times.{never}
use Rattle.module_eval.proofs.plan.made.Given as goal

abbrev pub invariant-read : goal.invariant-read
invariant-read l =
    record {
      counts : AreCounts l.snap.entries never l.counts.entries l.waiting;
      named : (q : Name) → is_among (keys_of l.read.entries) q ≡ true
          → (is_among (keys_of l.counts.entries) q || is_among l.path-iterator q) ≡ true;
    }
