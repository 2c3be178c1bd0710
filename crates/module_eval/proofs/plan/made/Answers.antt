use Rattle.std.proofs.Common.{◌≡◌, true, ◌||◌, subst}
use Rattle.std.specs.Map.{keys_of}
use Rattle.omos_model.specs.NameLists.{is_among}
use Rattle.module_eval.proofs.Planned.{covered, named_on}
use Rattle.module_eval.proofs.plan.made.Goals as goal

pub read-preserved : goal.read-preserved
read-preserved c = record {
  counts = c.in_ok-count.ensures.counts;
  named = λ q r.
      named_on c.read.counts.entries c.count.new.counts.entries c.next.new.self c.in-Some.path.now
      q c.in_ok-count.ensures.stay (rw c.get.ensures at c.in_ok-count.ensures.here)
      (subst (λ ps. (is_among (keys_of c.read.counts.entries) q || is_among ps q) ≡ true)
      c.in-Some.ensures.steps (c.read.invariant.named q r));
}

pub returns-then-branch : goal.returns-then-branch
returns-then-branch c all unspent =
    covered c.args.snap.now.entries c.read.counts.entries c.count_all.new.counts.entries
    c.args.read.now.entries all
    (λ q r. subst (λ ps. (is_among (keys_of c.read.counts.entries) q || is_among ps q) ≡ true)
    c.in-None.ensures.steps.0 (c.read.invariant.named q r))
    c.in_ok-count_all.ensures.stay (c.in_ok-count_all.ensures.counts c.if-branch.true) unspent
