use Rattle.std.proofs.Common.{◌∙◌, ap, sym, subst, arith}
use Rattle.module_eval.specs.inside.Plans.{AreCounts, IsCounted, StayCounted}
use Rattle.module_eval.specs.inside.Times.{never, occurs_in}
use Rattle.module_eval.proofs.AtPaths.{source_at, source_none}
use Rattle.module_eval.proofs.Planned.{adds_up, counted_here, counted_more, counted_new}
use Rattle.module_eval.proofs.Planned.{counted_still, one_waiting}
use Rattle.module_eval.proofs.plan.count.Goals as goal

pub returns-in-Some-clause-counts : goal.returns-in-Some-clause-counts
returns-in-Some-clause-counts c =
    let ns = c.args.snap.now.entries in
    let is = rw c.of.ensures at c.in-Some.ensures.value in
    subst (λ es. AreCounts ns never es c.args.waiting.now)
    (sym (rw c.of-in-Some.ensures at c.in_ok-insert.ensures.entries))
    (counted_more ns c.args.counts.now.entries c.args.path.now c.in-Some.before.now
    c.args.occurs c.saturating_add-sum.result c.args.waiting.now (sym is)
    (adds_up c.in-Some.before.now c.args.occurs c.saturating_add-sum.result
    c.saturating_add-sum.ensures) c.requires)

pub returns-in-Some-clause-here : goal.returns-in-Some-clause-here
returns-in-Some-clause-here c =
    subst (λ es. IsCounted es c.args.path.now)
    (sym (rw c.of-in-Some.ensures at c.in_ok-insert.ensures.entries))
    (counted_here c.args.counts.now.entries c.args.path.now _)

pub returns-in-Some-clause-stay : goal.returns-in-Some-clause-stay
returns-in-Some-clause-stay c =
    subst (StayCounted c.args.counts.now.entries)
    (sym (rw c.of-in-Some.ensures at c.in_ok-insert.ensures.entries))
    (counted_still c.args.counts.now.entries c.args.path.now _)

pub returns-in_default-get-clause-counts : goal.returns-in_default-get-clause-counts
returns-in_default-get-clause-counts c =
    let ns = c.args.snap.now.entries in
    let is = rw c.of.ensures at c.in_default.ensures.value in
    let none = source_none ns c.args.path.now c.in_default-get.ensures in
    subst (λ es. AreCounts ns never es c.args.waiting.now)
    (sym (rw c.of-2.ensures at c.in_ok-insert-2.ensures.entries))
    (counted_new ns c.args.counts.now.entries c.args.path.now c.args.occurs c.args.waiting.now
    c.args.waiting.now (sym is)
    (λ q. let own = ap (occurs_in q) none in omega (arith, own)) c.requires)

pub returns-in_default-get-clause-here : goal.returns-in_default-get-clause-here
returns-in_default-get-clause-here c =
    subst (λ es. IsCounted es c.args.path.now)
    (sym (rw c.of-2.ensures at c.in_ok-insert-2.ensures.entries))
    (counted_here c.args.counts.now.entries c.args.path.now _)

pub returns-in_default-get-clause-stay : goal.returns-in_default-get-clause-stay
returns-in_default-get-clause-stay c =
    subst (StayCounted c.args.counts.now.entries)
    (sym (rw c.of-2.ensures at c.in_ok-insert-2.ensures.entries))
    (counted_still c.args.counts.now.entries c.args.path.now _)

pub returns-in-Object-clause-counts : goal.returns-in-Object-clause-counts
returns-in-Object-clause-counts c =
    let ns = c.args.snap.now.entries in
    let is = rw c.of.ensures at c.in_default.ensures.value in
    let there =
    source_at ns c.args.path.now c.in-Some-get.found.now _ c.in-Some-get.ensures
    (sym c.get-3.ensures ∙ c.in-Object.is) in
    subst (λ es. AreCounts ns never es c.args.waiting.now)
    (sym (rw c.of-2.ensures at c.in_ok-insert-2.ensures.entries))
    (counted_new ns c.args.counts.now.entries c.args.path.now c.args.occurs c.args.waiting.now
    c.args.waiting.now (sym is)
    (λ q. let own = ap (occurs_in q) there in omega (arith, own)) c.requires)

pub returns-in-Object-clause-here : goal.returns-in-Object-clause-here
returns-in-Object-clause-here c =
    subst (λ es. IsCounted es c.args.path.now)
    (sym (rw c.of-2.ensures at c.in_ok-insert-2.ensures.entries))
    (counted_here c.args.counts.now.entries c.args.path.now _)

pub returns-in-Object-clause-stay : goal.returns-in-Object-clause-stay
returns-in-Object-clause-stay c =
    subst (StayCounted c.args.counts.now.entries)
    (sym (rw c.of-2.ensures at c.in_ok-insert-2.ensures.entries))
    (counted_still c.args.counts.now.entries c.args.path.now _)

pub returns-in_ok-push-in-Blueprint-clause-counts :
    goal.returns-in_ok-push-in-Blueprint-clause-counts
returns-in_ok-push-in-Blueprint-clause-counts c =
    let ns = c.args.snap.now.entries in
    let is = rw c.of.ensures at c.in_default.ensures.value in
    let there =
    source_at ns c.args.path.now c.in-Some-get.found.now _ c.in-Some-get.ensures
    (sym c.get-3.ensures ∙ c.in-Blueprint.is) in
    let pushed = rw (c.one.ensures, c.body.ensures.body) at c.in_ok-push-in-Blueprint.ensures.ok in
    subst (λ es. AreCounts ns never es c.push.new.self)
    (sym (rw c.of-2.ensures at c.in_ok-insert-2.ensures.entries))
    (counted_new ns c.args.counts.now.entries c.args.path.now c.args.occurs c.args.waiting.now
    c.push.new.self (sym is)
    (λ q.
    let own = ap (occurs_in q) there in
    let more = one_waiting c.args.waiting.now c.in-Blueprint.image.body q in
    rw pushed (omega (arith, own, more))) c.requires)

pub returns-in_ok-push-in-Blueprint-clause-here : goal.returns-in_ok-push-in-Blueprint-clause-here
returns-in_ok-push-in-Blueprint-clause-here c =
    subst (λ es. IsCounted es c.args.path.now)
    (sym (rw c.of-2.ensures at c.in_ok-insert-2.ensures.entries))
    (counted_here c.args.counts.now.entries c.args.path.now _)

pub returns-in_ok-push-in-Blueprint-clause-stay : goal.returns-in_ok-push-in-Blueprint-clause-stay
returns-in_ok-push-in-Blueprint-clause-stay c =
    subst (StayCounted c.args.counts.now.entries)
    (sym (rw c.of-2.ensures at c.in_ok-insert-2.ensures.entries))
    (counted_still c.args.counts.now.entries c.args.path.now _)
