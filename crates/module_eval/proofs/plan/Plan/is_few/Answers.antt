use Rattle.std.proofs.Common.{ap, sym, subst, arith}
use Rattle.std.proofs.lemmas.Bool.{leb-true}
use Rattle.module_eval.specs.inside.Plans.{IsUsedOnce, uses_counted}
use Rattle.module_eval.specs.declared.plan.Plan.{Plan}
use Rattle.module_eval.proofs.plan.Plan.is_few.Goals as goal

pub returns-in-Some : goal.returns-in-Some
returns-in-Some c h =
    let is = ap uses_counted (rw c.of.ensures at c.in-Some.ensures.value) in
    let few = leb-true c.in-Some.count.now 1 h in
    subst (λ (o : Plan). IsUsedOnce o c.args.path.now) (sym c.in-Counted.is)
    (omega (arith, is, few))
