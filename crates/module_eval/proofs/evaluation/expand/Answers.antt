use Rattle.std.proofs.Common.{ap, arith, false}
use Rattle.omos_model.specs.Visit.{Visit}
use Rattle.module_eval.specs.Costs.{operators_of}
use Rattle.module_eval.proofs.Paid.{expanded_so, limit_of, paid}
use Rattle.module_eval.proofs.evaluation.expand.Goals as goal

pub returns-clause-walk : goal.returns-clause-walk
returns-clause-walk g c =
    let ns = c.args.snap.now.entries in
    let walk = rw (c.requires.closed, c.requires.first) at c.visit_path.ensures.walk in
    expanded_so ns c.args.path.now c.visit_path.result c.visit_path.new.walk.counts
    (walk 32 (limit_of ns false c.args.walk.now c.visit_path.new.walk c.visit_path.result
    c.visit_path.ensures.back))

pub returns-clause-cost : goal.returns-clause-cost
returns-clause-cost g c =
    let ns = c.args.snap.now.entries in
    let none = ap (λ (v : Visit). operators_of ns v.read) c.requires.first in
    let walk = rw (c.requires.closed, c.requires.first) at c.visit_path.ensures.walk in
    paid ns c.args.path.now c.visit_path.result c.visit_path.new.walk.counts c.args.steps.now
    c.visit_path.new.steps
    (walk 32 (limit_of ns false c.args.walk.now c.visit_path.new.walk c.visit_path.result
    c.visit_path.ensures.back))
    (omega (arith, c.visit_path.ensures.cost, none))
