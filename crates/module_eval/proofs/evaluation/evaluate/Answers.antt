use Rattle.module_eval.proofs.evaluation.evaluate.Goals as goal

pub expand-requires-clause-ready : goal.expand-requires-clause-ready
expand-requires-clause-ready g c = c.new-walk.ensures.ready c.args.snap.now.entries
