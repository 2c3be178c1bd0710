use Rattle.module_eval.proofs.Spent.{planned_for, still_there}
use Rattle.module_eval.proofs.paths.has_uses.Goals as goal

pub returns-clause-planned : goal.returns-clause-planned
returns-clause-planned c =
    planned_for c.args.place.now.snap.now.entries c.args.place.now.counting c.args.counted
    c.args.path.now c.args.walk.now c.requires.owed c.each_once.ensures c.requires.away

pub returns-clause-left : goal.returns-clause-left
returns-clause-left c e =
    still_there c.args.place.now.snap.now.entries c.args.place.now.counting c.args.counted
    c.args.path.now c.args.walk.now c.requires.owed c.each_once.ensures c.requires.away e
