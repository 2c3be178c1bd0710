use Rattle.omos_session.proofs.Gates.{crossings_bounded, keeps, turns_bounded}
use Rattle.omos_session.proofs.shared.serve_line.Goals as goal

pub returns-clause-kept : goal.returns-clause-kept
returns-clause-kept g c =
    keeps _ _ _ _ c.args.desk.now.pass.now c.serve.new.desk.pass.now _ _
    c.serve.ensures.session.went

pub returns-clause-turned : goal.returns-clause-turned
returns-clause-turned g c =
    turns_bounded _ _ _ _ c.args.desk.now.pass.now c.serve.new.desk.pass.now _ _ _ _ _
    c.serve.ensures.session

pub returns-clause-crossed : goal.returns-clause-crossed
returns-clause-crossed g c =
    crossings_bounded _ _ _ _ c.args.desk.now.pass.now c.serve.new.desk.pass.now _ _ _ _ _
    c.serve.ensures.session
