use Rattle.std.proofs.Common.{ℕ, List}
use Rattle.omos_wire.specs.Answer.{Refused}
use Rattle.refusal_lines.specs.declared.refused.Refused.TheVariants.{Path}
use Rattle.omos_session.specs.Talk.{PlacesTold}
use Rattle.omos_hub.specs.Turns.{Turn}
use Rattle.omos_session.proofs.Serving.{path_fine, path_none}
use Rattle.omos_session.proofs.answering.checked_places.Goals as goal
use Rattle.omos_session.specs.inside.Given.{answer_given}

pub returns-in-Ok-clause-serves : goal.returns-in-Ok-clause-serves
returns-in-Ok-clause-serves g c =
    let s = g.D.Desk.standing c.args.desk.now in
    let a = answer_given c.answer_places.result in
    path_fine _ _ _ c.args.path.now c.in-Ok.path a
    (λ (p : List ℕ) (turns : List Turn). PlacesTold s.room s.seat p turns a) c.in-Ok.ensures.0
    c.in-Ok.ensures.1 c.answer_places.ensures.serves

pub returns-in-Err-clause-serves : goal.returns-in-Err-clause-serves
returns-in-Err-clause-serves g c =
    let s = g.D.Desk.standing c.args.desk.now in
    let a = Refused (Path c.in-Err.fault) in
    path_none _ s c.args.path.now c.in-Err.fault
    (λ (turns : List Turn). PlacesTold s.room s.seat c.args.path.now turns a)
    c.requires.turns.legal c.in-Err.ensures
