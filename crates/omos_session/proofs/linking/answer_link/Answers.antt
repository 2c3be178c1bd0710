use Rattle.std.proofs.Common.{inl}
use Rattle.history_book.specs.Told.{namespace_after, requests}
use Rattle.omos_session.proofs.Serving.{image_is_sendable, serves_full, serves_hit, serves_missed}
use Rattle.omos_session.proofs.Serving.{serves_went}
use Rattle.omos_session.proofs.Gates.{gate_stays}
use Rattle.omos_session.proofs.linking.answer_link.Goals as goal

pub go-requires-clause-gate : goal.go-requires-clause-gate
go-requires-clause-gate g c = gate_stays _ _ _ _ 1 c.in-Go.ensures.turn c.requires.gate

pub go-requires-clause-unplaced : goal.go-requires-clause-unplaced
go-requires-clause-unplaced g c = c.in-Go.ensures.turn.gives.3

pub returns-in-Hit-clause-serves : goal.returns-in-Hit-clause-serves
returns-in-Hit-clause-serves g c = let turn =
    c.in-Hit.ensures.turn in serves_hit _ _ _ _ turn c.args.path.now _ c.in-Hit.image turn.gives

pub returns-in-Hit-clause-short : goal.returns-in-Hit-clause-short
returns-in-Hit-clause-short g c =
    let turn =
    c.in-Hit.ensures.turn in image_is_sendable (namespace_after turn.found) c.args.path.now
    c.in-Hit.version _ _ turn.gives.3

pub returns-in-Go-clause-serves : goal.returns-in-Go-clause-serves
returns-in-Go-clause-serves g c = let turn =
    c.in-Go.ensures.turn in serves_went _ _ _ _ c.args.path.now _ turn _ _ turn.gives
    c.go.ensures.gone

pub returns-in-Full-clause-serves : goal.returns-in-Full-clause-serves
returns-in-Full-clause-serves g c =
    serves_full _ _ _ _ c.in-Full.ensures.turn _ c.in-Full.ensures.turn.gives (λ full. full)

pub returns-in-NoMemory-clause-serves : goal.returns-in-NoMemory-clause-serves
returns-in-NoMemory-clause-serves g c =
    let turn =
    c.in-NoMemory.ensures.turn in serves_missed _ _ _ _ turn _ (requests turn.found)
    turn.gives.1 (λ m. inl m)
