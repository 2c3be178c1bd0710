use Rattle.std.proofs.Common.{refl, ◌∙◌, arith}
use Rattle.omos_session.proofs.Going.{can_after, can_less}
use Rattle.omos_session.proofs.Sessions.{going_start, going_fed, going_row, session_ended}
use Rattle.omos_session.proofs.Sessions.{session_cut_off, session_too_many, session_unread}
use Rattle.omos_session.proofs.Sessions.{session_no_memory, one_fewer, more_waiting}
use Rattle.omos_session.proofs.FewMisses.{misses_few}
use Rattle.omos_session.proofs.Gates.{gate_left}
use Rattle.omos_session.proofs.session.serve.Goals as goal

pub serve_frame-requires-clause-gate : goal.serve_frame-requires-clause-gate
serve_frame-requires-clause-gate g c =
    let going = c.frames.invariant.going in
    gate_left _ _ _ c.requires.gate going.went.crossed
    (omega (
      arith,
      misses_few _ _ going.rows going.rows_told,
      going.counted,
      c.frames.invariant.few,
    ))

pub frames-init : goal.frames-init
frames-init g c =
    rw c.new-decoder.ensures (record {
      going = going_start _ _ _ _ c.requires.turns.legal;
      can = can_less _ _ _ (omega arith) c.requires.turns;
      lenders = refl;
      source = omega arith;
      sink = omega arith;
      few = omega arith;
    })

pub frames-preserved-in-Next : goal.frames-preserved-in-Next
frames-preserved-in-Next g c =
    let took = rw c.in-Request.is at c.next.follows.holds-at-none in
    let served = c.in-Next.ensures.served in
    let serves = served.0.serves in
    record {
      going = going_row _ _ _ _ _ _ _ _ _ c.frames.count c.frames.decoder _ _
          c.frames.invariant.going took served.0 served.1;
      can = can_after _ _ _ serves.turns _ _ _ serves.went (omega (arith, serves.few))
          c.frames.invariant.can;
      lenders = c.serve_frame.ensures.lenders ∙ c.frames.invariant.lenders;
      source = c.frames.invariant.source;
      sink = omega arith;
      few = omega arith;
    }

pub frames-smaller-in-Next : goal.frames-smaller-in-Next
frames-smaller-in-Next g c = one_fewer c.frames.count _ _ (omega arith)

pub returns-in-Ended-clause-session : goal.returns-in-Ended-clause-session
returns-in-Ended-clause-session g c =
    let took = rw c.in-Request.is at c.next.follows.holds-at-none in
    let served = c.in-Ended.ensures.served in
    session_ended _ _ _ _ _ _ _ _ _ c.frames.count c.frames.decoder _ _ c.frames.invariant.going
    took served.0 served.1 (omega arith)

pub returns-in-Failed-clause-session : goal.returns-in-Failed-clause-session
returns-in-Failed-clause-session g c =
    let took = rw c.in-Request.is at c.next.follows.holds-at-none in
    let served = c.in-Failed.ensures.served in
    session_cut_off _ _ _ _ _ _ _ _ _ c.frames.count c.frames.decoder _ _ c.frames.invariant.going
    took served.0 served.1 served.2 (omega arith)

pub returns-then-count-eq-FRAMES-clause-session : goal.returns-then-count-eq-FRAMES-clause-session
returns-then-count-eq-FRAMES-clause-session g c =
    let took = rw c.in-Request.is at c.next.follows.holds-at-none in
    session_too_many _ _ _ _ _ _ _ c.frames.count c.frames.decoder _ _ c.frames.invariant.going took
    c.if-count-eq-FRAMES.true

pub frames-preserved : goal.frames-preserved
frames-preserved g c =
    let more = rw c.in-More.is at c.next.follows.holds-at-none in
    let fed = rw more.0 at c.in-Fed.ensures.read in
    rw fed.3 (record {
      going = going_fed _ _ _ _ _ _ _ _ _ _ _ _ c.frames.invariant.going fed.2;
      can = c.frames.invariant.can;
      lenders = c.frames.invariant.lenders;
      source = omega arith;
      sink = c.frames.invariant.sink;
      few = c.frames.invariant.few;
    })

pub frames-smaller : goal.frames-smaller
frames-smaller g c =
    let more = rw c.in-More.is at c.next.follows.holds-at-none in
    let fed = rw more.0 at c.in-Fed.ensures.read in
    rw fed.3 (more_waiting c.frames.count _ _ fed.1 more.2)

pub returns-in-Failed-read_piece-clause-session : goal.returns-in-Failed-read_piece-clause-session
returns-in-Failed-read_piece-clause-session g c =
    let more = rw c.in-More.is at c.next.follows.holds-at-none in
    session_unread _ _ _ _ _ _ _ _ _ c.frames.decoder c.frames.invariant.going more.1
    c.in-Failed-read_piece.ensures.read.0 c.frames.invariant.few

pub returns-in-NoMemory-clause-session : goal.returns-in-NoMemory-clause-session
returns-in-NoMemory-clause-session g c =
    session_no_memory _ _ _ _ _ _ _ _ _ c.frames.decoder _ c.frames.invariant.going
    c.in-NoMemory.ensures.read.1 c.frames.invariant.few
