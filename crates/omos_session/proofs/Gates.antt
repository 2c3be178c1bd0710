-- How often a session may go through its gate, and what a shared session leaves of its pass.
use Rattle.std.proofs.Common.{◌≡◌, ℕ, ◌+◌, ◌<◌, ◌≤◌, ◌^◌, Bool, false, List, length, arith, ap, sym}
use Rattle.std.proofs.Common.{subst, ◌∙◌, Option, None, Some, length-append}
use Rattle.std.proofs.lemmas.List.{length-map}
use Rattle.history_book.specs.declared.step.Step.{Step}
use Rattle.omos_outside.specs.Stream.{Stream}
use Rattle.turn_lock.specs.Knowledge.{Knowledge, TableId}
use Rattle.omos_hub.specs.Standing.{AtTurn, CanCross, Rises, Standing, Went, seen_by, PassLine}
use Rattle.omos_hub.specs.Turns.{Turn, lengths}
use Rattle.hub_store.specs.Parts.{StoreParts}
use Rattle.omos_session.specs.Session.{IsSession}
use Rattle.omos_session.specs.Talk.{turns_of}
use Rattle.omos_session.specs.declared.session.SessionEnd.{SessionEnd}
use Rattle.omos_session.proofs.FewMisses.{misses_few}
use Rattle.omos_session.proofs.TurnLaws.{turns_few}

-- a turn leaves the gate as it was
pub gate_stays : (alone : Bool) (old new : Standing) (Gives : StoreParts → StoreParts → Type 0)
    (n : ℕ)
    → AtTurn alone old new Gives → CanCross n old.crossed → CanCross n new.crossed
gate_stays alone old new Gives n turn can =
    subst (λ (s : Standing). CanCross n s.crossed) (sym turn.after) can

-- after fewer frames than a session may have, one more link may go through
pub gate_left : (old now : Option ℕ) (count : ℕ) → CanCross (2 ^ 16) old → Rises old now count
    → count < 65536
    → CanCross 1 now
gate_left None None count can rises few = tt
gate_left (Some k) (Some n) count can rises few = omega (arith, can, rises, few)
gate_left None (Some n) count can rises few = absurd rises
gate_left (Some k) None count can rises few = absurd rises

-- ---- a pass of a shared store

rebuilt : (old new : Knowledge Step) → new.lock ≡ old.lock → new.number ≡ old.number
    → new.made ≡ old.made
    → new.joined ≡ old.joined → new.holds_turn ≡ old.holds_turn → new.first ≡ old.first
    → new.second ≡ old.second
    → new ≡ record old { seen = new.seen; turns = new.turns }
rebuilt old new a b c d e f g =
    ap (λ x. record new { lock = x }) a
    ∙ ap (λ x. record new { lock = old.lock; number = x }) b
    ∙ ap (λ x. record new { lock = old.lock; number = old.number; made = x }) c
    ∙ ap (λ x. record new { lock = old.lock; number = old.number; made = old.made; joined = x }) d
    ∙ ap (λ x. record old {
      seen = new.seen;
      turns = new.turns;
      holds_turn = x;
      first = new.first;
      second = new.second;
    }) e
    ∙ ap (λ x. record old { seen = new.seen; turns = new.turns; first = x; second = new.second }) f
    ∙ ap (λ x. record old { seen = new.seen; turns = new.turns; second = x }) g

abbrev line_at : TableId → Knowledge Step → PassLine
line_at hub p =
    record { hub = hub; lock = p.lock; made = p.made; joined = p.joined; holds_turn = p.holds_turn }

-- a pass keeps all but what it has seen and its turns
pub keeps : (hub hub' : TableId) (crossed crossed' : Option ℕ) (old new : Knowledge Step)
    (turns : List Turn) (n : ℕ)
    → Went false (seen_by hub crossed old) (seen_by hub' crossed' new) turns n
    → new ≡ record old { seen = new.seen; turns = new.turns }
keeps hub hub' crossed crossed' old new turns n went =
    let whole : Some (line_at hub' new) ≡ Some (line_at hub old) = went.line in
    let line : line_at hub' new ≡ line_at hub old = cc in
    rebuilt old new (ap (λ (l : PassLine). l.lock) line) went.seat
    (ap (λ (l : PassLine). l.made) line)
    (ap (λ (l : PassLine). l.joined) line) (ap (λ (l : PassLine). l.holds_turn) line) went.cache
    went.room

-- a session of a pass has 2^18 turns at most
pub turns_bounded : (hub hub' : TableId) (crossed crossed' : Option ℕ) (old new : Knowledge Step)
    (told told' : Option Stream) (held held' : Option (List ℕ)) (end : SessionEnd)
    → IsSession false (seen_by hub crossed old) (seen_by hub' crossed' new) told told' held held'
    end
    → length new.turns ≤ length old.turns + 2 ^ 18
turns_bounded hub hub' crossed crossed' old new told told' held held' end is =
    let ts : List Turn = turns_of is.rows in
    omega (
      arith,
      ap length is.went.turned,
      length-append old.turns (lengths ts),
      length-map ts (λ (t : Turn). length t.found),
      turns_few _ _ is.rows is.rows_told is.few,
    )

-- and goes through its gate 2^16 times at most
pub crossings_bounded : (hub hub' : TableId) (before after : ℕ) (old new : Knowledge Step)
    (told told' : Option Stream) (held held' : Option (List ℕ)) (end : SessionEnd)
    → IsSession false (seen_by hub (Some before) old) (seen_by hub' (Some after) new) told told'
    held held' end
    → after ≤ before + 2 ^ 16
crossings_bounded hub hub' before after old new told told' held held' end is =
    omega (arith, is.went.crossed, misses_few _ _ is.rows is.rows_told, is.few)
