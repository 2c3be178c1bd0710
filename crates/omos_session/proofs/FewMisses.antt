-- A frame has one miss at most.
use Rattle.std.proofs.Common.{◌≡◌, ℕ, ◌≤◌, List, [], ◌∷◌, length, refl, ap, arith, append-nil, inl}
use Rattle.std.proofs.Common.{inr}
use Rattle.std.specs.Prelude.{count_by}
use Rattle.std.specs.List.{AllByRecursion}
use Rattle.omos_model.specs.Names.{Name}
use Rattle.omos_model.specs.declared.entry.Entry.{Entry}
use Rattle.history_book.specs.declared.step.Note.{Note}
use Rattle.history_book.specs.declared.step.Step.{Step}
use Rattle.omos_wire.specs.Answer.{Answer}
use Rattle.omos_wire.specs.Answer as reply
use Rattle.omos_wire.specs.Message.{Message}
use Rattle.omos_wire.specs.Message as message
use Rattle.refusal_lines.specs.declared.refused.Refused.{Refused}
use Rattle.refusal_lines.specs.declared.refused.Refused.TheVariants as why
use Rattle.omos_hub.specs.Standing.{is_miss, misses}
use Rattle.omos_session.specs.Talk.{FaultsObject, FaultsText, FlushTold, IsMiss, IsMissed, IsTold}
use Rattle.omos_session.specs.Talk.{IsTurn, LinkTold, PathTold, PlacesTold, PutTold, Row}
use Rattle.omos_session.specs.Talk.{SaysObject, SaysText, StatsTold, Told, turns_of, FindsNoRoom}
use Rattle.omos_hub.specs.Turns.{Turn}
use Rattle.omos_session.proofs.Dues.{dues_are_no_miss}
use Rattle.omos_session.proofs.Moves.{misses-append}
use Rattle.omos_session.proofs.Serving.{missed_turns}

abbrev Few : List Turn → Type 0
Few turns = misses turns ≤ 1

none : (turns : List Turn) → turns ≡ [] → Few turns
none turns e = omega (arith, ap misses e)

-- one turn without a miss
quiet : (turns : List Turn) (found made : List Step) → IsTurn turns found made
    → count_by is_miss made ≡ 0 → Few turns
quiet turns found made turn zero =
    omega (arith, ap misses turn, ap (count_by is_miss) (append-nil made), zero)

full : (room : ℕ) (turns : List Turn) → FindsNoRoom room turns → Few turns
full room turns h = quiet turns h.0 [] h.1 refl

missed : (seat : ℕ) (turns : List Turn) → IsMissed seat turns → Few turns
missed seat turns h = quiet turns h.0 _ h.2 refl

miss : (seat : ℕ) (path : Name) (turns : List Turn) (v : ℕ) (x : Note) → IsMiss seat path turns v x
    → Few turns
miss seat path turns v x m =
    omega (
      arith,
      ap misses m.split,
      missed_turns m.first m.between m.last seat m.number path v x
          m.due m.asked m.placed m.answered m.stored,
    )

put : (Says : Entry → ℕ → Type 0) (Faults : Refused → Type 0) (room seat : ℕ) (path : Name)
    (turns : List Turn) (a : Answer) → PutTold Says Faults room seat path turns a → Few turns
put Says Faults room seat path turns (reply.Published v) h = quiet turns h.3 _ h.5 refl
put Says Faults room seat path turns reply.KeptFull h = quiet turns h.3 [] h.4 refl
put Says Faults room seat path turns (reply.Refused x) h = none turns h.1
put Says Faults room seat path turns reply.Full h = full room turns h
put Says Faults room seat path turns reply.NoMemory h = missed seat turns h
put Says Faults room seat path turns (reply.Image v base bytes) h = absurd h
put Says Faults room seat path turns (reply.Places spans) h = absurd h
put Says Faults room seat path turns (reply.Counts counts) h = absurd h
put Says Faults room seat path turns (reply.Flushed held) h = absurd h
put Says Faults room seat path turns reply.Bye h = absurd h

link : (room seat : ℕ) (path : Name) (turns : List Turn) (a : Answer)
    → LinkTold room seat path turns a → Few turns
link room seat path turns (reply.Image v base bytes) (inl h) = quiet turns h.found _ h.turn refl
link room seat path turns (reply.Image v base bytes) (inr h) = miss seat path turns v _ h.0
link room seat path turns (reply.Refused (why.Link x)) h = miss seat path turns h.0 _ h.1
link room seat path turns (reply.Refused (why.Path x)) h = absurd h
link room seat path turns (reply.Refused (why.Object x)) h = absurd h
link room seat path turns (reply.Refused (why.Text x)) h = absurd h
link room seat path turns reply.NoMemory (inl h) = missed seat turns h
link room seat path turns reply.NoMemory (inr h) = miss seat path turns h.0 _ h.1
link room seat path turns reply.Full h = full room turns h
link room seat path turns (reply.Published v) h = absurd h
link room seat path turns reply.KeptFull h = absurd h
link room seat path turns (reply.Places spans) h = absurd h
link room seat path turns (reply.Counts counts) h = absurd h
link room seat path turns (reply.Flushed held) h = absurd h
link room seat path turns reply.Bye h = absurd h

places : (room seat : ℕ) (path : Name) (turns : List Turn) (a : Answer)
    → PlacesTold room seat path turns a → Few turns
places room seat path turns (reply.Places spans) h = quiet turns h.0 _ h.2 refl
places room seat path turns reply.NoMemory h = missed seat turns h
places room seat path turns reply.Full h = full room turns h
places room seat path turns (reply.Published v) h = absurd h
places room seat path turns (reply.Image v base bytes) h = absurd h
places room seat path turns (reply.Refused x) h = absurd h
places room seat path turns reply.KeptFull h = absurd h
places room seat path turns (reply.Counts counts) h = absurd h
places room seat path turns (reply.Flushed held) h = absurd h
places room seat path turns reply.Bye h = absurd h

stats : (room seat : ℕ) (turns : List Turn) (a : Answer) → StatsTold room seat turns a → Few turns
stats room seat turns (reply.Counts counts) h = quiet turns h.0 _ h.2 refl
stats room seat turns reply.Full h = full room turns h
stats room seat turns reply.NoMemory h = absurd h
stats room seat turns (reply.Published v) h = absurd h
stats room seat turns (reply.Image v base bytes) h = absurd h
stats room seat turns (reply.Refused x) h = absurd h
stats room seat turns reply.KeptFull h = absurd h
stats room seat turns (reply.Places spans) h = absurd h
stats room seat turns (reply.Flushed held) h = absurd h
stats room seat turns reply.Bye h = absurd h

flush : (room seat : ℕ) (path : Name) (turns : List Turn) (a : Answer)
    → FlushTold room seat path turns a → Few turns
flush room seat path turns (reply.Flushed held) h =
    quiet turns h.0 _ h.3 (dues_are_no_miss seat h.1 h.2 h.4)
flush room seat path turns reply.Full h = full room turns h
flush room seat path turns reply.NoMemory h = absurd h
flush room seat path turns (reply.Published v) h = absurd h
flush room seat path turns (reply.Image v base bytes) h = absurd h
flush room seat path turns (reply.Refused x) h = absurd h
flush room seat path turns reply.KeptFull h = absurd h
flush room seat path turns (reply.Places spans) h = absurd h
flush room seat path turns (reply.Counts counts) h = absurd h
flush room seat path turns reply.Bye h = absurd h

of_path : (path : Name) (turns : List Turn) (a : Answer) (told : Type 0) → (told → Few turns)
    → PathTold path turns a told → Few turns
of_path path turns a told few (inl h) = none turns h.3
of_path path turns a told few (inr h) = few h.1

few_told : (room seat : ℕ) (m : Message) (turns : List Turn) (a : Answer) → Told room seat m turns a
    → Few turns
few_told room seat (message.PutObject path file) turns a h =
    of_path path turns a _ (put (SaysObject file) (FaultsObject file) room seat path turns a) h
few_told room seat (message.PutBlueprint path text) turns a h =
    of_path path turns a _ (put (SaysText text) (FaultsText text) room seat path turns a) h
few_told room seat (message.Link path) turns a h =
    of_path path turns a _ (link room seat path turns a) h
few_told room seat (message.Places path) turns a h =
    of_path path turns a _ (places room seat path turns a) h
few_told room seat message.Stats turns a h = stats room seat turns a h
few_told room seat (message.Flush path) turns a h =
    of_path path turns a _ (flush room seat path turns a) h
few_told room seat message.End turns a h = none turns h.0

pub misses_few : (room seat : ℕ) (rows : List Row) → AllByRecursion (IsTold room seat) rows
    → misses (turns_of rows) ≤ length rows
misses_few room seat [] h = omega arith
misses_few room seat (r ∷ rs) h =
    omega (
      arith,
      misses-append r.turns (turns_of rs),
      few_told room seat r.frame r.turns r.reply h.0.told,
      misses_few room seat rs h.1,
    )
