-- Laws of turns: what the growth of a record by turns says of lengths and of a seat's own steps.
use Rattle.std.specs.Prelude.{◌≡◌, ◌==◌, ◌⊎◌, ℕ, ◌^◌, ◌≤◌, Bool, true, List, [], ◌∷◌, ◌++◌, length}
use Rattle.std.specs.Prelude.{filter, Option, Some}
use Rattle.std.specs.List.{AllByRecursion, flat_map}
use Rattle.omos_outside.specs.Stream.{Stream}
use Rattle.omos_wire.specs.Message.{End, Message, frame, HasFrame}
use Rattle.omos_hub.specs.Standing.{Standing, misses}
use Rattle.omos_session.specs.declared.session.SessionEnd.{SessionEnd}
use Rattle.omos_session.specs.declared.session.SessionEnd.TheVariants as ending
use Rattle.history_book.specs.Steps.{seat_of}
use Rattle.history_book.specs.declared.step.Step.{Step}
use Rattle.omos_session.specs.Session.{IsSession, max_frames}
use Rattle.omos_session.specs.Talk.{IsTold, Row, turns_of}
use Rattle.omos_hub.specs.Turns.{Turn, Moves, left_by, lengths, steps_at}

-- the lengths never fall, none is below the first number, and none above the last
abbrev pub Climb : ℕ → List ℕ → ℕ → Type 0
Climb low [] high = low ≤ high
Climb low (n ∷ ns) high = (low ≤ n) × Climb n ns high

abbrev pub ClimbLaw : Type 0
ClimbLaw =
    (alone : Bool) (seat : ℕ) (old new : List Step) (turns : List Turn)
    → Moves alone seat old turns new → Climb (length old) (lengths turns) (length new)

-- the steps of the seat
abbrev pub own : ℕ → List Step → List Step
own seat steps = filter (λ s. seat_of s == seat) steps

-- the seat's own steps are its old ones, and then those of its turns
abbrev pub OwnLaw : Type 0
OwnLaw =
    (alone : Bool) (seat : ℕ) (old new : List Step) (turns : List Turn)
    → Moves alone seat old turns new → own seat new ≡ own seat old ++ steps_at turns

abbrev pub Extends : List Step → List Step → Type 0
Extends before after = (more : List Step) × (after ≡ before ++ more)

-- what a turn found and left stands at the front of the record from then on
abbrev pub TurnsStayLaw : Type 0
TurnsStayLaw =
    (alone : Bool) (seat : ℕ) (old new : List Step) (turns : List Turn)
    → Moves alone seat old turns new
    → Extends old new × AllByRecursion (λ (t : Turn). Extends (left_by t) new) turns

-- where the seat is alone, the steps of its turns are all that is added
abbrev pub AloneLaw : Type 0
AloneLaw =
    (seat : ℕ) (old new : List Step) (turns : List Turn) → Moves true seat old turns new
    → new ≡ old ++ steps_at turns

-- a session has 2^18 turns at most
abbrev pub FewLaw : Type 0
FewLaw =
    (room seat : ℕ) (rows : List Row) → AllByRecursion (IsTold room seat) rows
    → length rows ≤ max_frames → length (turns_of rows) ≤ 2 ^ 18

-- a session's links missed once a frame at most, so a gate is crossed 2^16 times at most
abbrev pub MissLaw : Type 0
MissLaw =
    (room seat : ℕ) (rows : List Row) → AllByRecursion (IsTold room seat) rows
    → misses (turns_of rows) ≤ length rows

-- ---- completeness

-- the last of these frames, and no other, is the end
pub record EndsOnce (frames : List Message) : Type 0 where
  pub before : List Message
  pub split : frames ≡ before ++ End ∷ []

-- Where the source tells that these frames are left, at most 65,536, of which the last and no
-- other is the end, and neither it nor the sink failed, a session ends at that end, or for want of
-- memory.
abbrev pub CompleteLaw : Type 0
CompleteLaw =
    (alone : Bool) (old new : Standing) (s s' : Stream) (held held' : Option (List ℕ))
    (end : SessionEnd) (frames : List Message)
    → IsSession alone old new (Some s) (Some s') held held' end
    → s.left ≡ flat_map frame frames → AllByRecursion HasFrame frames → EndsOnce frames
    → length frames ≤ max_frames → (end ≡ ending.ReadFault → ⊥) → (end ≡ ending.WriteFault → ⊥)
    → (end ≡ ending.Ended) ⊎ (end ≡ ending.NoMemory)
