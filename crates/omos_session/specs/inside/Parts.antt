-- What the parts of a session say: of one frame, of the parts of a link, of one read, and between
-- two frames. The session as a whole is in Session, and nothing of this file in it.
use Rattle.std.specs.Prelude.{◌≡◌, ℕ, zero, suc, ◌+◌, ◌≤◌, ◌<◌, Bool, List, [], ◌∷◌, ◌++◌, length}
use Rattle.std.specs.Prelude.{Option, Ok, Err}
use Rattle.std.specs.List.{AllByRecursion, flat_map}
use Rattle.std.specs.Io.KnownBytes.{Appends}
use Rattle.omos_outside.specs.Stream.{Stream, Gives, IsAtEnd}
use Rattle.omos_model.specs.Names.{Name}
use Rattle.omos_model.specs.declared.entry.Entry.{Entry}
use Rattle.omos_model.specs.declared.refusal.Refusal.{Refusal}
use Rattle.history_book.specs.Told.{version_after}
use Rattle.link_model.specs.Answer.{answer as answer_at}
use Rattle.link_model.specs.Module.{Ready}
use Rattle.link_plan.specs.Images.{IsImageAt}
use Rattle.history_book.specs.declared.step.Step.{Step}
use Rattle.history_book.specs.declared.step.Step.TheVariants.{Answered, Put}
use Rattle.hub_store.specs.Links.{MayFinish, note_of_outcome}
use Rattle.hub_store.specs.Parts.{TicketParts, IsTicket}
use Rattle.hub_store.specs.declared.reply.Outcome.{Outcome}
use Rattle.hub_store.specs.declared.reply.Outcome.TheVariants as outcome
use Rattle.omos_wire.specs.Answer.{Answer, reply_frame}
use Rattle.omos_wire.specs.Answer as answer
use Rattle.omos_wire.specs.Message.{Message, End, frame}
use Rattle.omos_outside.specs.Sent.{WrotePart}
use Rattle.omos_wire.specs.Stream.{Held, Starts}
use Rattle.omos_session.specs.Session.{NoEnd, frames, reply_bytes}
use Rattle.omos_session.specs.Talk.{IsTold, Row, turns_of}
use Rattle.omos_session.specs.declared.session.SessionEnd.{SessionEnd}
use Rattle.omos_session.specs.declared.session.SessionEnd.TheVariants as ending
use Rattle.refusal_lines.specs.declared.refused.Refused.TheVariants as why
use Rattle.omos_hub.specs.Calls.{Crosses}
use Rattle.omos_hub.specs.Standing.{Standing, Went, misses}
use Rattle.omos_session.specs.Talk.{IsBetween, IsMissed, IsTurn, Told, FindsNoRoom, PassesMaxKept}
use Rattle.omos_hub.specs.Turns.{IsDue, Turn}
use Rattle.omos_session.specs.declared.linking.Made.{Made}
use Rattle.omos_session.specs.declared.linking.Made.TheVariants as made
use Rattle.omos_session.specs.declared.session.Piece.{Piece}
use Rattle.omos_session.specs.declared.session.Piece.TheVariants as piece
use Rattle.omos_session.specs.declared.session.Served.{Served}
use Rattle.omos_session.specs.declared.session.Served.TheVariants as served

-- ---- one frame

-- the seat had some turns, four at most, of which this is told
pub record ServesBy (alone : Bool) (old new : Standing) (IsToldAt : List Turn → Type 0)
    : Type 0 where
  pub turns : List Turn
  pub went : Went alone old new turns (misses turns)
  pub told : IsToldAt turns
  pub few : length turns ≤ 4

abbrev pub Serves : Bool → Standing → Standing → Message → Answer → Type 0
Serves alone old new m a = ServesBy alone old new (λ turns. Told old.room old.seat m turns a)

-- want of memory was recorded, or the record had no room for it
abbrev pub MissTold : ℕ → ℕ → List Turn → Answer → Type 0
MissTold room seat turns answer.NoMemory = IsMissed seat turns
MissTold room seat turns answer.Full = FindsNoRoom room turns
MissTold room seat turns _ = ⊥

-- an entry of this size was published, or there was no room for it, or no memory
abbrev pub PublishTold : ℕ → ℕ → Name → Entry → ℕ → List Turn → Answer → Type 0
PublishTold room seat path e size turns (answer.Published v) =
    (P : List Step) × (number : ℕ) × IsTurn turns P (Put seat number path e size ∷ [])
    × (v ≡ version_after P + 1)
PublishTold room seat path e size turns answer.KeptFull =
    (P : List Step) × IsTurn turns P [] × PassesMaxKept P size
PublishTold room seat path e size turns answer.NoMemory = IsMissed seat turns
PublishTold room seat path e size turns answer.Full = FindsNoRoom room turns
PublishTold room seat path e size turns _ = ⊥

-- ---- the parts of a link

-- there is a refusal, or want of memory for it
abbrev pub RefusesWith : Refusal → Made → Type 0
RefusesWith x (made.Image image) = ⊥
RefusesWith x (made.Refused y) = y ≡ x
RefusesWith x made.NoMemory = Unit {0}

abbrev pub outcome_of : Made → Outcome
outcome_of (made.Image image) = outcome.Image image
outcome_of (made.Refused x) = outcome.Refused x
outcome_of made.NoMemory = outcome.NoMemory

-- an image is the answer on the ticket's namespace
abbrev pub IsRight : TicketParts → Made → Type 0
IsRight t (made.Image image) = answer_at t.space t.path image.base ≡ Ok image.bytes
IsRight t (made.Refused x) = Unit {0}
IsRight t made.NoMemory = Unit {0}

-- what may be made of a module at a base
abbrev pub MayMake : Ready → ℕ → Made → Type 0
MayMake r base (made.Image image) = IsImageAt r base image
MayMake r base (made.Refused x) = answer_at r.evaluated.footprint r.evaluated.path base ≡ Err x
MayMake r base made.NoMemory = Unit {0}

-- between its asking and its answer a link may have been placed, and may end so
pub record Makes (alone : Bool) (old new : Standing) (t : TicketParts) (m : Made) : Type 0 where
  pub turns : List Turn
  pub went : Went alone old new turns 0
  pub each : AllByRecursion (IsBetween t.seat t.number t.path) turns
  pub few : length turns ≤ 2
  pub opened : IsTicket new.steps t
  pub may : MayFinish new.steps t (outcome_of m)
  pub right : IsRight t m

-- the reply is of that outcome
abbrev pub RepliesTo : TicketParts → Outcome → Answer → Type 0
RepliesTo t (outcome.Image l) a =
    (a ≡ answer.Image t.version l.base l.bytes) × (answer_at t.space t.path l.base ≡ Ok l.bytes)
RepliesTo t (outcome.Refused x) a = a ≡ answer.Refused (why.Link x)
RepliesTo t outcome.NoMemory a = a ≡ answer.NoMemory
RepliesTo t outcome.Replayed a = ⊥

-- the link ended at one turn, and the reply is of how it ended
pub record Concludes (alone : Bool) (old new : Standing) (t : TicketParts) (a : Answer)
    : Type 0 where
  pub last : Turn
  pub end : Outcome
  pub due : List Step
  pub went : Went alone old new (last ∷ []) 0
  pub may : MayFinish old.steps t end
  pub answered : last.made ≡ Answered t.seat t.number (note_of_outcome end) ∷ due
  pub stored : AllByRecursion (IsDue t.seat t.number) due
  pub replied : RepliesTo t end a

-- a link that missed went through the gate, may have been placed, and ended
pub record Goes (alone : Bool) (old new : Standing) (t : TicketParts) (a : Answer) : Type 0 where
  pub gated : Standing
  pub made : Standing
  pub crossed : Crosses old gated
  pub turns : List Turn
  pub went : Went alone gated made turns 0
  pub each : AllByRecursion (IsBetween t.seat t.number t.path) turns
  pub few : length turns ≤ 2
  pub concluded : Concludes alone made new t a

-- ---- a frame, served

-- the frame was answered, and the reply written
pub record Replied (alone : Bool) (old new : Standing) (m : Message)
    (held held' : Option (List ℕ)) : Type 0 where
  pub reply : Answer
  pub serves : Serves alone old new m reply
  pub wrote : Appends held held' (reply_frame reply)

abbrev pub IsServed : Served → Bool → Standing → Standing → Message → Option (List ℕ)
    → Option (List ℕ) → Type 0
IsServed served.Next alone old new m held held' = Replied alone old new m held held' × (m ≡ End → ⊥)
IsServed served.Ended alone old new m held held' = Replied alone old new m held held' × (m ≡ End)
IsServed served.Failed alone old new m held held' =
    (reply : Answer) × Serves alone old new m reply × WrotePart held held' (reply_frame reply)

-- ---- a piece, read

abbrev pub IsPieceRead : Piece → Option Stream → Option Stream → Held → Held → Type 0
IsPieceRead piece.Fed told told' old new =
    (bytes : List ℕ) × (0 < length bytes) × Gives told told' bytes
    × (new ≡ record { place = old.place; waiting = old.waiting ++ bytes })
IsPieceRead piece.End told told' old new = Gives told told' [] × (new ≡ old) × IsAtEnd told'
IsPieceRead piece.Failed told told' old new = Gives told told' [] × (new ≡ old)
IsPieceRead piece.NoMemory told told' old new = (bytes : List ℕ) × Gives told told' bytes
    × (new ≡ old)

-- ---- the loop

-- A session that goes on: these rows are answered and written, and these bytes wait.
pub record Going (alone : Bool) (old new : Standing) (told told' : Option Stream)
    (held held' : Option (List ℕ)) (place count : ℕ) (waiting : List ℕ) : Type 0 where
  pub rows : List Row
  pub taken : List ℕ
  pub went : Went alone old new (turns_of rows) (misses (turns_of rows))
  pub rows_told : AllByRecursion (IsTold old.room old.seat) rows
  pub read : Gives told told' taken
  pub starts : Starts taken (frames rows) waiting
  pub at : place ≡ length (flat_map frame (frames rows))
  pub wrote : Appends held held' (reply_bytes rows)
  pub none_ended : NoEnd rows
  pub counted : count ≡ length rows

-- the end of a session whose source has ended with so many bytes waiting
abbrev pub ending_of : ℕ → SessionEnd
ending_of zero = ending.Closed
ending_of (suc count) = ending.Truncated (suc count)
