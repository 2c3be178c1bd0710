-- A session from end to end.
use Rattle.std.specs.Prelude.{◌≡◌, ℕ, ◌≤◌, ◌<◌, Bool, List, [], ◌∷◌, ◌++◌, length, map}
use Rattle.std.specs.Prelude.{take, Option}
use Rattle.std.specs.List.{AllByRecursion, flat_map}
use Rattle.std.specs.Io.KnownBytes.{Appends}
use Rattle.omos_outside.specs.Stream.{Stream, Gives, IsAtEnd}
use Rattle.omos_wire.specs.Message.{Message, End}
use Rattle.omos_wire.specs.Answer.{reply_frame}
use Rattle.omos_wire.specs.Stream.{Starts, Cut, Waiting, Stuck}
use Rattle.omos_hub.specs.Standing.{Standing, Went, misses}
use Rattle.omos_session.specs.Talk.{Row, IsTold, turns_of}
use Rattle.omos_session.specs.declared.session.SessionEnd.{SessionEnd}
use Rattle.omos_session.specs.declared.session.SessionEnd.TheVariants as ending

abbrev pub frames : List Row → List Message
frames rows = map (λ (row : Row). row.frame) rows

-- ---- the frames that are answered

abbrev pub NoEnd : List Row → Type 0
NoEnd rows = AllByRecursion (λ (row : Row). row.frame ≡ End → ⊥) rows

-- the rows are those before the last, none of which is the end, and a last one
pub record IsLast (rows before : List Row) (last : Row) : Type 0 where
  pub split : rows ≡ before ++ last ∷ []
  pub none_before : NoEnd before

-- how many frames a session may have
abbrev pub max_frames : ℕ
max_frames = 65536

-- the rows are of these frames of what was taken, by how the session ends
abbrev pub AnswersTaken : SessionEnd → Option Stream → List ℕ → List Row → Type 0
AnswersTaken ending.Ended now taken rows =
    (before : List Row) × (last : Row) × (tail : List ℕ) × IsLast rows before last
    × (last.frame ≡ End) × Starts taken (frames rows) tail
AnswersTaken ending.Closed now taken rows =
    NoEnd rows × Cut taken (frames rows) (Waiting 0) × IsAtEnd now
AnswersTaken (ending.Truncated count) now taken rows =
    NoEnd rows × Cut taken (frames rows) (Waiting count) × (1 ≤ count) × IsAtEnd now
AnswersTaken (ending.BadFrame place cause) now taken rows =
    NoEnd rows × Cut taken (frames rows) (Stuck place cause)
AnswersTaken ending.ReadFault now taken rows =
    NoEnd rows × (count : ℕ) × Cut taken (frames rows) (Waiting count)
AnswersTaken ending.WriteFault now taken rows =
    (before : List Row) × (last : Row) × (tail : List ℕ) × IsLast rows before last
    × Starts taken (frames rows) tail
AnswersTaken ending.TooMany now taken rows =
    NoEnd rows × (length rows ≡ max_frames)
    × (next : Message) × (tail : List ℕ) × Starts taken (frames rows ++ next ∷ []) tail
AnswersTaken ending.NoMemory now taken rows =
    NoEnd rows × (tail : List ℕ) × Starts taken (frames rows) tail

-- ---- the bytes that are written

abbrev pub reply_bytes : List Row → List ℕ
reply_bytes rows = flat_map (λ (row : Row). reply_frame row.reply) rows

-- all replies but the last, and a part of that one
abbrev pub IsCutOff : List ℕ → List Row → Type 0
IsCutOff written rows =
    (before : List Row) × (last : Row) × (count : ℕ) × (rows ≡ before ++ last ∷ [])
    × (count < length (reply_frame last.reply))
    × (written ≡ reply_bytes before ++ take count (reply_frame last.reply))

-- the replies in their order; where the sink failed, the last one in part
abbrev pub WritesReplies : SessionEnd → List ℕ → List Row → Type 0
WritesReplies ending.WriteFault written rows = IsCutOff written rows
WritesReplies _ written rows = written ≡ reply_bytes rows

-- ---- the whole

-- A session took these bytes, answered the frames among them that its end allows, on the record,
-- and wrote the replies.
pub record IsSession (alone : Bool) (old new : Standing) (told told' : Option Stream)
    (held held' : Option (List ℕ)) (end : SessionEnd) : Type 0 where
  pub rows : List Row
  pub taken : List ℕ
  pub written : List ℕ
  pub went : Went alone old new (turns_of rows) (misses (turns_of rows))
  pub rows_told : AllByRecursion (IsTold old.room old.seat) rows
  pub read : Gives told told' taken
  pub answers : AnswersTaken end told' taken rows
  pub wrote : Appends held held' written
  pub writes : WritesReplies end written rows
  pub few : length rows ≤ max_frames
