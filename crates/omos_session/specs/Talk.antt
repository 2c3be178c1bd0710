-- What the frames of a session, the turns of its seat and its replies have to do with one another.
use Rattle.std.specs.Prelude.{◌≡◌, ◌⊎◌, ℕ, ◌+◌, ◌*◌, ◌≤◌, ◌<◌, true, false, List, [], ◌∷◌, ◌++◌}
use Rattle.std.specs.Prelude.{length, map, Ok, Err}
use Rattle.std.specs.List.{AllByRecursion, flat_map}
use Rattle.omos_base.specs.Paths.{IsPath, HasPathFault}
use Rattle.omos_base.specs.declared.path_name.PathFault.{PathFault}
use Rattle.omos_model.specs.Names.{Name}
use Rattle.omos_model.specs.FragmentOf.{fragment_of}
use Rattle.omos_model.specs.declared.entry.Entry.{Entry}
use Rattle.omos_model.specs.declared.entry.Entry.TheVariants as entry
use Rattle.link_model.specs.Answer.{answer}
use Rattle.bp_tree.specs.Texts.{IsText}
use Rattle.bp_tree.specs.TextFaults.{IsTextFault}
use Rattle.history_book.specs.Told.{kept_bytes, namespace_in, version_after}
use Rattle.hub_store.specs.Requests.{counts_of, placements_of}
use Rattle.history_book.specs.Legal.{max_kept}
use Rattle.history_book.specs.Room.{HasRoom}
use Rattle.history_book.specs.declared.step.Step.{Step}
use Rattle.history_book.specs.declared.step.Step.TheVariants.{Put, Missed, Looked, Asked, Placed}
use Rattle.history_book.specs.declared.step.Step.TheVariants.{Answered, Flushed}
use Rattle.history_book.specs.declared.step.Note.{Note}
use Rattle.history_book.specs.declared.step.Note.TheVariants as note
use Rattle.history_book.specs.declared.step.Look.TheVariants as look
use Rattle.omos_wire.specs.Message.{Message}
use Rattle.omos_wire.specs.Message as message
use Rattle.omos_wire.specs.Answer.{Answer, wire_span}
use Rattle.omos_wire.specs.Answer as reply
use Rattle.refusal_lines.specs.declared.refused.Refused.{Refused}
use Rattle.refusal_lines.specs.declared.refused.Refused.TheVariants as why
use Rattle.omos_hub.specs.Turns.{IsDue, Turn, turn_of}

-- a frame, the seat's turns for it, and the reply
pub record Row : Type 0 where
  pub frame : Message
  pub turns : List Turn
  pub reply : Answer

abbrev pub row_with : Message → List Turn → Answer → Row
row_with m turns answer = record { frame = m; turns = turns; reply = answer }

-- ---- one turn

-- one turn, at this record, with these steps
abbrev pub IsTurn : List Turn → List Step → List Step → Type 0
IsTurn turns found made = turns ≡ turn_of found made ∷ []

-- one turn without a step, at a record without room
abbrev pub FindsNoRoom : ℕ → List Turn → Type 0
FindsNoRoom room turns = (P : List Step) × IsTurn turns P [] × (HasRoom room P → ⊥)

-- one turn, at which it was recorded that memory had run out
abbrev pub IsMissed : ℕ → List Turn → Type 0
IsMissed seat turns = (P : List Step) × (number : ℕ) × IsTurn turns P (Missed seat number ∷ [])

-- ---- publishing

-- the published bytes of the record and these pass 268,435,456
abbrev pub PassesMaxKept : List Step → ℕ → Type 0
PassesMaxKept P size = max_kept < kept_bytes P + size

-- what a put's content says: an entry and its size, or why it is refused
abbrev pub SaysObject : List ℕ → Entry → ℕ → Type 0
SaysObject file (entry.Object f) size = (fragment_of file ≡ Ok f) × (size ≡ length file)
SaysObject file (entry.Blueprint image) size = ⊥

abbrev pub SaysText : List ℕ → Entry → ℕ → Type 0
SaysText text (entry.Object f) size = ⊥
SaysText text (entry.Blueprint image) size =
    IsText text image × (length text ≤ 65536) × (size ≡ 16 * length text)

abbrev pub FaultsObject : List ℕ → Refused → Type 0
FaultsObject file (why.Object x) = fragment_of file ≡ Err x
FaultsObject file _ = ⊥

abbrev pub FaultsText : List ℕ → Refused → Type 0
FaultsText text (why.Text x) = IsTextFault text x
FaultsText text _ = ⊥

-- A put whose path is one. It is refused for its content without a turn. Else one turn publishes
-- it, or answers that the published bytes or the record have no room. Want of memory may stand in
-- place of each, and is recorded where there is room.
abbrev pub PutTold : (Entry → ℕ → Type 0) → (Refused → Type 0) → ℕ → ℕ → Name → List Turn → Answer
    → Type 0
PutTold Says Faults room seat path turns (reply.Published v) =
    (e : Entry) × (size : ℕ) × Says e size × (P : List Step) × (number : ℕ)
    × IsTurn turns P (Put seat number path e size ∷ []) × (v ≡ version_after P + 1)
PutTold Says Faults room seat path turns reply.KeptFull =
    (e : Entry) × (size : ℕ) × Says e size × (P : List Step) × IsTurn turns P []
    × PassesMaxKept P size
PutTold Says Faults room seat path turns (reply.Refused x) = Faults x × (turns ≡ [])
PutTold Says Faults room seat path turns reply.Full = FindsNoRoom room turns
PutTold Says Faults room seat path turns reply.NoMemory = IsMissed seat turns
PutTold Says Faults room seat path turns _ = ⊥

-- ---- linking

-- an image was in the cache: one turn, at which it was asked and answered
pub record IsHit (seat : ℕ) (path : Name) (turns : List Turn) (v base : ℕ) (bytes : List ℕ)
    : Type 0 where
  pub found : List Step
  pub number : ℕ
  pub turn : IsTurn turns found
      (Asked seat number path v true ∷ Answered seat number (note.Image base) ∷ [])
  pub image : answer (namespace_in found v) path base ≡ Ok bytes

-- a turn between asking and answering places the image, or adds nothing
abbrev pub IsBetween : ℕ → ℕ → Name → Turn → Type 0
IsBetween seat number path t =
    (t.made ≡ []) ⊎ ((base : ℕ) × (pages : ℕ) × (t.made ≡ Placed seat number path base pages ∷ []))

-- a link was asked at its first turn and answered at its last, so
pub record IsMiss (seat : ℕ) (path : Name) (turns : List Turn) (v : ℕ) (n : Note) : Type 0 where
  pub first : Turn
  pub between : List Turn
  pub last : Turn
  pub number : ℕ
  pub due : List Step
  pub split : turns ≡ first ∷ between ++ last ∷ []
  pub asked : first.made ≡ Asked seat number path v false ∷ []
  pub placed : AllByRecursion (IsBetween seat number path) between
  pub answered : last.made ≡ Answered seat number n ∷ due
  pub stored : AllByRecursion (IsDue seat number) due

-- the image of the path on the namespace of the asking
abbrev pub IsImageAsked : ℕ → Name → List Turn → ℕ → ℕ → List ℕ → Type 0
IsImageAsked seat path turns v base bytes =
    (m : IsMiss seat path turns v (note.Image base))
    × (answer (namespace_in m.first.found v) path base ≡ Ok bytes)

-- A link whose path is one.
abbrev pub LinkTold : ℕ → ℕ → Name → List Turn → Answer → Type 0
LinkTold room seat path turns (reply.Image v base bytes) =
    IsHit seat path turns v base bytes ⊎ IsImageAsked seat path turns v base bytes
LinkTold room seat path turns (reply.Refused (why.Link x)) =
    (v : ℕ) × IsMiss seat path turns v (note.Refused x)
LinkTold room seat path turns reply.NoMemory =
    IsMissed seat turns ⊎ ((v : ℕ) × IsMiss seat path turns v note.NoMemory)
LinkTold room seat path turns reply.Full = FindsNoRoom room turns
LinkTold room seat path turns _ = ⊥

-- ---- looking

abbrev pub PlacesTold : ℕ → ℕ → Name → List Turn → Answer → Type 0
PlacesTold room seat path turns (reply.Places spans) =
    (P : List Step) × (number : ℕ) × IsTurn turns P (Looked seat number (look.Places path) ∷ [])
    × (spans ≡ map wire_span (placements_of P path))
PlacesTold room seat path turns reply.NoMemory = IsMissed seat turns
PlacesTold room seat path turns reply.Full = FindsNoRoom room turns
PlacesTold room seat path turns _ = ⊥

abbrev pub StatsTold : ℕ → ℕ → List Turn → Answer → Type 0
StatsTold room seat turns (reply.Counts counts) =
    (P : List Step) × (number : ℕ) × IsTurn turns P (Looked seat number look.Stats ∷ [])
    × (counts ≡ counts_of P)
StatsTold room seat turns reply.Full = FindsNoRoom room turns
StatsTold room seat turns _ = ⊥

abbrev pub FlushTold : ℕ → ℕ → Name → List Turn → Answer → Type 0
FlushTold room seat path turns (reply.Flushed held) =
    (P : List Step) × (number : ℕ) × (due : List Step)
    × IsTurn turns P (Flushed seat number path held ∷ due) × AllByRecursion (IsDue seat number) due
FlushTold room seat path turns reply.Full = FindsNoRoom room turns
FlushTold room seat path turns _ = ⊥

-- ---- the table

-- a path that is none is refused for its fault, without a turn; of one that is a path this is told
abbrev pub PathTold : Name → List Turn → Answer → Type 0 → Type 0
PathTold path turns answer told =
    ((x : PathFault) × (answer ≡ reply.Refused (why.Path x)) × HasPathFault path x × (turns ≡ []))
    ⊎ (IsPath path × told)

-- The frame was answered so, at these turns.
abbrev pub Told : ℕ → ℕ → Message → List Turn → Answer → Type 0
Told room seat (message.PutObject path file) turns answer =
    PathTold path turns answer
    (PutTold (SaysObject file) (FaultsObject file) room seat path turns answer)
Told room seat (message.PutBlueprint path text) turns answer =
    PathTold path turns answer
    (PutTold (SaysText text) (FaultsText text) room seat path turns answer)
Told room seat (message.Link path) turns answer =
    PathTold path turns answer (LinkTold room seat path turns answer)
Told room seat (message.Places path) turns answer =
    PathTold path turns answer (PlacesTold room seat path turns answer)
Told room seat message.Stats turns answer = StatsTold room seat turns answer
Told room seat (message.Flush path) turns answer =
    PathTold path turns answer (FlushTold room seat path turns answer)
Told room seat message.End turns answer = (turns ≡ []) × (answer ≡ reply.Bye)

-- a row's frame was answered so, at four turns at most
pub record IsTold (room seat : ℕ) (row : Row) : Type 0 where
  pub told : Told room seat row.frame row.turns row.reply
  pub few : length row.turns ≤ 4

abbrev pub turns_of : List Row → List Turn
turns_of rows = flat_map (λ (row : Row). row.turns) rows
