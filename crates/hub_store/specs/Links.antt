-- What the calls for a link request append and answer.
use Rattle.std.specs.Prelude.{◌≡◌, ℕ, ◌+◌, ◌*◌, ◌%◌, ◌^◌, ◌≤◌, true, false, List, [], ◌∷◌, ◌++◌}
use Rattle.std.specs.Prelude.{length, Some, Ok}
use Rattle.omos_model.specs.Footprint.{footprint}
use Rattle.omos_model.specs.Names.{Name}
use Rattle.link_model.specs.Answer.{answer}
use Rattle.link_model.specs.Module.{LinkedImage, Ready}
use Rattle.link_model.specs.Plan.{Plan, plan_of}
use Rattle.omos_model.specs.Places.{place_for}
use Rattle.omos_model.specs.declared.placement.Place.{Place}
use Rattle.omos_model.specs.declared.placement.Place.TheVariants as place
use Rattle.history_book.specs.Told.{requests, version_after, namespace_after, book_of, is_placed}
use Rattle.history_book.specs.Due.{dues}
use Rattle.history_book.specs.Legal.{HasPlace, IsRefusal}
use Rattle.history_book.specs.declared.step.Note.{Note}
use Rattle.history_book.specs.declared.step.Note.TheVariants as note
use Rattle.history_book.specs.declared.step.Step.{Step}
use Rattle.history_book.specs.declared.step.Step.TheVariants.{Missed, Asked, Placed, Answered}
use Rattle.hub_store.specs.Parts.{StoreParts, Appended, IsFull, TicketParts, IsTicket, asking_of}
use Rattle.hub_store.specs.Parts.{HasRoomLeft}
use Rattle.hub_store.specs.declared.reply.AskReply.{AskReply}
use Rattle.hub_store.specs.declared.reply.AskReply.TheVariants as asked
use Rattle.hub_store.specs.declared.reply.Outcome.{Outcome}
use Rattle.hub_store.specs.declared.reply.Outcome.TheVariants as outcome
use Rattle.hub_store.specs.declared.reply.PlaceReply.{PlaceReply}
use Rattle.hub_store.specs.declared.reply.PlaceReply.TheVariants as placed

-- ---- asking

-- the ticket of the link request that is asked next
abbrev pub next_ticket : List Step → ℕ → Name → TicketParts
next_ticket P seat path =
    record {
      seat = seat;
      number = requests P;
      path = path;
      version = version_after P;
      placed = length (book_of P);
      space = namespace_after P;
    }

-- a hit's bytes are the answer at the present version
abbrev pub AskGives : StoreParts → ℕ → Name → AskReply → StoreParts → Type 0
AskGives old seat path (asked.Hit v l) new =
    HasRoomLeft old × (v ≡ version_after old.steps) × (l.path ≡ path)
    × (answer (namespace_after old.steps) path l.base ≡ Ok l.bytes)
    × Appended old new
    (Asked seat (requests old.steps) path v true
    ∷ Answered seat (requests old.steps) (note.Image l.base) ∷ [])
AskGives old seat path (asked.Go t) new =
    HasRoomLeft old × (t ≡ next_ticket old.steps seat path) × IsTicket new.steps t
    × (is_placed new.steps t.number ≡ false)
    × Appended old new (Asked seat (requests old.steps) path (version_after old.steps) false ∷ [])
AskGives old seat path asked.Full new = IsFull old new
AskGives old seat path asked.NoMemory new =
    HasRoomLeft old × Appended old new (Missed seat (requests old.steps) ∷ [])

-- ---- placing

-- the module and its layout are those of the ticket's plan
pub record IsPlanFor (t : TicketParts) (r : Ready) (plan : Plan) : Type 0 where
  pub planned : plan_of t.space t.path ≡ Ok plan
  pub listed : footprint t.space t.path ≡ Some r.evaluated.footprint
  pub path : r.evaluated.path ≡ t.path
  pub pages : r.layout.pages ≡ plan.pages
  pub lo : r.evaluated.lo ≡ plan.lo
  pub hi : r.evaluated.hi ≡ plan.hi

-- where the ticket's image may stand, in a record with these steps
abbrev pub place_for_ticket : List Step → TicketParts → Ready → Place
place_for_ticket P t r = place_for (book_of P) t.path r.layout.pages r.evaluated.lo r.evaluated.hi

abbrev pub place_reply : Place → PlaceReply
place_reply (place.Held base) = placed.At base
place_reply (place.New base) = placed.At base
place_reply place.NoRoom = placed.NoRoom

-- the step of a new place
abbrev pub placing : TicketParts → ℕ → Place → List Step
placing t pages (place.New base) = Placed t.seat t.number t.path base pages ∷ []
placing t pages _ = []

-- where it stands from then on
abbrev pub place_then : PlaceReply → Place
place_then (placed.At base) = place.Held base
place_then placed.NoRoom = place.NoRoom

-- so many pages may be linked there
abbrev pub MayLink : PlaceReply → ℕ → Type 0
MayLink (placed.At base) pages = (base % 4096 ≡ 0) × (base + 4096 * pages ≤ 2 ^ 47)
MayLink placed.NoRoom pages = Unit {0}

pub record PlaceGives (old : StoreParts) (t : TicketParts) (r : Ready) (reply : PlaceReply)
    (new : StoreParts) : Type 0 where
  pub reply_is : reply ≡ place_reply (place_for_ticket old.steps t r)
  pub steps : Appended old new (placing t r.layout.pages (place_for_ticket old.steps t r))
  pub stands : place_for_ticket new.steps t r ≡ place_then reply
  pub ticket : IsTicket new.steps t
  pub links : MayLink reply r.layout.pages

-- ---- ending

-- an image that may end a link request: the ticket's path, linked at the place that it holds, of
-- what the path read
pub record IsImageFor (P : List Step) (t : TicketParts) (l : LinkedImage) (plan : Plan)
    : Type 0 where
  pub path : l.path ≡ t.path
  pub listed : footprint t.space t.path ≡ Some l.footprint
  pub place : HasPlace P (asking_of t) plan (place.Held l.base)

-- how a link request may end
abbrev pub MayFinish : List Step → TicketParts → Outcome → Type 0
MayFinish P t (outcome.Image l) = (plan : Plan) × IsImageFor P t l plan
MayFinish P t (outcome.Refused x) = IsRefusal P (asking_of t) x
MayFinish P t outcome.NoMemory = Unit {0}
MayFinish P t outcome.Replayed =
    (t.seat ≡ 0) × (plan : Plan) × (base : ℕ) × HasPlace P (asking_of t) plan (place.Held base)

abbrev pub note_of_outcome : Outcome → Note
note_of_outcome (outcome.Image l) = note.Image l.base
note_of_outcome (outcome.Refused x) = note.Refused x
note_of_outcome outcome.NoMemory = note.NoMemory
note_of_outcome outcome.Replayed = note.Replayed

-- the answer, and what it makes due
abbrev pub ending : ℕ → List Step → TicketParts → Note → List Step
ending c P t x = Answered t.seat t.number x ∷ dues c (P ++ Answered t.seat t.number x ∷ [])

abbrev pub FinishGives : StoreParts → TicketParts → Outcome → StoreParts → Type 0
FinishGives old t o new = Appended old new (ending old.limits.cache old.steps t (note_of_outcome o))

-- a note without an image
abbrev pub IsPlain : Note → Type 0
IsPlain (note.Image base) = ⊥
IsPlain _ = Unit {0}
