-- What contracts see of a store and of what is made ready outside it.
use Rattle.std.specs.Prelude.{◌≡◌, ℕ, ◌≤◌, List, ◌++◌, length}
use Rattle.omos_base.specs.Limits.{Counts as Limits}
use Rattle.omos_model.specs.Names.{Name}
use Rattle.omos_model.specs.Namespace.{Space}
use Rattle.omos_model.specs.declared.entry.Entry.{Entry}
use Rattle.history_book.specs.Steps.{Ask}
use Rattle.history_book.specs.Told.{IsOpen, missing, namespace_in, version_after, book_of}
use Rattle.history_book.specs.Told.{before_ask}
use Rattle.history_book.specs.Room.{HasRoom}
use Rattle.history_book.specs.declared.step.Step.{Step}

-- the steps of the record, and the limits: how many items the cache and how many steps the record
-- may hold
pub record StoreParts : Type 0 where
  pub steps : List Step
  pub limits : Limits

abbrev pub limits_of : ℕ → ℕ → Limits
limits_of cache steps = record { cache = cache; steps = steps }

abbrev pub store_of : List Step → ℕ → ℕ → StoreParts
store_of steps cache room = record { steps = steps; limits = limits_of cache room }

-- the store has these steps more
abbrev pub Appended : StoreParts → StoreParts → List Step → Type 0
Appended old new steps = new ≡ record old { steps = old.steps ++ steps }

abbrev pub HasRoomLeft : StoreParts → Type 0
HasRoomLeft s = HasRoom s.limits.steps s.steps

-- a call that finds no room changes nothing
abbrev pub IsFull : StoreParts → StoreParts → Type 0
IsFull old new = ¬ HasRoomLeft old × (new ≡ old)

-- a publish, and the version that it makes
pub record ReadyParts : Type 0 where
  pub path : Name
  pub entry : Entry
  pub size : ℕ
  pub space : Space

-- a link request, the number of placements when it was asked, and the namespace then
pub record TicketParts : Type 0 where
  pub seat : ℕ
  pub number : ℕ
  pub path : Name
  pub version : ℕ
  pub placed : ℕ
  pub space : Space

abbrev pub asking_of : TicketParts → Ask
asking_of t = missing t.seat t.number t.path t.version

-- the ticket is of a link request that is open in the record
pub record IsTicket (P : List Step) (t : TicketParts) : Type 0 where
  pub here : IsOpen P (asking_of t)
  pub within : t.version ≤ version_after P
  pub space : t.space ≡ namespace_in P t.version
  pub placed : t.placed ≡ length (book_of (before_ask P t.number))
