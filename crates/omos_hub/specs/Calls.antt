-- What the calls of a desk answer and add: the store's own calls, each at a turn.
use Rattle.std.specs.Prelude.{◌≡◌, ℕ, ◌+◌, Bool}
use Rattle.std.specs.Option.{option_map}
use Rattle.omos_model.specs.Names.{Name}
use Rattle.omos_model.specs.declared.entry.Entry.{Entry}
use Rattle.link_model.specs.Module.{Ready}
use Rattle.link_model.specs.Plan.{Plan}
use Rattle.hub_store.specs.Links.{AskGives, FinishGives, IsPlanFor, PlaceGives}
use Rattle.hub_store.specs.Parts.{IsFull, StoreParts, TicketParts}
use Rattle.hub_store.specs.Requests.{FlushGives, MissedGives, PlacesGives, PutGives, StatsGives}
use Rattle.hub_store.specs.Requests.{next_put}
use Rattle.hub_store.specs.declared.reply.AskReply.{AskReply}
use Rattle.hub_store.specs.declared.reply.FlushReply.{FlushReply}
use Rattle.hub_store.specs.declared.reply.Noted.{Noted}
use Rattle.hub_store.specs.declared.reply.Noted.TheVariants as noted
use Rattle.hub_store.specs.declared.reply.Outcome.{Outcome}
use Rattle.hub_store.specs.declared.reply.PlaceReply.{PlaceReply}
use Rattle.hub_store.specs.declared.reply.PlacesReply.{PlacesReply}
use Rattle.hub_store.specs.declared.reply.PutReply.TheVariants as put
use Rattle.hub_store.specs.declared.reply.StatsReply.{StatsReply}
use Rattle.omos_hub.specs.Standing.{AtTurn, Standing}
use Rattle.omos_hub.specs.declared.publishing.Publishing.{Publishing}
use Rattle.omos_hub.specs.declared.publishing.Publishing.TheVariants as publishing

-- a put, or the note that it found no memory
abbrev pub PublishGives : ℕ → Name → Entry → ℕ → Publishing → StoreParts → StoreParts → Type 0
PublishGives seat path e size (publishing.Published v) a b =
    PutGives a seat (next_put a.steps path e size) (put.Published v) b
PublishGives seat path e size publishing.KeptFull a b =
    PutGives a seat (next_put a.steps path e size) put.KeptFull b
PublishGives seat path e size publishing.Full a b = IsFull a b
PublishGives seat path e size publishing.NoMemory a b = MissedGives a seat noted.Done b

abbrev pub Publishes : Bool → Standing → Standing → Name → Entry → ℕ → Publishing → Type 0
Publishes alone old new path e size reply =
    AtTurn alone old new (PublishGives old.seat path e size reply)

abbrev pub Misses : Bool → Standing → Standing → Noted → Type 0
Misses alone old new reply = AtTurn alone old new (λ a b. MissedGives a old.seat reply b)

abbrev pub Asks : Bool → Standing → Standing → Name → AskReply → Type 0
Asks alone old new path reply = AtTurn alone old new (λ a b. AskGives a old.seat path reply b)

-- the gate was crossed once, where there is one
abbrev pub Crosses : Standing → Standing → Type 0
Crosses old new = new ≡ record old { crossed = option_map (λ (n : ℕ). n + 1) old.crossed }

-- the module and its layout are those of the ticket's plan
abbrev pub PlansTicket : TicketParts → Ready → Type 0
PlansTicket t r = (plan : Plan) × IsPlanFor t r plan

abbrev pub PlacesAt : Bool → Standing → Standing → TicketParts → Ready → PlaceReply → Type 0
PlacesAt alone old new t r reply = AtTurn alone old new (λ a b. PlaceGives a t r reply b)

abbrev pub Finishes : Bool → Standing → Standing → TicketParts → Outcome → Type 0
Finishes alone old new t o = AtTurn alone old new (λ a b. FinishGives a t o b)

abbrev pub Flushes : Bool → Standing → Standing → Name → FlushReply → Type 0
Flushes alone old new path reply = AtTurn alone old new (λ a b. FlushGives a old.seat path reply b)

abbrev pub Lists : Bool → Standing → Standing → Name → PlacesReply → Type 0
Lists alone old new path reply = AtTurn alone old new (λ a b. PlacesGives a old.seat path reply b)

abbrev pub CountsAtTurn : Bool → Standing → Standing → StatsReply → Type 0
CountsAtTurn alone old new reply = AtTurn alone old new (λ a b. StatsGives a old.seat reply b)
