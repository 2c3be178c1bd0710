-- What the calls for publishes, flushes and looks append and answer.
use Rattle.std.specs.Prelude.{◌≡◌, ℕ, ◌+◌, ◌<◌, Bool, true, false, List, [], ◌∷◌, length, count_by}
use Rattle.std.specs.Prelude.{filter}
use Rattle.omos_model.specs.Names.{Name}
use Rattle.omos_model.specs.Namespace.{Space, with_entry}
use Rattle.omos_model.specs.declared.entry.Entry.{Entry}
use Rattle.omos_model.specs.Places.{is_of}
use Rattle.omos_model.specs.declared.placement.Placement.{Placement}
use Rattle.history_book.specs.Steps.{is_asked, is_hit_step, is_stored, is_evicted}
use Rattle.history_book.specs.Told.{requests, version_after, namespace_after, kept_bytes, book_of}
use Rattle.history_book.specs.Cache.{cache_after, is_held}
use Rattle.history_book.specs.Legal.{max_kept}
use Rattle.history_book.specs.declared.step.Look.TheVariants as look
use Rattle.history_book.specs.declared.step.Step.{Step}
use Rattle.history_book.specs.declared.step.Step.TheVariants.{Put, Missed, Looked, Evicted, Flushed}
use Rattle.hub_store.specs.Parts.{StoreParts, Appended, IsFull, ReadyParts, HasRoomLeft}
use Rattle.hub_store.specs.declared.counts.Counts.{Counts}
use Rattle.hub_store.specs.declared.counts.Totals.{Totals}
use Rattle.hub_store.specs.declared.reply.FlushReply.{FlushReply}
use Rattle.hub_store.specs.declared.reply.FlushReply.TheVariants as flush
use Rattle.hub_store.specs.declared.reply.Noted.{Noted}
use Rattle.hub_store.specs.declared.reply.Noted.TheVariants as noted
use Rattle.hub_store.specs.declared.reply.PlacesReply.{PlacesReply}
use Rattle.hub_store.specs.declared.reply.PlacesReply.TheVariants as places
use Rattle.hub_store.specs.declared.reply.PutReply.{PutReply}
use Rattle.hub_store.specs.declared.reply.PutReply.TheVariants as put
use Rattle.hub_store.specs.declared.reply.StatsReply.{StatsReply}
use Rattle.hub_store.specs.declared.reply.StatsReply.TheVariants as stats

-- ---- publishes

-- the namespace that a publish makes next
abbrev pub next_space : List Step → Name → Entry → Space
next_space P path entry =
    with_entry (namespace_after P)
    (record { path = path; stamp = version_after P + 1; entry = entry })

abbrev pub next_put : List Step → Name → Entry → ℕ → ReadyParts
next_put P path entry size =
    record { path = path; entry = entry; size = size; space = next_space P path entry }

-- the publish was made ready for a store with these steps
abbrev pub IsNext : List Step → ReadyParts → Type 0
IsNext P ready = ready.space ≡ next_space P ready.path ready.entry

abbrev pub IsTooMuch : StoreParts → ℕ → Type 0
IsTooMuch s size = max_kept < kept_bytes s.steps + size

-- too many bytes come before a full record
abbrev pub PutGives : StoreParts → ℕ → ReadyParts → PutReply → StoreParts → Type 0
PutGives old seat ready (put.Published v) new =
    HasRoomLeft old × ¬ IsTooMuch old ready.size × (v ≡ version_after old.steps + 1)
    × Appended old new (Put seat (requests old.steps) ready.path ready.entry ready.size ∷ [])
PutGives old seat ready put.KeptFull new = IsTooMuch old ready.size × (new ≡ old)
PutGives old seat ready put.Full new = ¬ IsTooMuch old ready.size × IsFull old new

abbrev pub MissedGives : StoreParts → ℕ → Noted → StoreParts → Type 0
MissedGives old seat noted.Done new =
    HasRoomLeft old × Appended old new (Missed seat (requests old.steps) ∷ [])
MissedGives old seat noted.Full new = IsFull old new

-- ---- flushes

-- what a flush makes due
abbrev pub flushing : Bool → ℕ → ℕ → Name → List Step
flushing true seat number path = Evicted seat number path ∷ []
flushing false seat number path = []

abbrev pub FlushGives : StoreParts → ℕ → Name → FlushReply → StoreParts → Type 0
FlushGives old seat path (flush.Flushed held) new =
    HasRoomLeft old × (held ≡ is_held (cache_after old.steps) path)
    × Appended old new
    (Flushed seat (requests old.steps) path held ∷ flushing held seat (requests old.steps) path)
FlushGives old seat path flush.Full new = IsFull old new

-- ---- looks

-- the placements of a path, in order of placing
abbrev pub placements_of : List Step → Name → List Placement
placements_of P path = filter (is_of path) (book_of P)

abbrev pub PlacesGives : StoreParts → ℕ → Name → PlacesReply → StoreParts → Type 0
PlacesGives old seat path (places.Places ps) new =
    HasRoomLeft old × (ps ≡ placements_of old.steps path)
    × Appended old new (Looked seat (requests old.steps) (look.Places path) ∷ [])
PlacesGives old seat path places.Full new = IsFull old new
PlacesGives old seat path places.NoMemory new =
    HasRoomLeft old × Appended old new (Missed seat (requests old.steps) ∷ [])

abbrev pub counts_of : List Step → Counts
counts_of P =
    record {
      version = version_after P;
      paths = length (namespace_after P);
      placements = length (book_of P);
      asked = count_by is_asked P;
      hits = count_by is_hit_step P;
      stored = count_by is_stored P;
      evicted = count_by is_evicted P;
      held = length (cache_after P);
      steps = length P;
    }

abbrev pub totals_of : List Step → Totals
totals_of P = record { requests = requests P; counts = counts_of P }

abbrev pub StatsGives : StoreParts → ℕ → StatsReply → StoreParts → Type 0
StatsGives old seat (stats.Counts counts) new =
    HasRoomLeft old × (counts ≡ counts_of old.steps)
    × Appended old new (Looked seat (requests old.steps) look.Stats ∷ [])
StatsGives old seat stats.Full new = IsFull old new
