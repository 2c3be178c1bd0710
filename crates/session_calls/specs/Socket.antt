-- `omosd socket`: workers that serve the links which come at their doors, on one store.
use Rattle.std.specs.Prelude.{◌≡◌, ℕ, ◌==◌, Bool, List, [], ◌∷◌, ◌++◌, codes, decimal, Option, Some}
use Rattle.std.specs.Prelude.{None, if◌then◌else◌}
use Rattle.command_words.specs.Words.{socket_words}
use Rattle.command_words.specs.declared.server.SocketWords.{SocketWords}
use Rattle.omos_outside.specs.Sent.{Wrote}
use Rattle.omos_outside.specs.declared.writing.Sent.{Sent}
use Rattle.omos_outside.specs.declared.writing.Sent.TheVariants as sent
use Rattle.hub_store.specs.Parts.{StoreParts}
use Rattle.hub_store.specs.Requests.{totals_of}
use Rattle.hub_store.specs.declared.counts.Totals.{Totals}
use Rattle.omosd_slots.specs.Slots.{Ran, SlotState}

-- `sessions N requests R version V placements L hits H stored T evicted E`
abbrev pub totals_line : ℕ → Totals → List ℕ
totals_line sessions n =
    codes "sessions " ++ decimal sessions ++ codes " requests " ++ decimal n.requests
    ++ codes " version " ++ decimal n.counts.version
    ++ codes " placements " ++ decimal n.counts.placements
    ++ codes " hits " ++ decimal n.counts.hits ++ codes " stored " ++ decimal n.counts.stored
    ++ codes " evicted " ++ decimal n.counts.evicted ++ 10 ∷ []

abbrev pub status_by : Bool → Sent → ℕ
status_by failed sent.All = if failed then 9 else 0
status_by failed sent.Failed = if failed then 9 else 4

abbrev pub if_workers : ℕ → Option SocketWords → Option SocketWords
if_workers slots (Some said) = if said.workers == slots then Some said else None
if_workers slots None = None

-- what the words say, where there are as many slots as workers
abbrev pub socket_said : List (List ℕ) → ℕ → Option SocketWords
socket_said words slots = if_workers slots (socket_words words)

-- The words say limits, workers and sessions. The workers ran, the hub was
-- closed, and the line of its totals was written, or a part of it where the sink failed.
pub record HasRun (status : ℕ) (said : Option SocketWords) (before after : List SlotState)
    (held held' : Option (List ℕ)) : Type 0 where
  pub words : SocketWords
  pub said_is : said ≡ Some words
  pub served : ℕ
  pub failed : Bool
  pub store : StoreParts
  pub ran : Ran words.cache words.steps words.sessions before after served failed store
  pub answer : Sent
  pub wrote : Wrote answer held held' (totals_line served (totals_of store.steps))
  pub status_is : status ≡ status_by failed answer
