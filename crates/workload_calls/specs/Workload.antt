-- `omosd workload N`: a session of seat 1 with the frames of workload N, and one line that says
-- what its replies come to.
use Rattle.std.specs.Prelude.{◌≡◌, ℕ, true, List, [], map, Option, Some}
use Rattle.std.specs.List.{AllByRecursion}
use Rattle.omos_outside.specs.Sent.{Wrote}
use Rattle.omos_outside.specs.declared.writing.Sent.{Sent}
use Rattle.omos_outside.specs.declared.writing.Sent.TheVariants as sent
use Rattle.history_book.specs.Legal.{IsLegal}
use Rattle.hub_store.specs.Parts.{StoreParts, limits_of}
use Rattle.omos_hub.specs.Turns.{IsOf, Moves}
use Rattle.omos_session.specs.Session.{frames}
use Rattle.omos_session.specs.Talk.{IsTold, Row, turns_of}
use Rattle.omos_wire.specs.Answer.{Answer}
use Rattle.workload_calls.specs.Replies.{replies_bytes}
use Rattle.workload_calls.specs.Stream.{workload}
use Rattle.workload_calls.specs.Lines.{TellsFigures}

-- a cache of 64 images, and a record of 4,096 steps
abbrev pub cache : ℕ
cache = 64

abbrev pub room : ℕ
room = 4096

abbrev pub replies : List Row → List Answer
replies rows = map (λ (row : Row). row.reply) rows

-- A session of seat 1 began on an empty store and left this one. Its requests were those of
-- workload n, each was answered on the record as the table of rows says, and these bytes are the
-- replies.
pub record HasTalked (n : ℕ) (store : StoreParts) (written : List ℕ) : Type 0 where
  pub rows : List Row
  pub requests : frames rows ≡ workload n
  pub limits : store.limits ≡ limits_of cache room
  pub legal : IsLegal cache room store.steps
  pub own : AllByRecursion (IsOf 1) store.steps
  pub moves : Moves true 1 [] (turns_of rows) store.steps
  pub told : AllByRecursion (IsTold room 1) rows
  pub wrote : written ≡ replies_bytes (replies rows)

-- such a session ended so, and the line is of its replies
pub record IsServedWorkload (n : ℕ) (store : StoreParts) (line : List ℕ) : Type 0 where
  pub written : List ℕ
  pub talk : HasTalked n store written
  pub tells : TellsFigures n (replies talk.rows) line

abbrev pub sent_status : Sent → ℕ
sent_status sent.All = 0
sent_status sent.Failed = 4

-- The words say a number; its workload was served, and its line written, or a part of it where the
-- sink failed, as the status tells.
pub record HasWorked (status : ℕ) (said : Option ℕ) (store : StoreParts)
    (held held' : Option (List ℕ)) : Type 0 where
  pub n : ℕ
  pub said_is : said ≡ Some n
  pub line : List ℕ
  pub served : IsServedWorkload n store line
  pub answer : Sent
  pub wrote : Wrote answer held held' line
  pub status_is : status ≡ sent_status answer
