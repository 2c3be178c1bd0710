-- `omosd stdio`: a session of seat 1, which has an empty store for itself.
use Rattle.std.specs.Prelude.{◌≡◌, ℕ, true, List, [], Option, Some}
use Rattle.omos_base.specs.Limits.{Counts as Limits}
use Rattle.omos_outside.specs.Stream.{Stream}
use Rattle.hub_store.specs.Parts.{store_of}
use Rattle.omos_hub.specs.Standing.{Standing, standing_of}
use Rattle.omos_session.specs.Session.{IsSession}
use Rattle.omos_session.specs.declared.session.SessionEnd.{SessionEnd}
use Rattle.omos_session.specs.declared.session.SessionEnd.TheVariants as ending

-- the status that tells how a session ended
abbrev pub session_status : SessionEnd → ℕ
session_status ending.Ended = 0
session_status ending.Closed = 0
session_status (ending.Truncated count) = 5
session_status (ending.BadFrame place cause) = 5
session_status ending.ReadFault = 3
session_status ending.WriteFault = 4
session_status ending.TooMany = 6
session_status ending.NoMemory = 8

-- seat 1, with an empty store of these limits
abbrev pub alone_with : Limits → Standing
alone_with limits = standing_of (store_of [] limits.cache limits.steps) 1

-- The words say limits, and a session of seat 1 on an empty store of these limits came to an end
-- that the status tells.
pub record HasServed (status : ℕ) (said : Option Limits) (told told' : Option Stream)
    (held held' : Option (List ℕ)) : Type 0 where
  pub limits : Limits
  pub said_is : said ≡ Some limits
  pub new : Standing
  pub end : SessionEnd
  pub session : IsSession true (alone_with limits) new told told' held held' end
  pub status_is : status ≡ session_status end
