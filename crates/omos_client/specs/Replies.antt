-- The bytes that come from the server.
use Rattle.std.specs.Prelude.{◌≡◌, ◌⊎◌, ℕ, ◌+◌, ◌<◌, Bool, true, false, List, ◌++◌, length, ⊤}
use Rattle.std.specs.Prelude.{Option, Result, Ok, Err}
use Rattle.omos_base.specs.Fields.{number_at}
use Rattle.omos_outside.specs.Stream.{Stream, Gives, IsAtEnd}
use Rattle.stream_reads.specs.declared.exact.Unread.{Unread}
use Rattle.stream_reads.specs.declared.exact.Unread.TheVariants as unread
use Rattle.omos_wire.specs.Answer.{Answer, IsReplyFrame}
use Rattle.omos_wire.specs.Answer as reply
use Rattle.omos_wire.specs.Read.{answer_in}
use Rattle.omos_wire.specs.declared.owned_reply.ReplyParts.{ReplyParts}
use Rattle.omos_client.specs.declared.errand.Command.{Command}
use Rattle.omos_client.specs.declared.errand.Command.TheVariants.{Put, Blueprint, Link, Where}
use Rattle.omos_client.specs.declared.errand.Command.TheVariants.{Stats, Flush}
use Rattle.omos_client.specs.declared.receiving.Unheard.{Unheard}
use Rattle.omos_client.specs.declared.receiving.Unheard.TheVariants.{SourceFailed, Ended, NotReply}
use Rattle.omos_client.specs.declared.receiving.Unheard.TheVariants.{NoMemory}

-- why a reply wasn't read, by why its bytes weren't
abbrev pub cause_of : Unread → Unheard
cause_of unread.Ended = Ended
cause_of unread.Failed = SourceFailed
cause_of unread.NoMemory = NoMemory

-- no reply's frame begins with these bytes
abbrev pub BeginNoReply : List ℕ → Type 0
BeginNoReply bytes = (a : Answer) (tail : List ℕ) → IsReplyFrame (bytes ++ tail) a → ⊥

-- the bytes are fewer than the length that their first four say, and those four
abbrev pub IsShort : List ℕ → Type 0
IsShort bytes = (length bytes < 4) ⊎ (length bytes < 4 + number_at 4 0 bytes)

-- which replies a request may have
abbrev pub may_have : Command → Answer → Bool
may_have Put (reply.Published version) = true
may_have Put (reply.Refused x) = true
may_have Put reply.NoMemory = true
may_have Put reply.Full = true
may_have Put reply.KeptFull = true
may_have Blueprint (reply.Published version) = true
may_have Blueprint (reply.Refused x) = true
may_have Blueprint reply.NoMemory = true
may_have Blueprint reply.Full = true
may_have Blueprint reply.KeptFull = true
may_have Link (reply.Image version base bytes) = true
may_have Link (reply.Refused x) = true
may_have Link reply.NoMemory = true
may_have Link reply.Full = true
may_have Where (reply.Places spans) = true
may_have Where (reply.Refused x) = true
may_have Where reply.NoMemory = true
may_have Where reply.Full = true
may_have Stats (reply.Counts counts) = true
may_have Stats reply.Full = true
may_have Flush (reply.Flushed held) = true
may_have Flush (reply.Refused x) = true
may_have Flush reply.Full = true
may_have _ _ = false

-- ---- one reply

-- These bytes are a reply's frame; or they end before they are one; or they begin none.
abbrev pub OneReply : Result ReplyParts Unheard → Option Stream → List ℕ → Type 0
OneReply (Ok parts) now bytes = IsReplyFrame bytes (answer_in parts)
OneReply (Err Ended) now bytes = IsAtEnd now × IsShort bytes
OneReply (Err NotReply) now bytes = BeginNoReply bytes
OneReply (Err SourceFailed) now bytes = ⊤
OneReply (Err NoMemory) now bytes = ⊤

-- nothing is said where memory ran out
abbrev pub UnlessNoMemory : {A : Type 0} → Result A Unheard → Type 0 → Type 0
UnlessNoMemory (Err NoMemory) said = ⊤
UnlessNoMemory _ said = said

-- the source gave them
abbrev pub Receives : Result ReplyParts Unheard → Option Stream → Option Stream → Type 0
Receives result before now =
    UnlessNoMemory result ((bytes : List ℕ) × Gives before now bytes × OneReply result now bytes)

-- ---- the reply to a request, and Bye

-- bytes that begin no reply, or a reply that isn't Bye
abbrev pub IsNoBye : List ℕ → Type 0
IsNoBye bytes =
    BeginNoReply bytes ⊎ ((a : Answer) × IsReplyFrame bytes a × (a ≡ reply.Bye → ⊥))

-- These bytes are Bye's frame; or they end before they are one; or they are no Bye.
abbrev pub OneBye : Result Unit Unheard → Option Stream → List ℕ → Type 0
OneBye (Ok done) now bytes = IsReplyFrame bytes reply.Bye
OneBye (Err Ended) now bytes = IsAtEnd now × IsShort bytes
OneBye (Err NotReply) now bytes = IsNoBye bytes
OneBye (Err SourceFailed) now bytes = ⊤
OneBye (Err NoMemory) now bytes = ⊤

abbrev pub ReceivesBye : Result Unit Unheard → Option Stream → Option Stream → Type 0
ReceivesBye result before now =
    UnlessNoMemory result ((bytes : List ℕ) × Gives before now bytes × OneBye result now bytes)

-- the bytes are a reply that the request may have, and what stands behind it
pub record IsAnswered (command : Command) (a : Answer) (bytes second : List ℕ) : Type 0 where
  pub first : List ℕ
  pub whole : bytes ≡ first ++ second
  pub frame : IsReplyFrame first a
  pub may : may_have command a ≡ true

-- a reply that the request can't have
abbrev pub IsOtherReply : Command → List ℕ → Type 0
IsOtherReply command bytes = (a : Answer) × IsReplyFrame bytes a × (may_have command a ≡ false)

-- behind a reply that the request may have the bytes are so
abbrev pub IsThen : Command → List ℕ → (List ℕ → Type 0) → Type 0
IsThen command bytes Is =
    (a : Answer) × (second : List ℕ) × IsAnswered command a bytes second × Is second

-- The bytes are the reply and Bye; or they end before that; or they are no such replies.
abbrev pub TwoReplies : Result ReplyParts Unheard → Command → Option Stream → List ℕ → Type 0
TwoReplies (Ok parts) command now bytes =
    (bye : List ℕ) × IsAnswered command (answer_in parts) bytes bye × IsReplyFrame bye reply.Bye
TwoReplies (Err Ended) command now bytes =
    IsAtEnd now × (IsShort bytes ⊎ IsThen command bytes IsShort)
TwoReplies (Err NotReply) command now bytes =
    BeginNoReply bytes ⊎ IsOtherReply command bytes ⊎ IsThen command bytes IsNoBye
TwoReplies (Err SourceFailed) command now bytes = ⊤
TwoReplies (Err NoMemory) command now bytes = ⊤

abbrev pub Hears : Result ReplyParts Unheard → Command → Option Stream → Option Stream → Type 0
Hears result command before now = UnlessNoMemory result
    ((bytes : List ℕ) × Gives before now bytes × TwoReplies result command now bytes)
