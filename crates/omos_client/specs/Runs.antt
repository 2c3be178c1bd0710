-- A run of the client from end to end, by how it ends.
use Rattle.std.specs.Prelude.{◌≡◌, ℕ, List, Option, Some, Result, Ok, Err}
use Rattle.std.specs.Io.KnownBytes.{Appends}
use Rattle.omos_outside.specs.Sent.{WrotePart}
use Rattle.omos_outside.specs.Stream.{Stream, Gives}
use Rattle.omos_wire.specs.Read.{answer_in}
use Rattle.omos_wire.specs.declared.owned_reply.ReplyParts.{ReplyParts}
use Rattle.omos_client.specs.Errands.{Asked}
use Rattle.omos_client.specs.Replies.{TwoReplies}
use Rattle.omos_client.specs.Sending.{Files, GoesWith, IsTooLong, sent_for}
use Rattle.omos_client.specs.declared.ending.Ending.{Ending}
use Rattle.omos_client.specs.declared.ending.Ending.TheVariants as ends
use Rattle.omos_client.specs.declared.receiving.Unheard.{Unheard}
use Rattle.omos_client.specs.declared.receiving.Unheard.TheVariants as unheard
use Rattle.omos_client.specs.Telling.{TellsReply}
use Rattle.omos_client.specs.Ends.{client_status}

-- what the outside tells: its files, the two directions of the link, and the output
pub record Outside : Type 0 where
  pub files : Files
  pub from : Option Stream
  pub to : Option (List ℕ)
  pub out : Option (List ℕ)

abbrev pub outside : Files → Option Stream → Option (List ℕ) → Option (List ℕ) → Outside
outside files from to out = record { files = files; from = from; to = to; out = out }

-- the whole request was sent, with what its file holds, and End behind it
abbrev pub HasSent : Asked → Outside → Outside → Type 0
HasSent ask before now = (content : List ℕ)
    × GoesWith ask.command ask.file content before.files
    × Appends before.to now.to (sent_for ask content)

-- the server's bytes were so
abbrev pub HasHeard : Result ReplyParts Unheard → Asked → Outside → Outside → Type 0
HasHeard result ask before now = (bytes : List ℕ)
    × Gives before.from now.from bytes × TwoReplies result ask.command now.from bytes

-- the reply and Bye came, and the reply was told
abbrev pub HasTold : Ending → Asked → Outside → Outside → Type 0
HasTold end ask before now = (parts : ReplyParts) × HasHeard (Ok parts) ask before now
    × TellsReply end (answer_in parts) ask.file before.files now.files before.out now.out

-- nothing was printed
abbrev pub IsSilent : Outside → Outside → Type 0
IsSilent before now = now.out ≡ before.out

-- once the request was sent
abbrev pub FollowsSending : Ending → Asked → Outside → Outside → Type 0
FollowsSending ends.Done ask before now = HasTold ends.Done ask before now
FollowsSending ends.Refused ask before now = HasTold ends.Refused ask before now
FollowsSending ends.ServerNoMemory ask before now = HasTold ends.ServerNoMemory ask before now
FollowsSending ends.OutputFailed ask before now = HasTold ends.OutputFailed ask before now
FollowsSending ends.FileFailed ask before now = IsSilent before now
FollowsSending ends.SourceFailed ask before now = IsSilent before now
FollowsSending ends.Ended ask before now =
    HasHeard (Err unheard.Ended) ask before now × IsSilent before now
FollowsSending ends.NotReply ask before now =
    HasHeard (Err unheard.NotReply) ask before now × IsSilent before now
FollowsSending ends.NoMemory ask before now = IsSilent before now
FollowsSending _ ask before now = ⊥

-- A run whose words ask for this.
abbrev pub RunsTo : Ending → Asked → Outside → Outside → Type 0
RunsTo ends.Done ask before now = HasSent ask before now × HasTold ends.Done ask before now
RunsTo ends.Refused ask before now = HasSent ask before now × HasTold ends.Refused ask before now
RunsTo ends.ServerNoMemory ask before now =
    HasSent ask before now × HasTold ends.ServerNoMemory ask before now
RunsTo ends.OutputFailed ask before now =
    HasSent ask before now × HasTold ends.OutputFailed ask before now
RunsTo ends.FileFailed ask before now = IsSilent before now
RunsTo ends.FileTooLong ask before now =
    IsTooLong before.files ask.file × (now.to ≡ before.to) × IsSilent before now
RunsTo ends.SinkFailed ask before now = ((content : List ℕ)
    × GoesWith ask.command ask.file content before.files
    × WrotePart before.to now.to (sent_for ask content)) × IsSilent before now
RunsTo ends.SourceFailed ask before now = HasSent ask before now × IsSilent before now
RunsTo ends.Ended ask before now = HasSent ask before now
    × HasHeard (Err unheard.Ended) ask before now × IsSilent before now
RunsTo ends.NotReply ask before now = HasSent ask before now
    × HasHeard (Err unheard.NotReply) ask before now × IsSilent before now
RunsTo ends.NoMemory ask before now = IsSilent before now
RunsTo ends.Usage ask before now = ⊥

-- the words ask for something, and the run came to an end that this status tells
abbrev pub RanAsked : ℕ → Option Asked → Outside → Outside → Type 0
RanAsked status asks before now = (ask : Asked) × (asks ≡ Some ask)
    × (end : Ending) × (status ≡ client_status end) × RunsTo end ask before now
