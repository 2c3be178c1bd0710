-- The request that is sent, with what its file holds.
use Rattle.std.specs.Prelude.{◌≡◌, ℕ, ◌<◌, ◌≤◌, List, [], ◌++◌, length, ⊤, Option, None, Some}
use Rattle.std.specs.Prelude.{Result, Ok, Err}
use Rattle.std.specs.Io.KnownBytes.{Appends}
use Rattle.omos_outside.specs.Sent.{WrotePart}
use Rattle.omos_files.specs.Files.{File, Content, content_of, FileName}
use Rattle.omos_wire.specs.Message.{Message, frame}
use Rattle.omos_wire.specs.Message as message
use Rattle.omos_client.specs.Errands.{Asked}
use Rattle.omos_client.specs.declared.errand.Command.{Command}
use Rattle.omos_client.specs.declared.errand.Command.TheVariants.{Put, Blueprint, Link, Where}
use Rattle.omos_client.specs.declared.errand.Command.TheVariants.{Stats, Flush}
use Rattle.omos_client.specs.declared.sending.Unsent.{Unsent}
use Rattle.omos_client.specs.declared.sending.Unsent.TheVariants.{FileFailed, FileTooLong}
use Rattle.omos_client.specs.declared.sending.Unsent.TheVariants.{SinkFailed, NoMemory}

-- files by their names, where they are told
abbrev pub Files : Type 0
Files = Option (List File)

-- how many bytes a file may have that is sent
abbrev pub most_sent : ℕ
most_sent = 2000000

abbrev pub message_by : Command → List ℕ → List ℕ → Message
message_by Put path content = message.PutObject path content
message_by Blueprint path content = message.PutBlueprint path content
message_by Link path content = message.Link path
message_by Where path content = message.Places path
message_by Stats path content = message.Stats
message_by Flush path content = message.Flush path

-- the request's frame, and End's
abbrev pub sent_for : Asked → List ℕ → List ℕ
sent_for ask content =
    frame (message_by ask.command ask.path content) ++ frame message.End

-- the file holds this, where the files are told
abbrev pub Holds : Files → FileName → Content → Type 0
Holds None name content = ⊤
Holds (Some files) name content = content_of name files ≡ Some content

-- what goes with a command is what its file holds, or nothing
abbrev pub GoesWith : Command → FileName → Content → Files → Type 0
GoesWith Put file content files = Holds files file content
GoesWith Blueprint file content files = Holds files file content
GoesWith _ file content files = content ≡ []

-- the file holds more than may be sent, where the files are told
abbrev pub IsTooLong : Files → FileName → Type 0
IsTooLong None name = ⊤
IsTooLong (Some files) name =
    (content : Content) × (content_of name files ≡ Some content) × (most_sent < length content)

-- The file holds these bytes; or it holds too many. Nothing is said where it couldn't be read.
abbrev pub Brings : Result Content Unsent → Files → FileName → Type 0
Brings (Ok content) files name = Holds files name content
Brings (Err FileTooLong) files name = IsTooLong files name
Brings (Err FileFailed) files name = ⊤
Brings (Err SinkFailed) files name = ⊥
Brings (Err NoMemory) files name = ⊤

-- The same of what goes with a command.
abbrev pub BringsWith : Command → Result Content Unsent → Files → FileName → Type 0
BringsWith command (Ok content) files name = GoesWith command name content files
BringsWith command (Err x) files name = Brings (Err x) files name

-- The whole request was sent; or a part of it, where the sink failed; or nothing.
abbrev pub Sends : Result Unit Unsent → Asked → Files → Option (List ℕ) → Option (List ℕ) → Type 0
Sends (Ok done) ask files before now =
    (content : Content) × GoesWith ask.command ask.file content files
    × Appends before now (sent_for ask content)
Sends (Err SinkFailed) ask files before now =
    (content : Content) × GoesWith ask.command ask.file content files
    × WrotePart before now (sent_for ask content)
Sends (Err FileTooLong) ask files before now = IsTooLong files ask.file × (now ≡ before)
Sends (Err FileFailed) ask files before now = now ≡ before
Sends (Err NoMemory) ask files before now = now ≡ before
