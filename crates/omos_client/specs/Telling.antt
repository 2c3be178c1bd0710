-- What becomes of the reply.
use Rattle.std.specs.Prelude.{◌≡◌, ℕ, List, Option, None, Some, ⊤}
use Rattle.std.specs.Io.KnownBytes.{Appends}
use Rattle.omos_outside.specs.Sent.{WrotePart}
use Rattle.omos_files.specs.Files.{with_content, FileName}
use Rattle.omos_files.specs.declared.files.FileWrote.{FileWrote}
use Rattle.omos_files.specs.declared.files.FileWrote.TheVariants as wrote
use Rattle.omos_wire.specs.Answer.{Answer}
use Rattle.omos_wire.specs.Answer as reply
use Rattle.omos_client.specs.Lines.{line_for, status_for}
use Rattle.omos_client.specs.Sending.{Files}
use Rattle.omos_client.specs.declared.ending.Ending.{Ending}
use Rattle.omos_client.specs.declared.ending.Ending.TheVariants.{Done, Refused, OutputFailed}
use Rattle.omos_client.specs.declared.ending.Ending.TheVariants.{FileFailed, NoMemory}
use Rattle.omos_client.specs.declared.ending.Ending.TheVariants.{ServerNoMemory}

-- where the files are told, the file holds these bytes now, and no other file changed
abbrev pub IsWritten : Files → Files → FileName → List ℕ → Type 0
IsWritten None now name bytes = ⊤
IsWritten (Some before) None name bytes = ⊥
IsWritten (Some before) (Some now) name bytes = now ≡ with_content name bytes before

-- an image goes into the file; no other reply changes one
abbrev pub GoesIntoFile : Answer → Files → Files → FileName → Type 0
GoesIntoFile (reply.Image version base bytes) before now name = IsWritten before now name bytes
GoesIntoFile _ before now name = now ≡ before

-- a write that is done leaves the reply's image in the file
abbrev pub Keeps : FileWrote → Answer → Files → Files → FileName → Type 0
Keeps wrote.Done a before now name = GoesIntoFile a before now name
Keeps _ a before now name = ⊤

-- how a run ends whose reply was printed
abbrev pub EndsBy : Ending → Answer → Type 0
EndsBy Done a = status_for a ≡ 0
EndsBy Refused a = status_for a ≡ 1
EndsBy ServerNoMemory a = status_for a ≡ 12
EndsBy _ a = ⊥

-- The image was written to its file, and then the line to the output; or a part of the line, where
-- that failed; or, where the file or memory failed, nothing was printed.
abbrev pub TellsReply : Ending → Answer → FileName → Files → Files → Option (List ℕ) →
    Option (List ℕ) → Type 0
TellsReply Done a file files files' before now =
    (status_for a ≡ 0) × GoesIntoFile a files files' file × Appends before now (line_for a)
TellsReply Refused a file files files' before now =
    (status_for a ≡ 1) × GoesIntoFile a files files' file × Appends before now (line_for a)
TellsReply ServerNoMemory a file files files' before now =
    (status_for a ≡ 12) × GoesIntoFile a files files' file × Appends before now (line_for a)
TellsReply OutputFailed a file files files' before now =
    GoesIntoFile a files files' file × WrotePart before now (line_for a)
TellsReply FileFailed a file files files' before now = now ≡ before
TellsReply NoMemory a file files files' before now = now ≡ before
TellsReply _ a file files files' before now = ⊥
