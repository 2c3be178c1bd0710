-- Files in memory that fail where they are told to.
use Rattle.std.specs.Prelude.{◌≡◌, ◌⊎◌, ℕ, ◌<◌, ◌≤◌, List, length, None, Some}
use Rattle.omos_outside.specs.Faults.{counted}
use Rattle.omos_outside.specs.Scripted.{FailsNext}
use Rattle.omos_files.specs.Files.{File, Content, content_of, with_content}
use Rattle.omos_files.specs.Files.{FileName}
use Rattle.omos_files.specs.declared.files.FileRead.{FileRead}
use Rattle.omos_files.specs.declared.files.FileRead.TheVariants as read
use Rattle.omos_files.specs.declared.files.FileWrote.{FileWrote}
use Rattle.omos_files.specs.declared.files.FileWrote.TheVariants as wrote

-- the files; `fails` lists the calls that fail, counted from 1, and `calls` were made
pub record ScriptedFiles : Type 0 where
  pub files : List File
  pub fails : List ℕ
  pub calls : ℕ
  pub faults : ℕ

-- a read fails at the listed calls and at a name that isn't there; else it gives the content, or
-- says that it is longer than the limit
abbrev pub AnswersFileRead : ScriptedFiles → FileName → ℕ → FileRead → Type 0
AnswersFileRead s name limit (read.Whole bytes) = (FailsNext s.fails s.calls → ⊥)
    × (content_of name s.files ≡ Some bytes) × (length bytes ≤ limit)
AnswersFileRead s name limit read.TooLong = (FailsNext s.fails s.calls → ⊥)
    × ((bytes : Content) × (content_of name s.files ≡ Some bytes) × (limit < length bytes))
AnswersFileRead s name limit read.Failed =
    FailsNext s.fails s.calls ⊎ (content_of name s.files ≡ None)
AnswersFileRead s name limit read.NoMemory = FailsNext s.fails s.calls → ⊥

-- the box after a read that answered so
abbrev pub after_file_read : ScriptedFiles → FileRead → ScriptedFiles
after_file_read s (read.Whole bytes) = record s { calls = counted s.calls }
after_file_read s read.TooLong = record s { calls = counted s.calls }
after_file_read s read.Failed = record s { calls = counted s.calls; faults = counted s.faults }
after_file_read s read.NoMemory = record s { calls = counted s.calls }

-- a write fails at the listed calls alone
abbrev pub AnswersFileWrite : ScriptedFiles → FileWrote → Type 0
AnswersFileWrite s wrote.Done = FailsNext s.fails s.calls → ⊥
AnswersFileWrite s wrote.Failed = FailsNext s.fails s.calls
AnswersFileWrite s wrote.NoMemory = FailsNext s.fails s.calls → ⊥

-- the box after a write of the bytes that answered so
abbrev pub after_file_write : ScriptedFiles → FileName → Content → FileWrote → ScriptedFiles
after_file_write s name bytes wrote.Done =
    record s { files = with_content name bytes s.files; calls = counted s.calls }
after_file_write s name bytes wrote.Failed =
    record s { calls = counted s.calls; faults = counted s.faults }
after_file_write s name bytes wrote.NoMemory = record s { calls = counted s.calls }
