-- What a run writes for the file that it reads.
use Rattle.std.specs.Prelude.{◌≡◌, ◌⊎◌, ℕ, List, Option}
use Rattle.std.specs.Io.KnownBytes.{Appends}
use Rattle.omosd_calls.specs.declared.ending.Ending.{Ending}
use Rattle.omosd_calls.specs.declared.ending.Ending.TheVariants.{Done, Refused, Usage, SourceFailed}
use Rattle.omosd_calls.specs.declared.ending.Ending.TheVariants.{SinkFailed, NoMemory}
use Rattle.omosd_calls.specs.declared.cause.Cause.{Cause}
use Rattle.omosd_calls.specs.Lone.{cause_line, IsLoneImage, IsRefusalLine}
use Rattle.omos_outside.specs.Sent.{WrotePart}
use Rattle.omosd_calls.specs.Output.{HasWritten, HasWrittenPart}

-- the file's image, or the line of its refusal
abbrev pub IsOutput : List ℕ → List ℕ → Type 0
IsOutput file output = IsLoneImage file output ⊎ IsRefusalLine file output

-- what was written for a file, by how the run ends
abbrev pub Answered : Ending → List ℕ → Option (List ℕ) → Option (List ℕ) → Type 0
Answered Done file before now = HasWritten before now (IsLoneImage file)
Answered Refused file before now = HasWritten before now (IsRefusalLine file)
Answered Usage file before now = ⊥
Answered SourceFailed file before now = ⊥
Answered SinkFailed file before now = HasWrittenPart before now (IsOutput file)
Answered NoMemory file before now = now ≡ before

-- what was written of the line of a refusal, by how the run ends
abbrev pub WroteLine : Ending → Cause → Option (List ℕ) → Option (List ℕ) → Type 0
WroteLine Done cause before now = ⊥
WroteLine Refused cause before now = Appends before now (cause_line cause)
WroteLine Usage cause before now = ⊥
WroteLine SourceFailed cause before now = ⊥
WroteLine SinkFailed cause before now = WrotePart before now (cause_line cause)
WroteLine NoMemory cause before now = now ≡ before
