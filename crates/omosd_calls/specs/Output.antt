-- What a run writes.
use Rattle.std.specs.Prelude.{ℕ, List, Option, None, Some}
use Rattle.std.specs.Io.KnownBytes.{Appends}
use Rattle.omos_outside.specs.Sent.{WrotePart}

-- an output for which this holds was written
abbrev pub HasWritten : Option (List ℕ) → Option (List ℕ) → (List ℕ → Type 0) → Type 0
HasWritten before now P = (output : List ℕ) × P output × Appends before now output

-- of an output for which this holds a part was written, and not all
abbrev pub HasWrittenPart : Option (List ℕ) → Option (List ℕ) → (List ℕ → Type 0) → Type 0
HasWrittenPart before now P = (output : List ℕ) × P output × WrotePart before now output

-- the sink tells what it holds, and this was all that was written
abbrev pub ToldOutput : Option (List ℕ) → Option (List ℕ) → List ℕ → Type 0
ToldOutput None now output = ⊥
ToldOutput (Some before) now output = Appends (Some before) now output
