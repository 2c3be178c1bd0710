-- What was written of some bytes.
use Rattle.std.specs.Prelude.{ℕ, ◌<◌, List, length, take, Option}
use Rattle.std.specs.Io.KnownBytes.{Appends}
use Rattle.omos_outside.specs.declared.writing.Sent.{Sent}
use Rattle.omos_outside.specs.declared.writing.Sent.TheVariants.{All, Failed}

-- the sink took some of the bytes from their front, and not all
abbrev pub WrotePart : Option (List ℕ) → Option (List ℕ) → List ℕ → Type 0
WrotePart before now bytes =
    (count : ℕ) × (count < length bytes) × Appends before now (take count bytes)

-- all of the bytes were written, or a part where the sink failed
abbrev pub Wrote : Sent → Option (List ℕ) → Option (List ℕ) → List ℕ → Type 0
Wrote All before now bytes = Appends before now bytes
Wrote Failed before now bytes = WrotePart before now bytes
