-- Runs of bytes.
use Rattle.std.specs.Prelude.{ℕ, List, take, drop}

-- the bytes from a place on, so many
abbrev pub run_of : ℕ → ℕ → List ℕ → List ℕ
run_of at size bytes = take size (drop at bytes)
