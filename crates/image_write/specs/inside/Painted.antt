-- What a call writes over some of a list's bytes.
use Rattle.std.specs.Prelude.{◌≡◌, ℕ, ◌-◌, ◌<◌, List, length, Option, Some, None, slice_index}
use Rattle.std.specs.Prelude.{unwrap_or, if◌then◌else◌}
use Rattle.link_model.specs.ImageBytes.{covers}

-- the bytes after the call: at each place what the call writes there, else the byte from before
pub record Painted (new : List ℕ) (writes : ℕ → Option ℕ) (old : List ℕ) : Type 0 where
  pub size : length new ≡ length old
  pub each : (x : ℕ) → x < length old → slice_index new x ≡ unwrap_or (writes x) (slice_index old x)

-- these bytes, from a place on
abbrev pub run_at : ℕ → List ℕ → ℕ → Option ℕ
run_at at bytes x = if covers at (length bytes) x then Some (slice_index bytes (x - at)) else None
