-- How much a store may hold.
use Rattle.std.specs.Prelude.{ℕ, ◌≤◌}

-- the items that a cache may hold, and the steps that a record may hold
pub record Counts : Type 0 where
  pub cache : ℕ
  pub steps : ℕ

-- a cache holds 1 to 64 items, and a record 16 to 65,536 steps
abbrev pub AreLimits : ℕ → ℕ → Type 0
AreLimits cache steps = (1 ≤ cache) × (cache ≤ 64) × (16 ≤ steps) × (steps ≤ 65536)
