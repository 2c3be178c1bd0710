-- The parts of a small object are small.
use Rattle.std.proofs.Common.{ℕ, ◌+◌, ◌≤◌, arith}
use Rattle.workload.specs.Plan.{object_plan}

pub record AreSmall (code relas symbols strings : ℕ) : Type 0 where
  pub code_small : code ≤ 1048576
  pub relas_small : relas ≤ 1048576
  pub symbols_small : symbols ≤ 1048576
  pub strings_small : strings ≤ 1048576

pub parts_small : (code relas symbols strings : ℕ)
    → (object_plan code relas symbols strings).headers + 320 ≤ 1048576
    → AreSmall code relas symbols strings
unfolding object_plan
parts_small code relas symbols strings small = record {
  code_small = omega arith;
  relas_small = omega arith;
  symbols_small = omega arith;
  strings_small = omega arith;
}
