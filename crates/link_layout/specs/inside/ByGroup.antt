-- Bounds on numbers of bytes by group.
use Rattle.std.specs.Prelude.{ℕ, ◌≤◌}
use Rattle.link_model.specs.declared.groups.ByGroup.{ByGroup}

-- none of the numbers is above this one
pub record AreAtMost (most : ℕ) (x : ByGroup) : Type 0 where
  pub code : x.code ≤ most
  pub consts : x.consts ≤ most
  pub vars : x.vars ≤ most
  pub zeros : x.zeros ≤ most
