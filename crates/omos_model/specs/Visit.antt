-- How far an expansion has come.
use Rattle.std.specs.Prelude.{ℕ, List}
use Rattle.omos_model.specs.Names.{Name}

pub record Visit : Type 0 where
  -- the number of the next node of the blueprint that is being read
  pub node : ℕ
  -- how many nodes were counted, of all blueprints
  pub nodes : ℕ
  pub leaves : ℕ
  -- of the leaves, in all
  pub exports : ℕ
  pub fixups : ℕ
  -- the distinct paths read, in order of first reading
  pub read : List Name
