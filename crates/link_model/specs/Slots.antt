-- A slot of the global offset table, as the key of a table.
use Rattle.std.specs.Prelude.{◌++◌}
use Rattle.std.specs.Hash as fed
use Rattle.omos_model.specs.declared.mark.Target.{Target}
use Rattle.omos_model.specs.declared.mark.Target.TheVariants.{Inside, Fixed}

-- what is hashed of a target
abbrev pub target_writes : Target → fed.HashWrites
target_writes (Inside leaf piece offset) = fed.u32 leaf ++ fed.u32 piece ++ fed.u32 offset
target_writes (Fixed value) = fed.u64 value
