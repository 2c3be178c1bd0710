use Rattle.std.proofs.Common.{take}
use Rattle.std.specs.Prelude.{All}
use Rattle.omos_base.specs.SymNames.{IsNameByte}
use Rattle.omos_base.proofs.sym_name.first_barred.Given as goal

abbrev pub invariant-loop-place : goal.invariant-loop-place
invariant-loop-place l = All IsNameByte (take l.place l.bytes)
