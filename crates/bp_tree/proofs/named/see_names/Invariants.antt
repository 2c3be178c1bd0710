use Rattle.std.proofs.Common.{take, All}
use Rattle.omos_base.specs.SymNames.{IsSymName}
use Rattle.bp_tree.proofs.named.see_names.Given as goal

abbrev pub invariant-names : goal.invariant-names
invariant-names l = All IsSymName (take l.name-index l.names)
