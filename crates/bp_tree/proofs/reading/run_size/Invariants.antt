use Rattle.std.proofs.Common.{take, IsTrue}
use Rattle.std.specs.List.{list_all}
use Rattle.omos_model.specs.Names.{is_name_byte}
use Rattle.bp_tree.proofs.reading.run_size.Given as goal

abbrev pub invariant-loop-size : goal.invariant-loop-size
invariant-loop-size l = IsTrue (list_all is_name_byte (take l.size l.bytes))
