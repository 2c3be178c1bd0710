use Rattle.std.proofs.Common.{◌≡◌, take}
use Rattle.workload.specs.Tables.{rela_table}
use Rattle.workload.proofs.tables.relas_of.Given as goal

abbrev pub invariant-relas : goal.invariant-relas
invariant-relas l = l.table ≡ rela_table (take l.rela-index l.relas)
