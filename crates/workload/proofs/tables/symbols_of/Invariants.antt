use Rattle.workload.proofs.Symbols.{Stand}
use Rattle.workload.proofs.tables.symbols_of.Given as goal

abbrev pub invariant-symbols : goal.invariant-symbols
invariant-symbols l = Stand l.symbols l.symbol-index l.table l.strings
