use Rattle.std.proofs.Common.{rules, arith, ◌≤◌}
use Rattle.workload.proofs.Symbols.{names_fit}
use Rattle.workload.proofs.tables.symbols_of.Goals as goal

pub overflow_cast-place : goal.overflow_cast-place
overflow_cast-place c =
    let fit = names_fit _ _ _ _ c.symbols.invariant in
    let small : c.len-place.result ≤ 1048576 =
    omega (arith, c.len-place.ensures, c.requires.small, fit) in
    search rules
