use Rattle.std.proofs.Common.{arith, ap, length}
use Rattle.workload.proofs.Sizes.{parts_small}
use Rattle.workload.proofs.plain.plain_object.Goals as goal

pub symbols_of-requires : goal.symbols_of-requires
symbols_of-requires c =
    let s = parts_small _ _ _ _ c.requires.small in
    record { small = s.strings_small }

pub plan_for-plan-requires-clause-code_small : goal.plan_for-plan-requires-clause-code_small
plan_for-plan-requires-clause-code_small c =
    let s = parts_small _ _ _ _ c.requires.small in
    omega (arith, s.code_small)

pub plan_for-plan-requires-clause-relas_small : goal.plan_for-plan-requires-clause-relas_small
plan_for-plan-requires-clause-relas_small c =
    let s = parts_small _ _ _ _ c.requires.small in
    omega (arith, s.relas_small, c.len.ensures, ap length c.in_ok-relas.ensures)

pub plan_for-plan-requires-clause-symbols_small : goal.plan_for-plan-requires-clause-symbols_small
plan_for-plan-requires-clause-symbols_small c =
    let s = parts_small _ _ _ _ c.requires.small in
    omega (arith, s.symbols_small, c.len-2.ensures, ap length c.in_ok-symbols.ensures.table)

pub plan_for-plan-requires-clause-strings_small : goal.plan_for-plan-requires-clause-strings_small
plan_for-plan-requires-clause-strings_small c =
    let s = parts_small _ _ _ _ c.requires.small in
    omega (arith, s.strings_small, c.len-3.ensures, ap length c.in_ok-symbols.ensures.strings)
