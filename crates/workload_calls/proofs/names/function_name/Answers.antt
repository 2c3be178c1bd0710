use Rattle.std.proofs.Common.{sym, subst, ◌∙◌, arith}
use Rattle.omos_base.specs.SymNames.{IsSymName}
use Rattle.workload_calls.proofs.Naming.{function_named, no_fault}
use Rattle.workload_calls.proofs.names.function_name.Goals as goal

pub unreachable-requires : goal.unreachable-requires
unreachable-requires c =
    let is = c.as_slice.ensures ∙ c.in_ok-bytes.ensures.made in
    let named = subst IsSymName (sym is) (function_named c.args.number (omega arith)) in
    let fault = rw c.in-Err-Refused.field-0-is at c.in-Err-Refused.ensures in
    no_fault c.as_slice.result.now c.in-Err-Refused.field-0-0 named fault
