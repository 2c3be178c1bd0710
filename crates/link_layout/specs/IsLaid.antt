-- What the layout of a module is.
use Rattle.std.specs.Prelude.{◌≡◌, Result, Ok, Err}
use Rattle.omos_base.specs.Fault.{MatchFault}
use Rattle.omos_base.specs.declared.fault.Fault.{Fault}
use Rattle.omos_model.specs.declared.refusal.Refusal.{Refusal}
use Rattle.link_model.specs.Module.{Module, Placing, placing_of, plan_of_module}
use Rattle.link_model.specs.Plan.{Plan}

-- the layout is that of the module's plan; or the module has none, for this reason
abbrev pub IsLaid : Result Placing (Fault Refusal) → Module → Type 0
IsLaid result m =
    MatchFault result (λ l. (plan : Plan) × (plan_of_module m ≡ Ok plan) × (l ≡ placing_of plan))
    (λ x. plan_of_module m ≡ Err x)
