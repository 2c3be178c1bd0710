-- The image of a module at a base.
use Rattle.std.specs.Prelude.{◌≡◌, ℕ, List, Ok, Err, Result}
use Rattle.omos_base.specs.Fault.{MatchFault}
use Rattle.omos_base.specs.declared.fault.Fault.{Fault}
use Rattle.omos_model.specs.declared.refusal.Refusal.{Refusal}
use Rattle.link_model.specs.Answer.{answer}
use Rattle.link_model.specs.ImageBytes.{image_bytes}
use Rattle.link_model.specs.Module.{Module, Placing, placing_of, plan_of_module}
use Rattle.link_model.specs.Plan.{Plan}

-- the image of the module's plan at the base, or its refusal
abbrev pub IsPlansImage : Module → ℕ → Result (List ℕ) Refusal → Type 0
IsPlansImage m base image =
    (plan : Plan) × (plan_of_module m ≡ Ok plan) × (image_bytes plan base ≡ image)

-- the call answers the image, or refuses for the image's reason
abbrev pub Writes : Module → ℕ → Result (List ℕ) (Fault Refusal) → Type 0
Writes m base result =
    MatchFault result (λ bytes. IsPlansImage m base (Ok bytes)) (λ x. IsPlansImage m base (Err x))

-- the call answers for the module's path on the namespace that its footprint lists
abbrev pub IsImageAnswer : Module → ℕ → Result (List ℕ) (Fault Refusal) → Type 0
IsImageAnswer m base result =
    MatchFault result (λ bytes. answer m.footprint m.path base ≡ Ok bytes)
    (λ x. answer m.footprint m.path base ≡ Err x)

-- the layout is that of the module's plan
abbrev pub IsLayoutOf : Module → Placing → Type 0
IsLayoutOf m l = (plan : Plan) × (plan_of_module m ≡ Ok plan) × (l ≡ placing_of plan)
