-- The answer of uncached evaluation.
use Rattle.std.specs.Prelude.{ℕ, List, Result, Ok, Err}
use Rattle.omos_model.specs.Names.{Name}
use Rattle.omos_model.specs.Namespace.{Space}
use Rattle.omos_model.specs.declared.refusal.Refusal.{Refusal}
use Rattle.link_model.specs.Plan.{Plan, plan_of}
use Rattle.link_model.specs.ImageBytes.{image_bytes}

abbrev pub answer_of_plan : Result Plan Refusal → ℕ → Result (List ℕ) Refusal
answer_of_plan (Ok plan) base = image_bytes plan base
answer_of_plan (Err x) base = Err x

-- what a link of a path at a base gives on a version of the namespace: the image, or the first
-- refusal
abbrev pub answer : Space → Name → ℕ → Result (List ℕ) Refusal
answer ns path base = answer_of_plan (plan_of ns path) base
