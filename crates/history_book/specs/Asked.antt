-- What a link request asks for: the plan, the footprint and the answer of its path on its version.
use Rattle.std.specs.Prelude.{ℕ, List, Option, Result}
use Rattle.omos_model.specs.Footprint.{footprint}
use Rattle.omos_model.specs.declared.entry.Stamped.{Stamped}
use Rattle.omos_model.specs.declared.refusal.Refusal.{Refusal}
use Rattle.link_model.specs.Answer.{answer}
use Rattle.link_model.specs.Plan.{Plan, plan_of}
use Rattle.history_book.specs.Steps.{Ask}
use Rattle.history_book.specs.Told.{namespace_in}
use Rattle.history_book.specs.declared.step.Step.{Step}

-- the plan, or why there is none
abbrev pub plan_for : List Step → Ask → Result Plan Refusal
plan_for P a = plan_of (namespace_in P a.version) a.path

-- the paths that are read, where there is a term
abbrev pub footprint_for : List Step → Ask → Option (List Stamped)
footprint_for P a = footprint (namespace_in P a.version) a.path

-- the image at a base, or why there is none
abbrev pub answer_for : List Step → Ask → ℕ → Result (List ℕ) Refusal
answer_for P a base = answer (namespace_in P a.version) a.path base
