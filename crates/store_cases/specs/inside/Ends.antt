-- How a link request ends that has no image.
use Rattle.std.specs.Prelude.{◌≡◌}
use Rattle.omos_base.specs.declared.fault.Fault.{Fault}
use Rattle.omos_base.specs.declared.fault.Fault.TheVariants.{Refused, NoMemory}
use Rattle.omos_model.specs.declared.refusal.Refusal.{Refusal}
use Rattle.hub_store.specs.declared.reply.Outcome.{Outcome}
use Rattle.hub_store.specs.declared.reply.Outcome.TheVariants as outcome

-- by its refusal, or for want of memory
abbrev pub IsOutcomeOf : Fault Refusal → Outcome → Type 0
IsOutcomeOf (Refused x) (outcome.Refused y) = y ≡ x
IsOutcomeOf fault outcome.NoMemory = Unit {0}
IsOutcomeOf fault o = ⊥
