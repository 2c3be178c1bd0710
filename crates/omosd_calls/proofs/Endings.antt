-- The ending that a status stands for.
use Rattle.std.proofs.Common.{◌≡◌, ℕ, List, Option, refl, subst, arith}
use Rattle.omosd_calls.specs.declared.ending.Ending.{Ending}
use Rattle.omosd_calls.specs.declared.ending.Ending.TheVariants.{Done, Refused, Usage, SourceFailed}
use Rattle.omosd_calls.specs.declared.ending.Ending.TheVariants.{SinkFailed, NoMemory}
use Rattle.omosd_calls.specs.inside.Ending.{status_of}
use Rattle.omosd_calls.specs.Once.{Answered}

same_ending : (e d : Ending) → status_of e ≡ status_of d → e ≡ d
same_ending Done Done h = refl
same_ending Refused Refused h = refl
same_ending Usage Usage h = refl
same_ending SourceFailed SourceFailed h = refl
same_ending SinkFailed SinkFailed h = refl
same_ending NoMemory NoMemory h = refl
same_ending _ _ h = absurd (omega arith)

-- what is known of the ending with the status
pub answered_as : (d e : Ending) (file : List ℕ) (before now : Option (List ℕ))
    → status_of e ≡ status_of d → Answered e file before now → Answered d file before now
answered_as d e file before now same answer =
    subst (λ (x : Ending). Answered x file before now) (same_ending e d same) answer
