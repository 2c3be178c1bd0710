-- From a walk to what expansion gives, and what it has read.
use Rattle.std.proofs.Common.{◌∙◌, ℕ, ◌+◌, ◌≤◌, Bool, false, Result, Ok, Err, refl, sym, ap, subst}
use Rattle.std.specs.Prelude.{OnOk}
use Rattle.omos_base.specs.declared.fault.Fault.{Fault}
use Rattle.omos_base.specs.declared.fault.Fault.TheVariants.{Refused, NoMemory}
use Rattle.omos_model.specs.Expansion.{expansion}
use Rattle.omos_model.specs.Names.{Name}
use Rattle.omos_model.specs.Namespace.{Space}
use Rattle.omos_model.specs.Term.{Term}
use Rattle.omos_model.specs.declared.refusal.Refusal.{Refusal}
use Rattle.module_share.specs.Trails.{Trail, front, trail, visited}
use Rattle.module_share.proofs.Fronts.{front_law}
use Rattle.module_eval.specs.Costs.{IsPaid, operators_of, read_of}
use Rattle.module_eval.specs.inside.Walked.{Expands, IsLimit, Walked}
use Rattle.module_eval.specs.inside.Walks.{ComesBack}
use Rattle.module_eval.specs.declared.counts.Counts.{Counts}
use Rattle.module_eval.specs.declared.walk.Walk.{Walk}
use Rattle.module_eval.specs.declared.part.Part.{Part}

pub expanded_so : (ns : Space) (path : Name) (result : Result Part (Fault Refusal)) (new : Counts)
    → Walked false result (trail ns path) new → Expands result (expansion ns path) new
expanded_so ns path (Ok part) new h = (h.0, sym (front_law ns path) ∙ ap front h.1, h.2)
expanded_so ns path (Err (Refused x)) new h = sym (front_law ns path) ∙ ap front h
expanded_so ns path (Err NoMemory) new h = tt

pub paid : (ns : Space) (path : Name) (result : Result Part (Fault Refusal)) (new : Counts)
    (old_steps new_steps : ℕ) → Walked false result (trail ns path) new
    → new_steps ≤ old_steps + read_of ns new.read.entries
    → IsPaid result old_steps new_steps ns path
paid ns path (Ok part) new old_steps new_steps h few =
    subst (λ (w : Trail Term). new_steps ≤ old_steps + operators_of ns (visited w).read) (sym h.1)
    few
paid ns path (Err (Refused x)) new old_steps new_steps h few =
    subst (λ (w : Trail Term). new_steps ≤ old_steps + operators_of ns (visited w).read) (sym h) few
paid ns path (Err NoMemory) new old_steps new_steps h few = tt

-- the limit of all
pub limit_of : (ns : Space) (counted : Bool) (old new : Walk) (result : Result Part (Fault Refusal))
    → OnOk result (ComesBack ns counted old new) → IsLimit result new.memo.deepest 32
limit_of ns counted old new (Ok part) h = h.deepens.low
limit_of ns counted old new (Err fault) h = refl
