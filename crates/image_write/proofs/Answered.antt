-- What is laid out and then written is the answer for the module's path.
use Rattle.std.proofs.Common.{◌≡◌, ℕ, ◌≤◌, List, Result, Ok, Err, ap, ◌∙◌, arith}
use Rattle.omos_base.specs.declared.fault.Fault.{Fault}
use Rattle.omos_base.specs.declared.fault.Fault.TheVariants.{Refused, NoMemory}
use Rattle.omos_model.specs.declared.refusal.Refusal.{Refusal}
use Rattle.link_model.specs.Answer.{answer, answer_of_plan}
use Rattle.link_model.specs.ImageBytes.{image_bytes}
use Rattle.link_model.specs.Layout.{pages_in_all}
use Rattle.link_model.specs.Module.{Module, Placing, parts_of_module, plan_of_module}
use Rattle.link_model.specs.Plan.{Plan, max_pages, plan_of}
use Rattle.link_layout.specs.IsLaid as layout
use Rattle.image_write.specs.Written.{IsLayoutOf, IsImageAnswer, Writes}
use Rattle.image_write.proofs.Soundness.{is-planned}

pub pages-few : (m : Module) (l : Placing) → IsLayoutOf m l → l.pages ≤ max_pages
pages-few m l laid =
    let p = is-planned m l laid in
    let pages : l.pages ≡ pages_in_all (parts_of_module m) =
    ap (λ (y : Placing). y.pages) p.placing in
    omega (arith, pages, p.pages)

planned : (m : Module) (base : ℕ) (plan : Plan) → plan_of m.footprint m.path ≡ plan_of_module m
    → plan_of_module m ≡ Ok plan → answer m.footprint m.path base ≡ image_bytes plan base
planned m base plan law e = ap (λ p. answer_of_plan p base) (law ∙ e)

pub written-answers : (m : Module) (base : ℕ) (result : Result (List ℕ) (Fault Refusal))
    → plan_of m.footprint m.path ≡ plan_of_module m → Writes m base result
    → IsImageAnswer m base result
written-answers m base (Ok image) law h = planned m base h.0 law h.1 ∙ h.2
written-answers m base (Err (Refused x)) law h = planned m base h.0 law h.1 ∙ h.2
written-answers m base (Err NoMemory) law h = tt

pub unlaid-answers : (m : Module) (base : ℕ) (fault : Fault Refusal)
    → plan_of m.footprint m.path ≡ plan_of_module m → layout.IsLaid (Err fault) m
    → IsImageAnswer m base (Err fault)
unlaid-answers m base (Refused x) law h = ap (λ p. answer_of_plan p base) (law ∙ h)
unlaid-answers m base NoMemory law h = tt
