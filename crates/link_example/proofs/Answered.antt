-- The answer on a version that three publishes made.
use Rattle.std.proofs.Common.{◌≡◌, List, ℕ, Result, sym, ap, ◌∙◌}
use Rattle.omos_model.specs.Names.{Name}
use Rattle.omos_model.specs.Namespace.{Space}
use Rattle.omos_model.specs.declared.entry.Entry.{Entry}
use Rattle.omos_model.specs.declared.refusal.Refusal.{Refusal}
use Rattle.link_model.specs.Answer.{answer}
use Rattle.link_example.specs.Entries.{IsBlueprint, namespace_of}
use Rattle.link_example.specs.Entries.{IsObjectOf}
use Rattle.link_example.specs.Links.{IsLinkAnswer}
use Rattle.link_example.specs.declared.published.Published.{Published}

-- the paths are copied
pub answered : (a b c : Published) (x y z : Entry) (p q r : Name) (ns : Space)
    (result : Result (List ℕ) Refusal) → IsObjectOf a.content.now x → IsObjectOf b.content.now y
    → IsBlueprint c.content.now z → p ≡ a.path.now → q ≡ b.path.now → r ≡ c.path.now
    → ns ≡ namespace_of (p, x) (q, y) (r, z) → answer ns c.path.now 4194304 ≡ result
    → IsLinkAnswer a b c result
answered a b c x y z p q r ns result first second third pa qb rc made is = record {
  first = x;
  second = y;
  blueprint = z;
  is_first = first;
  is_second = second;
  is_blueprint = third;
  answered =
      sym (ap (λ s. answer s c.path.now 4194304)
      (made ∙ (λ i. namespace_of (pa i, x) (qb i, y) (rc i, z))))
      ∙ is;
}
