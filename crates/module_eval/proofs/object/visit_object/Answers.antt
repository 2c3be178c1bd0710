use Rattle.std.proofs.Common.{◌≡◌, ◌∙◌, ℕ, Ok, refl, sym, subst}
use Rattle.omos_model.specs.Expansion.{site_of}
use Rattle.module_share.specs.Trails.{leaf_on}
use Rattle.omos_model.specs.FragmentParts.{FragmentParts}
use Rattle.omos_model.specs.Term.{Leaf}
use Rattle.omos_model.specs.Visit.{Visit}
use Rattle.omos_model.specs.declared.entry.Entry.TheVariants.{Object}
use Rattle.omos_model.specs.declared.refusal.Site.{Site}
use Rattle.module_eval.specs.inside.Counted.{visit_of}
use Rattle.module_eval.proofs.object.visit_object.Goals as goal

-- the leaf that was counted is that of the object's fragment
leaf_there : (g f : FragmentParts) (s : Site) (number : ℕ) (v w : Visit) → Object g ≡ Object f
    → leaf_on g s v ≡ Ok (Leaf s number g, w) → leaf_on f s v ≡ Ok (Leaf s number f, w)
leaf_there g f s number v w same h =
    let fragment : g ≡ f = cc in
    subst (λ (k : FragmentParts). leaf_on k s v ≡ Ok (Leaf s number k, w)) fragment h

pub returns-clause-walk : goal.returns-clause-walk
returns-clause-walk c f is =
    let s = site_of c.args.at.now c.in_ok-node.node in
    let number = c.in_ok-number.number in
    let counted =
    leaf_there c.in-Object.fragment f s number (visit_of c.enter.new.counts)
    (visit_of c.count_leaf.new.counts) (sym c.in-Object.is ∙ c.get.ensures ∙ is)
    c.in_ok-number.ensures.walk in (
      Leaf s number f,
      rw (c.in_ok-node.ensures.walk, counted) refl,
      rw c.of.ensures ((s, f, c.in_ok-twin.ensures ∙ is, refl), refl),
    )

pub returns-then-counting-clause-walk : goal.returns-then-counting-clause-walk
returns-then-counting-clause-walk c f is =
    let s = site_of c.args.at.now c.in_ok-node.node in
    let number = c.in_ok-number.number in
    let counted =
    leaf_there c.in-Object.fragment f s number (visit_of c.enter.new.counts)
    (visit_of c.count_leaf.new.counts) (sym c.in-Object.is ∙ c.get.ensures ∙ is)
    c.in_ok-number.ensures.walk in
    (Leaf s number f, rw (c.in_ok-node.ensures.walk, counted) refl, search)
