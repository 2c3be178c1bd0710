-- The walk into a blueprint that may be opened.
use Rattle.std.proofs.Common.{◌≡◌, ◌++◌, ◌∷◌, ◌<◌, ◌≤◌, ℕ, Bool, List, [], Ok, Err, length, sym}
use Rattle.std.proofs.Common.{subst, arith}
use Rattle.omos_base.specs.declared.fault.Fault.{Fault}
use Rattle.omos_model.specs.Expansion.{add_read, max_blueprints}
use Rattle.omos_model.specs.Names.{Name}
use Rattle.omos_model.specs.Term.{Term}
use Rattle.omos_model.specs.Tree.{tree_of}
use Rattle.omos_model.specs.declared.refusal.Refusal.{Refusal}
use Rattle.omos_model.specs.declared.refusal.Site.{Site}
use Rattle.module_share.specs.Trails.{begin_path_on, nested_on}
use Rattle.module_eval.specs.inside.Counted.{StepsToNode, visit_of}
use Rattle.module_eval.specs.inside.Kept.{IsRun}
use Rattle.module_eval.specs.inside.Meant.{Means}
use Rattle.module_eval.specs.inside.Walked.{IsFree, Walked, path_in, tree_in}
use Rattle.module_eval.specs.inside.Walks.{IsThere, space_of}
use Rattle.module_eval.specs.declared.counts.Counts.{Counts}
use Rattle.module_eval.specs.declared.part.Part.{Part}
use Rattle.module_eval.specs.declared.walk.BlueprintAt.{BlueprintAt}
use Rattle.module_eval.specs.declared.walk.Place.{Place}
use Rattle.module_eval.specs.declared.walk.Walk.{Walk}
use Rattle.module_eval.proofs.Again.{run_of}
use Rattle.module_eval.proofs.AtPaths.{not_opened, refused_any, walked_inside}

module _ (place : Place) (counted : Bool) (blueprint : BlueprintAt) (walk : Walk)
    (there : IsThere (space_of place) blueprint)
    (free : IsFree walk.above blueprint.path.now) where
  -- its node is refused
  pub refused_before : (f : Fault Refusal) (new : Counts)
      → StepsToNode (Err f) place.at.now
      (begin_path_on counted place.at.now (add_read blueprint.path.now (visit_of walk.counts))) new
      → (limit : ℕ) → limit ≡ max_blueprints
      → Walked place.counting (Err f)
      (path_in (space_of place) limit walk.above counted place.at.now blueprint.path.now
      (visit_of walk.counts)) new
  refused_before f new refused limit lim =
      not_opened (space_of place) limit walk.above counted place.at.now blueprint.path.now
      (visit_of walk.counts) (tree_of blueprint.image.now.body) there.opens free.0
      (subst (λ n. length walk.above < n) (sym lim) free.1) place.counting f new refused

  module _ (opened : List Name) (s : Site) (begun new : Counts)
      (is : opened ≡ walk.above ++ blueprint.path.now ∷ [])
      (begins : begin_path_on counted place.at.now
      (add_read blueprint.path.now (visit_of walk.counts)) ≡ Ok (s, visit_of begun)) where
    -- its expression is refused
    pub refused_inside : (counting : Bool) (f : Fault Refusal)
        → ((limit : ℕ) → limit ≡ max_blueprints
        → Walked counting (Err f) (nested_on (tree_in (space_of place) limit opened
        blueprint.path.now (tree_of blueprint.image.now.body)) (visit_of begun)) new)
        → (limit : ℕ) → limit ≡ max_blueprints
        → Walked place.counting (Err f)
        (path_in (space_of place) limit walk.above counted place.at.now blueprint.path.now
        (visit_of walk.counts)) new
    refused_inside counting f refused limit lim =
        let ns = space_of place in
        let p = blueprint.path.now in
        let x = tree_of blueprint.image.now.body in
        let more = walk.above ++ p ∷ [] in
        walked_inside ns limit walk.above counted place.at.now p (visit_of walk.counts) x
        there.opens free.0 (subst (λ n. length walk.above < n) (sym lim) free.1) place.counting
        (Err f) s begun new begins
        (refused_any counting place.counting f
        (nested_on (tree_in ns limit more p x) (visit_of begun)) new
        (subst (λ ps. Walked counting (Err f) (nested_on (tree_in ns limit ps p x)
        (visit_of begun)) new) is (refused limit lim)))

    -- its expression was gone through, and this part stands for it
    pub gone_through : (counting : Bool) (inner part : Part) (deepest : ℕ)
        → length walk.above < deepest
        → ((limit : ℕ) → deepest ≤ limit
        → Walked counting (Ok inner) (nested_on (tree_in (space_of place) limit opened
        blueprint.path.now (tree_of blueprint.image.now.body)) (visit_of begun)) new)
        → ((t : Term) → Means counting inner t
        → IsRun (space_of place) blueprint.path.now begun.leaves t → Means place.counting part t)
        → (limit : ℕ) → deepest ≤ limit
        → Walked place.counting (Ok part)
        (path_in (space_of place) limit walk.above counted place.at.now blueprint.path.now
        (visit_of walk.counts)) new
    gone_through counting inner part deepest deep gone means limit lim =
        let ns = space_of place in
        let p = blueprint.path.now in
        let x = tree_of blueprint.image.now.body in
        let more = walk.above ++ p ∷ [] in
        let v = visit_of begun in
        let went =
        subst (λ ps. Walked counting (Ok inner) (nested_on (tree_in ns limit ps p x) v) new) is
        (gone limit lim) in
        let run = run_of ns limit more p x v (visit_of new) went.0 there.opens went.1 in
        walked_inside ns limit walk.above counted place.at.now p (visit_of walk.counts) x
        there.opens free.0 (omega (arith, deep, lim)) place.counting (Ok part) s begun new begins
        (went.0, went.1, means went.0 went.2 run)
