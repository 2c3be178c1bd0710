-- What an evaluated module has of its term.
use Rattle.std.proofs.Common.{◌≡◌, ◌+◌, List, [], ◌∷◌, Option, Some, None, Result}
use Rattle.std.proofs.Common.{refl, sym, ap, ◌∙◌, cond, length, map, arith}
use Rattle.std.specs.List.{zip, sum_by}
use Rattle.std.specs.Option.{option_map, option_or}
use Rattle.std.specs.Prelude.{is_some}
use Rattle.std.proofs.lemmas.List.{length-map}
use Rattle.std.proofs.lemmas.List.Sums.{sum_by-cons}
use Rattle.omos_model.specs.Names.{Name}
use Rattle.omos_model.specs.Term.{Term}
use Rattle.omos_model.specs.Definition.{Meaning, definition}
use Rattle.omos_model.specs.State.{states, landed}
use Rattle.omos_model.specs.FirstRefusal.{first_refusal}
use Rattle.omos_model.specs.Namespace.{look_up}
use Rattle.omos_model.specs.declared.entry.Entry.{Entry}
use Rattle.omos_model.specs.declared.entry.Stamped.{Stamped}
use Rattle.omos_model.specs.declared.entry.Start.{Start}
use Rattle.omos_model.specs.declared.entry.Start.TheVariants.{Named, NoEntry}
use Rattle.omos_model.specs.declared.mark.Landing.{Landing}
use Rattle.omos_model.specs.declared.mark.MarkRow.{MarkRow}
use Rattle.omos_model.specs.declared.mark.Target.{Target}
use Rattle.omos_model.specs.declared.refusal.Refusal.{Refusal}
use Rattle.omos_model.specs.declared.refusal.Refusal.TheVariants.{NoStart}
use Rattle.omos_model.proofs.Counts.{counts_law}
use Rattle.link_model.specs.Laws.{BoundsLaw, OwnPlanLaw}
use Rattle.link_model.specs.Layout.{pages_in_all, places_of, slots_of}
use Rattle.link_model.specs.Module.{part_with, parts_of_module, found, terms_of_module}
use Rattle.link_model.specs.Plan.{Plan, plan_of_expansion, plan_of_parts, plan_of_term, terms_at}
use Rattle.link_model.specs.Plan.{entry_of, no_start, too_large, unless_refused, unresolved}
use Rattle.link_model.specs.Program.{Parts, Terms, landings_of, part_of, parts_of_term, terms_of}

-- ---- bounds

lengths : (t : Term) (rows : List MarkRow)
    → sum_by length (map (landings_of t) rows) ≡ sum_by (λ r. length r.marks) rows
lengths t [] = refl
lengths t (r ∷ rows) =
    sum_by-cons (λ (ls : List Landing). length ls) (landings_of t r) (map (landings_of t) rows)
    ∙ ap (λ n. length (landings_of t r) + n) (lengths t rows)
    ∙ ap (λ n. n + sum_by (λ (x : MarkRow). length x.marks) rows)
    (length-map r.marks (landed (definition t)))
    ∙ sym (sum_by-cons (λ (x : MarkRow). length x.marks) r rows)

pub bounds_law : BoundsLaw
bounds_law m h =
    let t = h.0 in
    let e = h.2 in
    let counts = counts_law m.footprint m.path t h.1 e.expanded in
    let few = ap length e.leaves ∙ length-map (states t) (λ (r : MarkRow). r.entry) in
    let all = ap (sum_by length) e.landings ∙ lengths t (states t) in
    record {
      leaves = omega (arith, few, counts.0);
      references = omega (arith, all, counts.1);
    }

-- ---- the plan

parts-same : (t : Term) (rows : List MarkRow)
    → map (part_of t) rows
    ≡ map part_with (zip (map (λ r. r.entry) rows) (map (landings_of t) rows))
parts-same t [] = refl
parts-same t (r ∷ rows) = ap (λ (ps : Parts). part_of t r ∷ ps) (parts-same t rows)

start-same : (u w : Meaning) → ((n : Name) → u n ≡ w n) → (s : Start)
    → (no_start u s ≡ no_start w s) × (entry_of u s ≡ entry_of w s)
start-same u w h (Named n) =
    (ap (λ (o : Option Target). cond (is_some o) None (Some (NoStart n))) (h n), h n)
start-same u w h NoEntry = (refl, refl)

-- a plan depends on what each name means, and no more
plan-same : (parts : Parts) (u w : Meaning) → ((n : Name) → u n ≡ w n) → (terms : Terms)
    → plan_of_parts parts u terms ≡ plan_of_parts parts w terms
plan-same parts u w h terms =
    let plan : Option Refusal → Option Target → Result Plan Refusal =
    λ refusal entry.
    unless_refused (option_or (too_large parts) (option_or refusal (unresolved parts)))
    (record {
      parts = parts;
      entry = entry;
      lo = terms.lo;
      hi = terms.hi;
      pages = pages_in_all parts;
      places = places_of parts;
      slots = slots_of parts;
    }) in
    let same = start-same u w h terms.start in
    ap (λ r. plan r (entry_of u terms.start)) same.0 ∙ ap (plan (no_start w terms.start)) same.1

pub own_plan_law : OwnPlanLaw
own_plan_law m h =
    let t = h.0 in
    let e = h.2 in
    let terms = terms_of_module m in
    let parts : parts_of_term t ≡ parts_of_module m =
    parts-same t (states t)
    ∙ ap (λ (es : List Entry). map part_with (zip es (map (landings_of t) (states t))))
    (sym e.leaves)
    ∙ ap (λ (ls : List (List Landing)). map part_with (zip m.leaves ls)) (sym e.landings) in
    ap (λ x. plan_of_expansion x
    (terms_at (option_map (λ (s : Stamped). terms_of s.entry) (look_up m.footprint m.path))))
    e.expanded
    ∙ ap (λ x. plan_of_term (first_refusal t) t (terms_at x)) e.terms
    ∙ ap (λ x. plan_of_term x t terms) e.unrefused
    ∙ ap (λ x. plan_of_parts x (definition t) terms) parts
    ∙ plan-same (parts_of_module m) (definition t) (found m.names) (λ n. sym (e.names n)) terms
