-- The plan of a module, from the refusals that it could have.
use Rattle.std.proofs.Common.{◌≡◌, ℕ, ◌≤◌, cond, length, map, Option, Some, None, Result, Ok, Err}
use Rattle.std.proofs.Common.{max, refl, sym, ap, ◌∙◌, arith}
use Rattle.std.specs.Prelude.{nat_lt}
use Rattle.std.specs.List.{zip}
use Rattle.std.specs.Option.{option_or}
use Rattle.std.proofs.lemmas.Bool.{le-ltb}
use Rattle.std.proofs.lemmas.List.{length-map}
use Rattle.omos_base.specs.declared.fault.Fault.{Fault}
use Rattle.omos_base.specs.declared.fault.Fault.TheVariants.{Refused, NoMemory}
use Rattle.omos_model.specs.Definition.{Meaning}
use Rattle.omos_model.specs.State.{states}
use Rattle.omos_model.specs.declared.entry.Start.{Start}
use Rattle.omos_model.specs.declared.entry.Start.TheVariants.{Named, NoEntry}
use Rattle.omos_model.specs.declared.mark.MarkRow.{MarkRow}
use Rattle.omos_model.specs.declared.mark.Target.{Target}
use Rattle.omos_model.specs.declared.refusal.Refusal.{Refusal}
use Rattle.omos_model.specs.declared.refusal.Refusal.TheVariants.{ImageTooLarge}
use Rattle.link_model.specs.Groups.{groups_of}
use Rattle.link_model.specs.Layout.{all_pages, pages_in_all, places_of, slots_of}
use Rattle.link_model.specs.Module.{IsModule, Module, Placing, found, part_with, parts_of_module}
use Rattle.link_model.specs.Module.{placing_of, plan_of_module, terms_with}
use Rattle.link_model.specs.Plan.{Plan, entry_of, no_start, plan_of_parts, planned, too_large}
use Rattle.link_model.specs.Plan.{unless_refused, unresolved}
use Rattle.link_model.specs.Program.{Parts, landings_of}
use Rattle.link_layout.specs.declared.program.Program.{Program}
use Rattle.link_layout.specs.IsLaid.{IsLaid}
use Rattle.link_layout.specs.inside.References.{RefusesFor}
use Rattle.link_layout.specs.Program.{IsProgramOf, Lays, program_meaning, parts_in, plan_in}

-- a module has a row of landings for each leaf
pub as_many : (m : Module) → IsModule m → length m.landings ≡ length m.leaves
as_many m h =
    ap length h.2.landings ∙ length-map (states h.0) (landings_of h.0)
    ∙ sym (ap length h.2.leaves ∙ length-map (states h.0) (λ (r : MarkRow). r.entry))

-- ---- L9

pub is_small : (parts : Parts) (pages : ℕ)
    → pages ≡ all_pages parts → pages ≤ 2047 → too_large parts ≡ None
is_small parts pages is few =
    ap (λ n. cond (nat_lt 2047 n) (Some (ImageTooLarge n)) None) (sym is)
    ∙ ap (λ b. cond b (Some (ImageTooLarge pages)) None) (le-ltb 2047 pages few)

pub at_least_one : (n k : ℕ) → n ≡ k → max n 1 ≡ max 1 k
at_least_one n k e = omega arith

-- ---- the whole

abbrev first_of : Option Refusal → Option Refusal → Option Refusal → Option Refusal
first_of large start open_one = option_or large (option_or start open_one)

abbrev plan_unless : Program → ℕ → ℕ → Option Refusal → Result Plan Refusal
plan_unless p lo hi refusal =
    unless_refused refusal (planned (parts_in p) (program_meaning p) (terms_with p.start.now lo hi))

pub laid : (p : Program) (l : Placing)
    → too_large (parts_in p) ≡ None → no_start (program_meaning p) p.start.now ≡ None
    → unresolved (parts_in p) ≡ None
    → l.pages ≡ pages_in_all (parts_in p) → l.groups ≡ groups_of (parts_in p)
    → l.places ≡ places_of (parts_in p) → l.slots ≡ slots_of (parts_in p)
    → l.entry ≡ entry_of (program_meaning p) p.start.now
    → (lo hi : ℕ) → (plan : Plan) × (plan_in p lo hi ≡ Ok plan) × (l ≡ placing_of plan)
laid p l small started bound pages groups places slots entry lo hi = (
  planned (parts_in p) (program_meaning p) (terms_with p.start.now lo hi),
  (λ i. plan_unless p lo hi (first_of (small i) (started i) (bound i))),
  (λ i. record {
    pages = pages i;
    groups = groups i;
    places = places i;
    slots = slots i;
    entry = entry i;
  }),
)

-- the start is refused
pub unstarted : (p : Program) (fault : Fault Refusal) → too_large (parts_in p) ≡ None
    → RefusesFor {T = Option Target} (no_start (program_meaning p) p.start.now) (Err fault)
    → Lays (Err fault) p
unstarted p (Refused x) small h =
    λ lo hi. (λ i. plan_unless p lo hi (first_of (small i) (h i) (unresolved (parts_in p))))
unstarted p NoMemory small h = tt

-- ---- a module

-- one name's meaning decides
one_meaning : (parts : Parts) (meaning : Meaning) (start : Start) (entry : Option Target)
    (lo hi : ℕ)
    → entry ≡ entry_of meaning start
    → plan_of_parts parts (λ name. entry) (terms_with start lo hi)
    ≡ plan_of_parts parts meaning (terms_with start lo hi)
one_meaning parts meaning (Named name) entry lo hi e =
    ap (λ o. plan_of_parts parts (λ n. o) (terms_with (Named name) lo hi)) e
one_meaning parts meaning NoEntry entry lo hi e = refl

plan-same : (m : Module) (p : Program) → IsProgramOf m p → plan_in p m.lo m.hi ≡ plan_of_module m
plan-same m p h =
    (λ i. plan_of_parts (map part_with (zip (h.leaves i) (h.landings i))) (λ name. p.entry)
    (terms_with (h.start i) m.lo m.hi))
    ∙ one_meaning (parts_of_module m) (found m.names) m.start p.entry m.lo m.hi h.entry

pub laid-module : (m : Module) (p : Program) (result : Result Placing (Fault Refusal))
    → IsProgramOf m p → Lays result p → IsLaid result m
laid-module m p (Ok l) h laid =
    let plan = laid m.lo m.hi in (plan.0, sym (plan-same m p h) ∙ plan.1, plan.2)
laid-module m p (Err (Refused x)) h laid = sym (plan-same m p h) ∙ laid m.lo m.hi
laid-module m p (Err NoMemory) h laid = tt
