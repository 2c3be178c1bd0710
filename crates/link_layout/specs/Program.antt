-- What is laid out, and what its layout is.
use Rattle.std.specs.Prelude.{◌≡◌, ℕ, ◌≤◌, length, map, Result, Ok, Err}
use Rattle.std.specs.List.{sum_by, zip}
use Rattle.omos_base.specs.Fault.{MatchFault}
use Rattle.omos_base.specs.declared.fault.Fault.{Fault}
use Rattle.omos_model.specs.Expansion.{max_leaves, max_sum}
use Rattle.omos_model.specs.Definition.{Meaning}
use Rattle.omos_model.specs.declared.refusal.Refusal.{Refusal}
use Rattle.link_model.specs.Module.{Module, Placing, found, part_with, placing_of, terms_with}
use Rattle.link_model.specs.Plan.{Plan, entry_of, plan_of_parts}
use Rattle.link_model.specs.Program.{Parts}
use Rattle.link_layout.specs.declared.program.Program.{Program}

-- its objects, with what their references land on
abbrev pub parts_in : Program → Parts
parts_in p = map part_with (zip p.leaves.now p.landings.now)

-- a row of landings for each leaf, and no more of both than a module has
pub record IsFew (p : Program) : Type 0 where
  pub count : length p.landings.now ≡ length p.leaves.now
  pub leaves : length p.leaves.now ≤ max_leaves
  pub references : sum_by length p.landings.now ≤ max_sum

-- what the start's name is defined as
abbrev pub program_meaning : Program → Meaning
program_meaning p name = p.entry

-- its plan, where it may stand in this range
abbrev pub plan_in : Program → ℕ → ℕ → Result Plan Refusal
plan_in p lo hi = plan_of_parts (parts_in p) (program_meaning p) (terms_with p.start.now lo hi)

-- the layout is that of the program's plan, whatever the range; or it has none, for this reason
abbrev pub Lays : Result Placing (Fault Refusal) → Program → Type 0
Lays result p =
    MatchFault result
    (λ l. (lo hi : ℕ) → (plan : Plan) × (plan_in p lo hi ≡ Ok plan) × (l ≡ placing_of plan))
    (λ x. (lo hi : ℕ) → plan_in p lo hi ≡ Err x)

-- the program is the module's
pub record IsProgramOf (m : Module) (p : Program) : Type 0 where
  pub few : IsFew p
  pub leaves : p.leaves.now ≡ m.leaves
  pub landings : p.landings.now ≡ m.landings
  pub start : p.start.now ≡ m.start
  pub entry : p.entry ≡ entry_of (found m.names) m.start
