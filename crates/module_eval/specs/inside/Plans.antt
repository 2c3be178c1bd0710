-- How often paths are named in all that may be gone through.
use Rattle.std.specs.Prelude.{◌≡◌, ◌≤◌, ℕ, ◌+◌, if◌then◌else◌, true, List, Option, Some, None}
use Rattle.std.specs.Borrow.{Bor}
use Rattle.std.specs.List.{sum_by}
use Rattle.std.specs.Map.{keys_of, lookup}
use Rattle.omos_model.specs.Expansion.{Blueprint, source}
use Rattle.omos_model.specs.Names.{Name, same_name}
use Rattle.omos_model.specs.NameLists.{is_among}
use Rattle.omos_model.specs.Namespace.{Space}
use Rattle.omos_model.specs.Tree.{Tree}
use Rattle.omos_model.specs.declared.entry.Stamped.{Stamped}
use Rattle.omos_model.specs.declared.expr.Expr.{Expr}
use Rattle.module_eval.specs.Costs.{IsRead}
use Rattle.module_eval.specs.inside.Times.{away, occurs_among, occurs_of, occurs_read}
use Rattle.module_eval.specs.declared.memo.Kept.{Kept}
use Rattle.module_eval.specs.declared.plan.Plan.{Plan}
use Rattle.module_eval.specs.declared.plan.Plan.TheVariants.{Unmade, Counted, Unknown}

-- what was counted of a path
abbrev pub uses_counted : Option ℕ → ℕ
uses_counted None = 0
uses_counted (Some n) = n

abbrev pub count_of : List (Name × ℕ) → Name → ℕ
count_of counts p = uses_counted (lookup (same_name p) counts)

-- how often expressions that aren't gone through yet name the path
abbrev pub occurs_waiting : List (List Expr) → Name → ℕ
occurs_waiting waiting p = sum_by (λ xs. occurs_among xs p) waiting

-- a path of which no more than one use was counted is named no more often by the blueprints of
-- the paths counted, but for expressions that wait, and for so many more
pub record AreCounts
    (ns : Space) (more : Name → ℕ) (counts : List (Name × ℕ)) (waiting : List (List Expr))
    : Type 0 where
  pub each : (p : Name) → count_of counts p ≤ 1
      → occurs_of ns (keys_of counts) p ≤ count_of counts p + occurs_waiting waiting p + more p

-- the path is among those counted
abbrev pub IsCounted : List (Name × ℕ) → Name → Type 0
IsCounted counts p = is_among (keys_of counts) p ≡ true

-- so many uses of the path
abbrev pub with_uses : ℕ → Name → Name → ℕ
with_uses n path p = if same_name p path then n else 0

-- each path that was counted still is
abbrev pub StayCounted : List (Name × ℕ) → List (Name × ℕ) → Type 0
StayCounted old new =
    (q : Name) → IsCounted old q → IsCounted new q

-- each blueprint that was read is among the paths counted, and no table is gone whose path was
-- counted twice
pub record Covers
    (ns : Space) (counts : List (Name × ℕ)) (read : List (Name × Bor Stamped))
    (all : List (Name × Kept)) : Type 0 where
  pub each : (p : Name) → count_of counts p ≤ 1
      → occurs_of ns (keys_of counts) p ≤ count_of counts p
  pub reads : (q : Name) (x : Tree) → source ns q ≡ Some (Blueprint x) → IsRead read q
      → IsCounted counts q
  pub few : (p : Name) → 1 ≤ away all p → count_of counts p ≤ 1

-- before anything was counted no table is gone, nor where there was too much to count
abbrev pub IsPlanned : Space → Plan → List (Name × Bor Stamped) → List (Name × Kept) → Type 0
IsPlanned ns Unmade read all = (p : Name) → away all p ≡ 0
IsPlanned ns (Counted counts) read all = Covers ns counts.entries read all
IsPlanned ns Unknown read all = (p : Name) → away all p ≡ 0

-- no more than one use of the path was counted
abbrev pub IsUsedOnce : Plan → Name → Type 0
IsUsedOnce Unmade p = ⊥
IsUsedOnce (Counted counts) p = count_of counts.entries p ≤ 1
IsUsedOnce Unknown p = ⊥

-- the path is among those that were counted, if any were
abbrev pub IsPlannedFor : Plan → Name → Type 0
IsPlannedFor Unmade p = Unit {0}
IsPlannedFor (Counted counts) p = IsCounted counts.entries p
IsPlannedFor Unknown p = Unit {0}

-- no table is gone but of paths that the blueprints that were read name, and none that is wanted
-- again
pub record AreSpent
    (ns : Space) (plan : Plan) (read : List (Name × Bor Stamped)) (all : List (Name × Kept))
    : Type 0 where
  pub planned : IsPlanned ns plan read all
  pub named : (p : Name) → away all p ≤ occurs_read ns read p
