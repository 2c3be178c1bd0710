-- How many operators are applied.
use Rattle.std.specs.Prelude.{◌≡◌, ◌≤◌, ℕ, ◌+◌, Bool, false, true, is_some, List, [], ◌∷◌}
use Rattle.std.specs.Prelude.{Option, Some, None, Result, Ok, Err}
use Rattle.std.specs.Borrow.{Bor}
use Rattle.std.specs.List.{sum_by}
use Rattle.std.specs.Map.{keys_of, lookup}
use Rattle.omos_model.specs.Expansion.{Source, Object, Blueprint, source}
use Rattle.omos_model.specs.Names.{Name, same_name}
use Rattle.omos_model.specs.NameLists.{is_among}
use Rattle.omos_model.specs.Namespace.{Space}
use Rattle.omos_model.specs.Tree.{Tree, tree_of}
use Rattle.omos_model.specs.Tree as tree
use Rattle.omos_model.specs.declared.entry.Stamped.{Stamped}
use Rattle.omos_model.specs.declared.expr.Expr.{Expr}
use Rattle.omos_base.specs.declared.fault.Fault.{Fault}
use Rattle.omos_base.specs.declared.fault.Fault.TheVariants.{Refused, NoMemory}
use Rattle.module_share.specs.Trails.{trail, visited}
use Rattle.module_eval.specs.declared.memo.Kept.{Kept}
use Rattle.module_eval.specs.declared.pending.Pending.{Pending}
use Rattle.module_eval.specs.declared.pending.Pending.TheVariants.{Under, First, Right}

-- the operators of an expression; a merge of n operands has n - 1
abbrev pub operators : Tree → ℕ
operators (tree.Path p) = 0
operators (tree.Merge l r) = operators l + operators r + 1
operators (tree.More l r) = operators l + operators r + 1
operators (tree.Override l r) = operators l + operators r + 1
operators (tree.Apply op x) = operators x + 1

abbrev pub operators_in : Option Source → ℕ
operators_in None = 0
operators_in (Some (Object f)) = 0
operators_in (Some (Blueprint x)) = operators x

-- the operators in the blueprints of these paths
abbrev pub operators_of : Space → List Name → ℕ
operators_of ns paths = sum_by (λ p. operators_in (source ns p)) paths

-- those in the blueprints of the paths read
abbrev pub read_of : Space → List (Name × Bor Stamped) → ℕ
read_of ns read = operators_of ns (keys_of read)

-- the operators of further operands, and those that join them
abbrev pub joins : List Expr → ℕ
joins [] = 0
joins (x ∷ xs) = operators (tree_of x) + 1 + joins xs

-- the operators that are still to be applied at a pending node
abbrev pub owed_by : Pending → ℕ
owed_by (Under node op) = 1
owed_by (First node join others) = joins others
owed_by (Right node join left others) = 1 + joins others

abbrev pub owed : List Pending → ℕ
owed pending = sum_by owed_by pending

-- what became of the path's blueprint is kept
abbrev pub is_built : List (Name × Kept) → Name → Bool
is_built all p = is_some (lookup (same_name p) all)

-- the path was read
abbrev pub IsRead : List (Name × Bor Stamped) → Name → Type 0
IsRead read p = is_among (keys_of read) p ≡ true

-- no path was read for the first time but this one
abbrev pub IsReadAlone : List (Name × Bor Stamped) → List (Name × Bor Stamped) → Name → Type 0
IsReadAlone old new p = (q : Name) → same_name q p ≡ false → IsRead new q → IsRead old q

-- each path that was read is still read
abbrev pub StayRead : List (Name × Bor Stamped) → List (Name × Bor Stamped) → Type 0
StayRead old new = (q : Name) → IsRead old q → IsRead new q

-- what is kept stays
abbrev pub StayBuilt : List (Name × Kept) → List (Name × Kept) → Type 0
StayBuilt old new = (q : Name) → is_built old q ≡ true → is_built new q ≡ true

-- nothing else is kept that wasn't but this one
abbrev pub IsBuiltAlone : List (Name × Kept) → List (Name × Kept) → Name → Type 0
IsBuiltAlone old new p =
    (q : Name) → same_name q p ≡ false → is_built new q ≡ true → is_built old q ≡ true

-- no more than one step for each operator in the distinct blueprints that the expansion reads,
-- also where it is refused
abbrev pub IsWithin : ℕ → ℕ → Space → Name → Type 0
IsWithin old new ns path = new ≤ old + operators_of ns (visited (trail ns path)).read

-- where memory did not run out
abbrev pub IsPaid : {X E : Type 0} → Result X (Fault E) → ℕ → ℕ → Space → Name → Type 0
IsPaid (Ok x) old new ns path = IsWithin old new ns path
IsPaid (Err (Refused x)) old new ns path = IsWithin old new ns path
IsPaid (Err NoMemory) old new ns path = Unit {0}
