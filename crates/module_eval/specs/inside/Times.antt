-- How often paths are named by what is still to be gone through, and by blueprints that were read.
use Rattle.std.specs.Prelude.{◌≡◌, ◌≤◌, ℕ, ◌+◌, Bool, true, if◌then◌else◌, List, [], ◌∷◌}
use Rattle.std.specs.Prelude.{Option, Some, None, Result}
use Rattle.std.specs.Borrow.{Bor}
use Rattle.std.specs.List.{sum_by}
use Rattle.std.specs.Map.{keys_of, lookup}
use Rattle.omos_model.specs.Expansion.{Source, Object, Blueprint, source}
use Rattle.omos_model.specs.Names.{Name, same_name}
use Rattle.omos_model.specs.Namespace.{Space}
use Rattle.omos_model.specs.Tree.{Tree, tree_of}
use Rattle.omos_model.specs.Tree as tree
use Rattle.omos_model.specs.declared.entry.Stamped.{Stamped}
use Rattle.omos_model.specs.declared.expr.Expr.{Expr}
use Rattle.omos_model.specs.declared.refusal.Refusal.{Refusal}
use Rattle.module_table.specs.TableParts.{TableParts}
use Rattle.module_eval.specs.declared.memo.Kept.{Kept}
use Rattle.module_eval.specs.declared.pending.Pending.{Pending}
use Rattle.module_eval.specs.declared.pending.Pending.TheVariants.{Under, First, Right}

-- one where they are the same path
abbrev pub once : Name → Name → ℕ
once p q = if same_name p q then 1 else 0

-- how often an expression names the path
abbrev pub occurs : Name → Tree → ℕ
occurs p (tree.Path q) = once p q
occurs p (tree.Merge l r) = occurs p l + occurs p r
occurs p (tree.More l r) = occurs p l + occurs p r
occurs p (tree.Override l r) = occurs p l + occurs p r
occurs p (tree.Apply op x) = occurs p x

abbrev pub occurs_in : Name → Option Source → ℕ
occurs_in p None = 0
occurs_in p (Some (Object f)) = 0
occurs_in p (Some (Blueprint x)) = occurs p x

-- how often the blueprints of these paths name the path
abbrev pub occurs_of : Space → List Name → Name → ℕ
occurs_of ns paths p = sum_by (λ q. occurs_in p (source ns q)) paths

-- how often those that were read do
abbrev pub occurs_read : Space → List (Name × Bor Stamped) → Name → ℕ
occurs_read ns read p = occurs_of ns (keys_of read) p

-- how often further operands name the path
abbrev pub occurs_among : List Expr → Name → ℕ
occurs_among [] p = 0
occurs_among (x ∷ xs) p = occurs p (tree_of x) + occurs_among xs p

-- how often what is still to be gone through at a pending node does
abbrev pub occurs_at : Name → Pending → ℕ
occurs_at p (Under node op) = 0
occurs_at p (First node join others) = occurs_among others p
occurs_at p (Right node join left others) = occurs_among others p

abbrev pub occurs_left : List Pending → Name → ℕ
occurs_left pending p = sum_by (occurs_at p) pending

-- nothing is left to be gone through
abbrev pub never : Name → ℕ
never p = 0

-- one where the table was moved to its only use
abbrev pub moved : Option (Result TableParts Refusal) → ℕ
moved None = 1
moved (Some r) = 0

abbrev pub moved_in : Option Kept → ℕ
moved_in None = 0
moved_in (Some kept) = moved kept.built

-- one where the path's table is gone
abbrev pub away : List (Name × Kept) → Name → ℕ
away all p = moved_in (lookup (same_name p) all)

-- the same where operators are applied; a walk that counts takes no table
abbrev pub away_in : Bool → List (Name × Kept) → Name → ℕ
away_in counting all p = if counting then 0 else away all p

-- each path is named by blueprints that were read as often as it is still to be gone to, and once
-- more if its table is gone
pub record Affords
    (ns : Space) (counting : Bool) (owed : Name → ℕ) (read : List (Name × Bor Stamped))
    (all : List (Name × Kept)) : Type 0 where
  pub each : (p : Name) → away_in counting all p + owed p ≤ occurs_read ns read p

-- what was to be gone to and isn't any more was gone to, and each table that is gone since was
-- taken there
pub record Spares
    (ns : Space) (counting : Bool) (owed left : Name → ℕ)
    (read new_read : List (Name × Bor Stamped)) (all new_all : List (Name × Kept)) : Type 0 where
  pub each : (p : Name) → away_in counting new_all p + left p + occurs_read ns read p
      ≤ away_in counting all p + owed p + occurs_read ns new_read p
  pub idle : counting ≡ true → (p : Name) → away new_all p + occurs_read ns read p
      ≤ away all p + occurs_read ns new_read p
  pub grown : (p : Name) → occurs_read ns read p ≤ occurs_read ns new_read p
