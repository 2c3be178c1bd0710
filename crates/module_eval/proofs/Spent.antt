-- What is known of tables that are gone, as paths are read and blueprints kept.
use Rattle.std.proofs.Common.{◌≡◌, ◌∙◌, ℕ, zero, suc, ◌+◌, ◌≤◌, Bool, true, false, cond, List}
use Rattle.std.proofs.Common.{Option}
use Rattle.std.proofs.Common.{Some, None, refl, sym, ap, subst, arith, true≢false}
use Rattle.std.specs.Borrow.{Bor}
use Rattle.std.specs.List.{IsDistinct}
use Rattle.std.specs.Map.{keys_of, lookup}
use Rattle.std.specs.Prelude.{is_some}
use Rattle.std.proofs.lemmas.Map.Made.{is_some-lookup}
use Rattle.omos_model.specs.Expansion.{Source, Object, Blueprint, source}
use Rattle.omos_model.specs.Names.{Name, same_name}
use Rattle.omos_model.specs.NameLists.{is_among}
use Rattle.omos_model.specs.Namespace.{Space}
use Rattle.omos_model.specs.Tree.{Tree}
use Rattle.omos_model.specs.declared.entry.Stamped.{Stamped}
use Rattle.omos_model.proofs.Names.{same_name-refl, same_name-true}
use Rattle.module_eval.specs.Costs.{IsReadAlone}
use Rattle.module_eval.specs.inside.Plans.{AreSpent, Covers, IsUsedOnce, IsPlanned, IsPlannedFor}
use Rattle.module_eval.specs.inside.Plans.{IsCounted, uses_counted, count_of}
use Rattle.module_eval.specs.inside.Times.{once, away, occurs_in, occurs_of, occurs_read}
use Rattle.module_eval.specs.inside.Walks.{IsOwed}
use Rattle.module_eval.specs.declared.memo.Kept.{Kept}
use Rattle.module_eval.specs.declared.plan.Plan.{Plan}
use Rattle.module_eval.specs.declared.plan.Plan.TheVariants.{Unmade, Counted, Unknown}
use Rattle.module_eval.specs.declared.walk.Walk.{Walk}
use Rattle.module_eval.proofs.Times.{sum_within}

pub once_own : (p : Name) → once p p ≡ 1
once_own p = ap {B = ℕ} (λ b. cond b 1 0) (same_name-refl p p refl)

-- ---- a path is read

planned_read : (ns : Space) (plan : Plan) (old new : List (Name × Bor Stamped))
    (all : List (Name × Kept)) (p : Name) → IsReadAlone old new p → IsPlannedFor plan p
    → IsPlanned ns plan old all → IsPlanned ns plan new all
planned_read ns Unmade old new all p alone for h = h
planned_read ns Unknown old new all p alone for h = h
planned_read ns (Counted counts) old new all p alone for h = record {
  each = h.each;
  reads = λ q x there r. go q x there r (same_name q p) refl;
  few = h.few;
}
  where
    go : (q : Name) (x : Tree) → source ns q ≡ Some (Blueprint x)
        → is_among (keys_of new) q ≡ true → (b : Bool) → same_name q p ≡ b
        → IsCounted counts.entries q
    go q x there r true e = subst (IsCounted counts.entries) (sym (same_name-true q p e)) for
    go q x there r false e = h.reads q x there (alone q e r)

pub spent_read : (ns : Space) (plan : Plan) (old new : List (Name × Bor Stamped))
    (all : List (Name × Kept)) (p : Name) → IsReadAlone old new p
    → ((q : Name) → occurs_read ns old q ≤ occurs_read ns new q) → IsPlannedFor plan p
    → AreSpent ns plan old all → AreSpent ns plan new all
spent_read ns plan old new all p alone grown for h = record {
  planned = planned_read ns plan old new all p alone for h.planned;
  named = λ q. let few = h.named q in let more = grown q in omega (arith, few, more);
}

-- ---- what the blueprints that were read name

within : (ns : Space) (counts : List (Name × ℕ)) (read : List (Name × Bor Stamped))
    (all : List (Name × Kept)) (p : Name) → IsDistinct same_name (keys_of read)
    → Covers ns counts read all → occurs_read ns read p ≤ occurs_of ns (keys_of counts) p
within ns counts read all p once h =
    sum_within (λ q. occurs_in p (source ns q)) (keys_of read) (keys_of counts) once inside
  where
    inside : (q : Name) → is_among (keys_of read) q ≡ true → 1 ≤ occurs_in p (source ns q)
        → is_among (keys_of counts) q ≡ true
    inside q r = go (source ns q) refl
      where
        go : (o : Option Source) → source ns q ≡ o → 1 ≤ occurs_in p o
            → is_among (keys_of counts) q ≡ true
        go None e k = absurd (omega (arith, k))
        go (Some (Object f)) e k = absurd (omega (arith, k))
        go (Some (Blueprint x)) e k = h.reads q x e r

-- a path that is named is among those that were counted
pub planned_named : (ns : Space) (plan : Plan) (read : List (Name × Bor Stamped))
    (all : List (Name × Kept)) (p : Name) → IsDistinct same_name (keys_of read)
    → IsPlanned ns plan read all → 1 ≤ occurs_read ns read p → IsPlannedFor plan p
planned_named ns Unmade read all p once h named = tt
planned_named ns Unknown read all p once h named = tt
planned_named ns (Counted counts) read all p once h named =
    go (is_among (keys_of counts.entries) p) refl
  where
    go : (b : Bool) → is_among (keys_of counts.entries) p ≡ b
        → is_among (keys_of counts.entries) p ≡ true
    go true e = e
    go false e =
        let none = look (lookup (same_name p) counts.entries)
        (is_some-lookup (same_name p) counts.entries ∙ e) in
        let bound = h.each p (omega (arith, none)) in
        let more = within ns counts.entries read all p once h in
        absurd (omega (arith, none, bound, more, named))
      where
        look : (o : Option ℕ) → is_some o ≡ false → uses_counted o ≡ 0
        look None f = refl
        look (Some n) f = absurd (true≢false f)

pub planned_for : (ns : Space) (counting counted : Bool) (p : Name) (walk : Walk)
    → IsOwed ns counting counted p walk
    → IsDistinct same_name (keys_of walk.counts.read.entries)
    → AreSpent ns walk.plan walk.counts.read.entries walk.memo.kept.entries
    → IsPlannedFor walk.plan p
planned_for ns counting true p walk owed once h =
    let due = (owed.due refl).each p in
    let one = once_own p in
    planned_named ns walk.plan walk.counts.read.entries walk.memo.kept.entries p once h.planned
    (omega (arith, due, one))
planned_for ns counting false p walk owed once h =
    subst (λ (o : Plan). IsPlannedFor o p) (sym (owed.first refl)) tt

-- a table that is wanted is there
wanted : (ns : Space) (plan : Plan) (read : List (Name × Bor Stamped))
    (all : List (Name × Kept)) (p : Name) → IsDistinct same_name (keys_of read)
    → IsPlanned ns plan read all → away all p + 1 ≤ occurs_read ns read p → away all p ≡ 0
wanted ns Unmade read all p once h due = h p
wanted ns Unknown read all p once h due = h p
wanted ns (Counted counts) read all p once h due = go (away all p) refl
  where
    go : (n : ℕ) → away all p ≡ n → away all p ≡ 0
    go zero e = e
    go (suc n) e =
        let few = h.few p (omega (arith, e)) in
        let bound = h.each p few in
        let more = within ns counts.entries read all p once h in
        absurd (omega (arith, e, few, bound, more, due))

pub still_there : (ns : Space) (counting counted : Bool) (p : Name) (walk : Walk)
    → IsOwed ns counting counted p walk
    → IsDistinct same_name (keys_of walk.counts.read.entries)
    → AreSpent ns walk.plan walk.counts.read.entries walk.memo.kept.entries
    → counting ≡ false → away walk.memo.kept.entries p ≡ 0
still_there ns true counted p walk owed once h e = absurd (true≢false e)
still_there ns false true p walk owed once h e =
    let due = (owed.due refl).each p in
    let one = once_own p in
    wanted ns walk.plan walk.counts.read.entries walk.memo.kept.entries p once h.planned
    (omega (arith, due, one))
still_there ns false false p walk owed once h e =
    subst (λ (o : Plan). IsPlanned ns o walk.counts.read.entries walk.memo.kept.entries)
    (owed.first refl) h.planned p

-- ---- what is kept

pub planned_kept : (ns : Space) (plan : Plan) (read : List (Name × Bor Stamped))
    (all new : List (Name × Kept)) (p : Name) (only : Bool)
    → ((q : Name) → away new q ≤ away all q + once q p)
    → (only ≡ false → (q : Name) → away new q ≤ away all q)
    → (only ≡ true → IsUsedOnce plan p) → IsPlanned ns plan read all → IsPlanned ns plan read new
planned_kept ns Unmade read all new p true more same few h = absurd (few refl)
planned_kept ns Unmade read all new p false more same few h =
    λ q. let less = same refl q in let none = h q in omega (arith, less, none)
planned_kept ns Unknown read all new p true more same few h = absurd (few refl)
planned_kept ns Unknown read all new p false more same few h =
    λ q. let less = same refl q in let none = h q in omega (arith, less, none)
planned_kept ns (Counted counts) read all new p false more same few h = record {
  each = h.each;
  reads = h.reads;
  few = λ q k. let less = same refl q in h.few q (omega (arith, less, k));
}
planned_kept ns (Counted counts) read all new p true more same few h = record {
  each = h.each;
  reads = h.reads;
  few = λ q k. go q k (same_name q p) refl;
}
  where
    go : (q : Name) → 1 ≤ away new q → (b : Bool) → same_name q p ≡ b
        → count_of counts.entries q ≤ 1
    go q k true e =
        subst (λ (r : Name). count_of counts.entries r ≤ 1) (sym (same_name-true q p e))
        (few refl)
    go q k false e =
        let less = more q in
        let none : once q p ≡ 0 = ap {B = ℕ} (λ b. cond b 1 0) e in
        h.few q (omega (arith, less, none, k))
