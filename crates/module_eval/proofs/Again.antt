-- A blueprint whose table is kept, and used again.
use Rattle.std.proofs.Common.{◌≡◌, ◌∙◌, ℕ, ◌+◌, ◌-◌, ◌<◌, ◌≤◌, ◌%◌, Bool, true, false, cond}
use Rattle.std.proofs.Common.{List, [], ◌∷◌, Option, Some, None, Result, Ok, Err, refl, sym, ap}
use Rattle.std.proofs.Common.{subst, length, arith}
use Rattle.std.specs.Prelude.{IfSome}
use Rattle.std.specs.Map.{lookup}
use Rattle.indexmap.specs.IndexMap.{insert_entry}
use Rattle.omos_model.specs.Expansion.{Blueprint, source}
use Rattle.omos_model.specs.FirstRefusal.{first_refusal}
use Rattle.omos_model.specs.Names.{Name, same_name}
use Rattle.omos_model.specs.Namespace.{Space}
use Rattle.omos_model.specs.Term.{Term}
use Rattle.omos_model.specs.Tree.{Tree}
use Rattle.omos_model.specs.declared.refusal.Refusal.{Refusal}
use Rattle.omos_model.specs.Visit.{Visit}
use Rattle.omos_model.proofs.Names.{same_name-true}
use Rattle.module_share.specs.Instances.{IsInstance}
use Rattle.module_share.specs.Places.{tree_at}
use Rattle.module_share.specs.Shifted.{raised, shifted}
use Rattle.module_share.specs.Trails.{Trail, and_on, front, nested_on}
use Rattle.module_share.proofs.Elsewhere.{same_term_law}
use Rattle.module_share.proofs.Fronts.{front_tree}
use Rattle.module_share.proofs.Shifts.{first_refusal_shifted}
use Rattle.module_table.specs.Stands.{StandsFor}
use Rattle.module_table.specs.TableParts.{TableParts}
use Rattle.module_eval.specs.inside.Kept.{AreKept, IsKept, IsRun, StandsOr}
use Rattle.module_eval.specs.inside.Meant.{IsBuilt, Means}
use Rattle.module_eval.specs.inside.Times.{moved, moved_in, once, away}
use Rattle.module_eval.specs.inside.Walked.{tree_in}
use Rattle.module_eval.specs.declared.memo.Kept.{Kept}
use Rattle.module_eval.proofs.Planned.{looked_up}
use Rattle.module_eval.specs.declared.part.Part.{Part}
use Rattle.module_eval.specs.declared.part.Part.TheVariants.{Built, Failed}

-- ---- what is kept

pub kept_at : (ns : Space) (all : List (Name × Kept)) (p : Name) → AreKept ns all
    → IfSome (lookup (same_name p) all) (IsKept ns p)
kept_at ns [] p h = tt
kept_at ns (e ∷ es) p h = go (same_name p e.0) refl (kept_at ns es p (record { each = h.each.1 }))
  where
    go : (b : Bool) → same_name p e.0 ≡ b → IfSome (lookup (same_name p) es) (IsKept ns p)
        → IfSome (cond b (Some e.1) (lookup (same_name p) es)) (IsKept ns p)
    go true is k = subst (λ (q : Name). IsKept ns q e.1) (sym (same_name-true p e.0 is)) h.each.0
    go false is k = k

pub kept_more : (ns : Space) (all : List (Name × Kept)) (p : Name) (kept : Kept)
    → IsKept ns p kept → AreKept ns all → AreKept ns (insert_entry same_name all p kept)
kept_more ns [] p kept h f = record { each = (h, tt) }
kept_more ns (e ∷ es) p kept h f =
    go (same_name p e.0) refl (kept_more ns es p kept h (record { each = f.each.1 }))
  where
    go : (b : Bool) → same_name p e.0 ≡ b → AreKept ns (insert_entry same_name es p kept)
        → AreKept ns (cond b ((e.0, kept) ∷ es) (e ∷ insert_entry same_name es p kept))
    go true is k =
        record {
          each = (
            subst (λ (q : Name). IsKept ns q kept) (same_name-true p e.0 is) h,
            f.each.1,
          );
        }
    go false is k = record { each = (f.each.0, k.each) }

-- ---- a run

-- a walk through a blueprint's expression is a run
pub run_of : (ns : Space) (limit : ℕ) (above : List Name) (path : Name) (x : Tree) (v w : Visit)
    (t : Term)
    → source ns path ≡ Some (Blueprint x) → nested_on (tree_in ns limit above path x) v ≡ Ok (t, w)
    → IsRun ns path v.leaves t
run_of ns limit above path x v w t there is =
    go (tree_in ns limit above path x o)
    (front_tree (source ns) (limit - length above) above path x o) is
  where
    o : Visit
    o = record v { node = 0 }

    go : (y : Trail Term) → front y ≡ tree_at (source ns) (limit - length above) above path x o
        → and_on y (λ u z. Ok (u, record z { node = v.node })) ≡ Ok (t, w)
        → IsRun ns path v.leaves t
    go (Ok r) e h =
        let pair : (r.0, record r.1 { node = v.node }) ≡ (t, w) = cc in
        let same : r.0 ≡ t = ap (λ (q : Term × Visit). q.0) pair in
        record {
          tree = x;
          room = limit - length above;
          above = above;
          start = o;
          after = r.1;
          there = there;
          node = refl;
          leaves = refl;
          expanded = sym e ∙ (λ i. Ok (same i, r.1));
        }
    go (Err f) e h = cc

-- ---- once more

-- two runs give the same term, but for the numbers of its leaves
pub same_run : (ns : Space) (path : Name) (first second k : ℕ) (t u : Term) → IsRun ns path first t
    → IsRun ns path second u → second ≡ raised k first → u ≡ shifted k t
same_run ns path first second k t u once run number =
    let trees : Some (Blueprint once.tree) ≡ Some (Blueprint run.tree) =
    sym once.there ∙ run.there in
    let tree : run.tree ≡ once.tree = cc in
    let expanded =
    subst (λ (x : Tree). tree_at (source ns) run.room run.above path x run.start
    ≡ Ok (u, run.after)) tree run.expanded in
    let law =
    same_term_law (source ns) once.room run.room once.above run.above path once.tree k once.start
    run.start once.after run.after t u (run.node ∙ sym once.node)
    (run.leaves ∙ number ∙ ap (raised k) (sym once.leaves)) once.expanded expanded in
    law.0

pub again_means : (ns : Space) (path : Name) (kept : Kept) (first k : ℕ) (t : Term)
    (old table : TableParts) → IsKept ns path kept → IsRun ns path first t
    → kept.built ≡ Some (Ok old) → first ≡ raised k kept.first → IsInstance k old table
    → Means false (Built table) t
again_means ns path kept first k t old table h run there number instance =
    let stands =
    subst (λ (o : Option (Result TableParts Refusal)). StandsOr o h.term) there h.stands in
    let same = same_run ns path kept.first first k h.term t h.run run number in (
      subst (λ (u : Term). StandsFor table u) (sym same) (instance h.term stands.0),
      ap first_refusal same ∙ first_refusal_shifted k h.term ∙ stands.1,
    )

pub again_failed : (ns : Space) (path : Name) (kept : Kept) (first k : ℕ) (t : Term) (x : Refusal)
    → IsKept ns path kept → IsRun ns path first t → kept.built ≡ Some (Err x)
    → first ≡ raised k kept.first
    → Means false (Failed x) t
again_failed ns path kept first k t x h run there number =
    let stands =
    subst (λ (o : Option (Result TableParts Refusal)). StandsOr o h.term) there h.stands in
    let same = same_run ns path kept.first first k h.term t h.run run number in
    ap first_refusal same ∙ first_refusal_shifted k h.term ∙ stands

-- a table that is gone is wanted only where nodes are counted
pub only_counting : (counting : Bool) (built : Option (Result TableParts Refusal))
    → built ≡ None → (counting ≡ false → moved built ≡ 0) → counting ≡ true
only_counting true built is left = refl
only_counting false built is left =
    let one = ap moved is in let none = left refl in absurd (omega (arith, one, none))

-- the number of any leaf comes from that of any other
pub shift_to : (first before : ℕ) → first < 4294967296 → before < 4294967296
    → first ≡ raised ((first + (4294967296 - before)) % 4294967296) before
shift_to first before h k = omega (arith, h, k)

pub unshifted : (n : ℕ) → n < 4294967296 → n ≡ raised 0 n
unshifted n h = omega (arith, h)

pub own_means : (ns : Space) (path : Name) (first : ℕ) (part : Part) (table own : TableParts)
    (t : Term)
    → first < 4294967296 → IsBuilt (Some (Ok table)) part → IsInstance 0 table own
    → Means false part t → IsRun ns path first t → Means false (Built own) t
own_means ns path first part table own t few is instance h run =
    let k = is false t h in
    let same = same_run ns path first first 0 t t run run (unshifted first few) in
    (subst (λ (u : Term). StandsFor own u) (sym same) (instance t k.0), k.1)

-- ---- tables that are gone

moved_few : (built : Option (Result TableParts Refusal)) → moved built ≤ 1
moved_few None = omega arith
moved_few (Some r) = omega arith

pub inserted_spent : (all : List (Name × Kept)) (p : Name) (kept : Kept) (q : Name)
    → away (insert_entry same_name all p kept) q ≤ away all q + once q p
inserted_spent all p kept q = go (same_name q p) (ap moved_in (looked_up all p q kept))
  where
    go : (b : Bool) → away (insert_entry same_name all p kept) q
        ≡ moved_in (cond b (Some kept) (lookup (same_name q) all))
        → away (insert_entry same_name all p kept) q ≤ away all q + cond b 1 0
    go true e = let few = moved_few kept.built in omega (arith, e, few)
    go false e = omega (arith, e)

pub inserted_unspent : (all : List (Name × Kept)) (p : Name) (kept : Kept)
    → moved kept.built ≡ 0 → (q : Name)
    → away (insert_entry same_name all p kept) q ≤ away all q
inserted_unspent all p kept none q =
    go (same_name q p) (ap moved_in (looked_up all p q kept))
  where
    go : (b : Bool) → away (insert_entry same_name all p kept) q
        ≡ moved_in (cond b (Some kept) (lookup (same_name q) all))
        → away (insert_entry same_name all p kept) q ≤ away all q
    go true e = omega (arith, e, none)
    go false e = omega (arith, e)
