-- The uses of a path that are made, and what they leave.
use Rattle.std.proofs.Common.{◌≡◌, ℕ, ◌+◌, ◌≤◌, Bool, true, false, List, Some, refl, ap, arith}
use Rattle.std.specs.Borrow.{Bor}
use Rattle.std.specs.Map.{keys_of}
use Rattle.omos_model.specs.Expansion.{Blueprint, source}
use Rattle.omos_model.specs.Names.{Name}
use Rattle.omos_model.specs.NameLists.{is_among}
use Rattle.omos_model.specs.Namespace.{Space}
use Rattle.omos_model.specs.Tree.{Tree}
use Rattle.omos_model.specs.declared.entry.Stamped.{Stamped}
use Rattle.module_eval.specs.inside.Times.{Affords, Spares, never, once, away, away_in, occurs}
use Rattle.module_eval.specs.inside.Times.{occurs_in, occurs_read}
use Rattle.module_eval.specs.inside.Walks.{Uses}
use Rattle.module_eval.specs.declared.memo.Kept.{Kept}
use Rattle.module_eval.specs.declared.walk.Walk.{Walk}
use Rattle.module_eval.proofs.Times.{of_member}

-- ---- the first

module _ (ns : Space) (counting : Bool) (p : Name) (read after : List (Name × Bor Stamped))
    (all new : List (Name × Kept)) where
  -- a blueprint was gone through, and what became of it is kept
  pub used_first : (x : Tree) (opened : List (Name × Bor Stamped)) (nested : List (Name × Kept))
      → ((q : Name) → occurs_read ns read q + occurs q x ≤ occurs_read ns opened q)
      → Spares ns false (λ q. occurs q x) never opened after all nested
      → ((q : Name) → away new q ≤ away nested q + once q p)
      → (counting ≡ true → (q : Name) → away new q ≤ away nested q)
      → Spares ns counting (λ q. once q p) never read after all new
  used_first x opened nested fresh inside more idle = record {
    each = λ q. go q counting refl;
    idle = λ e q. omega (arith, fresh q, inside.each q, idle e q);
    grown = λ q. omega (arith, fresh q, inside.grown q);
  }
    where
      go : (q : Name) (c : Bool) → counting ≡ c
          → away_in counting new q + 0 + occurs_read ns read q
          ≤ away_in counting all q + once q p + occurs_read ns after q
      go q true e =
          let one = ap (λ c. away_in c new q) e in
          let two = ap (λ c. away_in c all q) e in
          omega (arith, one, two, fresh q, inside.grown q)
      go q false e =
          let one = ap (λ c. away_in c new q) e in
          let two = ap (λ c. away_in c all q) e in
          omega (arith, one, two, fresh q, inside.each q, more q)

  -- a table that is gone then is one of a path that the blueprints that were read name
  pub named_then : ((q : Name) → away all q ≤ occurs_read ns read q)
      → Affords ns counting (λ q. once q p) read all
      → Spares ns counting (λ q. once q p) never read after all new
      → (q : Name) → away new q ≤ occurs_read ns after q
  named_then named can uses q = go counting refl
    where
      go : (c : Bool) → counting ≡ c → away new q ≤ occurs_read ns after q
      go true e = omega (arith, named q, uses.idle e q)
      go false e =
          let one = ap (λ c. away_in c new q) e in
          let two = ap (λ c. away_in c all q) e in
          omega (arith, one, two, can.each q, uses.each q)

-- ---- further uses

pub used_again : (ns : Space) (counting : Bool) (p : Name)
    (read after : List (Name × Bor Stamped)) (all : List (Name × Kept))
    → ((q : Name) → occurs_read ns read q ≤ occurs_read ns after q)
    → Spares ns counting (λ q. once q p) never read after all all
used_again ns counting p read after all grown = record {
  each = λ q. let more = grown q in omega (arith, more);
  idle = λ e q. let more = grown q in omega (arith, more);
  grown = grown;
}

-- its expression was gone through again, counting
pub used_counting : (ns : Space) (counting : Bool) (p : Name) (x : Tree) (a b : Walk)
    (entered : List (Name × Bor Stamped))
    → ((q : Name) → occurs_read ns a.counts.read.entries q ≤ occurs_read ns entered q)
    → Spares ns true (λ q. occurs q x) never entered b.counts.read.entries
    a.memo.kept.entries b.memo.kept.entries
    → Uses ns counting (λ q. once q p) never a b
used_counting ns counting p x a b entered grown h = record {
  each = λ q. go q counting;
  idle = λ e q. let more = grown q in omega (arith, more, h.idle refl q);
  grown = λ q. let more = grown q in omega (arith, more, h.grown q);
}
  where
    go : (q : Name) (c : Bool)
        → away_in c b.memo.kept.entries q + 0 + occurs_read ns a.counts.read.entries q
        ≤ away_in c a.memo.kept.entries q + once q p + occurs_read ns b.counts.read.entries q
    go q true = let more = grown q in omega (arith, more, h.grown q)
    go q false = let more = grown q in omega (arith, more, h.idle refl q)

pub can_count : (ns : Space) (p : Name) (x : Tree) (read : List (Name × Bor Stamped))
    (all : List (Name × Kept)) → source ns p ≡ Some (Blueprint x)
    → is_among (keys_of read) p ≡ true → Affords ns true (λ q. occurs q x) read all
can_count ns p x read all there here = record {
  each = λ q.
      let own = of_member ns (keys_of read) p q here in
      let same = ap (occurs_in q) there in
      omega (arith, own, same);
}

-- ---- from where nodes alone began

pub uses_from : (ns : Space) (counting : Bool) (owed left more rest : Name → ℕ)
    (read other after : List (Name × Bor Stamped)) (all same new : List (Name × Kept))
    → other ≡ read → same ≡ all → ((q : Name) → owed q + rest q ≡ more q + left q)
    → Spares ns counting owed left other after same new
    → Spares ns counting more rest read after all new
uses_from ns counting owed left more rest read other after all same new reads kept is h = record {
  each = λ q.
      let one = h.each q in
      let two = is q in
      let three = ap (λ r. occurs_read ns r q) reads in
      let four = ap (λ m. away_in counting m q) kept in
      omega (arith, one, two, three, four);
  idle = λ e q.
      let one = h.idle e q in
      let three = ap (λ r. occurs_read ns r q) reads in
      let four = ap (λ m. away m q) kept in
      omega (arith, one, three, four);
  grown = λ q.
      let one = h.grown q in
      let three = ap (λ r. occurs_read ns r q) reads in
      omega (arith, one, three);
}
