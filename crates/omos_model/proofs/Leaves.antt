-- The leaves of an expansion are numbered from where its visit begins.
use Rattle.std.proofs.Common.{◌≡◌, ℕ, zero, suc, ◌+◌, Bool, true, false, [], ◌∷◌, ◌++◌}
use Rattle.std.proofs.Common.{Some, refl, sym, ap, ◌∙◌, subst, cond, arith}
use Rattle.omos_model.specs.Names.{Name}
use Rattle.omos_model.specs.Laws.{LeavesLaw}
use Rattle.omos_model.specs.NameLists.{is_among}
use Rattle.omos_model.specs.Numbers.{numbers_from}
use Rattle.omos_model.specs.Term.{Term, leaf_numbers}
use Rattle.omos_model.specs.Expansion.{Source, add_read, first_visit, source}
use Rattle.omos_model.specs.Visit.{Visit}
use Rattle.omos_model.proofs.Walk.{Lasts, Holds, expand_holds}

-- the leaves have the numbers from the count before to the count after
abbrev Numbered : Visit → Term → Visit → Type 0
Numbered v t w =
    (count : ℕ) × (w.leaves ≡ v.leaves + count) × (leaf_numbers t ≡ numbers_from v.leaves count)

numbers_from-add : (start a b : ℕ)
    → numbers_from start (a + b) ≡ numbers_from start a ++ numbers_from (start + a) b
numbers_from-add start zero b =
    let e : zero + b ≡ b = omega arith in
    let f : start + zero ≡ start = omega arith in rw (e, f) refl
numbers_from-add start (suc a) b =
    let e : suc a + b ≡ suc (a + b) = omega arith in
    let f : start + 1 + a ≡ start + suc a = omega arith in
    ap (numbers_from start) e
    ∙ ap (λ ns. start ∷ ns)
    (numbers_from-add (start + 1) a b ∙ ap (λ n. numbers_from (start + 1) a ++ numbers_from n b) f)

-- the leaves of two parts, one after the other
two_parts : (v w x : Visit) (t u : Term) → Numbered v t w → Numbered w u x
    → (count : ℕ) × (x.leaves ≡ v.leaves + count)
    × (leaf_numbers t ++ leaf_numbers u ≡ numbers_from v.leaves count)
two_parts v w x t u h k = (
  h.0 + k.0,
  k.1 ∙ ap (λ n. n + k.0) h.1 ∙ omega arith,
  ap (λ ns. ns ++ leaf_numbers u) h.2
      ∙ ap (λ ns. numbers_from v.leaves h.0 ++ ns) (k.2 ∙ ap (λ n. numbers_from n k.0) h.1)
      ∙ sym (numbers_from-add v.leaves h.0 k.0),
)

numbered : Lasts Numbered
numbered = record {
  leaf = λ v f s room. (1, refl, refl);
  merge = λ s v w x t u h k. two_parts v w x t u h k;
  override = λ s v w x t u h k. two_parts v w x t u h k;
  apply = λ s op v w t h. h;
  begun = λ v w t n m h. h;
  nested = λ v w t n m h. h;
}

add_read-leaves : (p : Name) (v : Visit) → (add_read p v).leaves ≡ v.leaves
add_read-leaves p v = go (is_among v.read p)
  where
    go : (b : Bool) → (cond b v (record v { read = v.read ++ p ∷ [] })).leaves ≡ v.leaves
    go true = refl
    go false = refl

pub leaves_law : LeavesLaw
leaves_law ns path t v is =
    let reads =
    λ (p : Name) (s : Source) (e : source ns p ≡ Some s) (a w : Visit) (u : Term)
    (h : Numbered (add_read p a) u w).
    subst (λ n. (count : ℕ) × (w.leaves ≡ n + count) × (leaf_numbers u ≡ numbers_from n count))
    (add_read-leaves p a) h in
    let h = subst (Holds Numbered first_visit) is
    (expand_holds Numbered numbered (source ns) reads 32 [] false path path first_visit) in
    let e : v.leaves ≡ h.0 = h.1 ∙ omega arith in h.2 ∙ ap (numbers_from 0) (sym e)
