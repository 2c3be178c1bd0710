-- An expansion has as many leaves and references as its visit counts, and these are bounded.
use Rattle.std.proofs.Common.{◌≡◌, ℕ, ◌+◌, ◌≤◌, ◌<◌, Bool, true, false, List, [], ◌∷◌, ◌++◌}
use Rattle.std.proofs.Common.{Some, refl, sym, ap, ◌∙◌, subst, cond, length, map, arith}
use Rattle.std.proofs.Common.{length-append}
use Rattle.std.specs.Prelude.{nat_lt, nat_le, ◌&&◌}
use Rattle.std.specs.List.{sum_by}
use Rattle.std.proofs.lemmas.Bool.{and_parts, leb-true, ltb-true}
use Rattle.std.proofs.lemmas.List.{length-map}
use Rattle.std.proofs.lemmas.List.Sums.{sum_by-append, sum_by-cons}
use Rattle.omos_model.specs.FragmentParts.{FragmentParts}
use Rattle.omos_model.specs.Names.{Name}
use Rattle.omos_model.specs.NameLists.{is_among}
use Rattle.omos_model.specs.Laws.{CountsLaw}
use Rattle.omos_model.specs.Term.{Term, Leaf}
use Rattle.omos_model.specs.Definition.{definition}
use Rattle.omos_model.specs.State.{states, mark_of, marked_by, remarked}
use Rattle.omos_model.specs.Expansion.{Source, add_read, first_visit, source}
use Rattle.omos_model.specs.Namespace.{Space}
use Rattle.omos_model.specs.declared.fragment.Fixup.{Fixup}
use Rattle.omos_model.specs.declared.mark.MarkRow.{MarkRow}
use Rattle.omos_model.specs.declared.mark.Mark.{Mark}
use Rattle.omos_model.specs.declared.refusal.Site.{Site}
use Rattle.omos_model.specs.Visit.{Visit}
use Rattle.omos_model.proofs.Walk.{Lasts, Holds, expand_holds, after_leaf, has_room}

abbrev references : List MarkRow → ℕ
references rows = sum_by (λ r. length r.marks) rows

-- the visit counts the leaves and references of the term, and keeps their bounds
record Counted (v : Visit) (t : Term) (w : Visit) : Type 0 where
  leaves : w.leaves ≡ v.leaves + length (states t)
  fixups : w.fixups ≡ v.fixups + references (states t)
  few : w.leaves ≤ 256
  bounded : w.fixups ≤ 524288

-- operators keep every reference
remarked-same : (f : Mark → Mark) (rows : List MarkRow)
    → references (map (remarked f) rows) ≡ references rows
remarked-same f [] = refl
remarked-same f (r ∷ rows) =
    let after =
    sum_by-cons (λ (r : MarkRow). length r.marks) (remarked f r) (map (remarked f) rows) in
    let before = sum_by-cons (λ (r : MarkRow). length r.marks) r rows in
    after ∙ ap (λ n. length (map f r.marks) + n) (remarked-same f rows)
    ∙ ap (λ n. n + references rows) (length-map r.marks f) ∙ sym before

two_parts : (v w x : Visit) (t u : Term) → Counted v t w → Counted w u x
    → (x.leaves ≡ v.leaves + length (states t ++ states u))
    × (x.fixups ≡ v.fixups + references (states t ++ states u))
two_parts v w x t u h k = (
  k.leaves ∙ ap (λ n. n + length (states u)) h.leaves
      ∙ omega (arith, length-append (states t) (states u)),
  k.fixups ∙ ap (λ n. n + references (states u)) h.fixups
      ∙ omega (arith, sum_by-append (λ (r : MarkRow). length r.marks) (states t) (states u)),
)

one_leaf : (v : Visit) (f : FragmentParts) (s : Site) → has_room v f ≡ true
    → Counted v (Leaf s v.leaves f) (after_leaf f v)
one_leaf v f s room =
    let most = nat_lt v.leaves 256 && nat_le (v.exports + length f.exports) 524288 in
    let parts = and_parts most (nat_le (v.fixups + length f.fixups) 524288) room in
    let first =
    and_parts (nat_lt v.leaves 256) (nat_le (v.exports + length f.exports) 524288) parts.0 in
    let few : v.leaves < 256 = ltb-true v.leaves 256 first.0 in
    let bounded : v.fixups + length f.fixups ≤ 524288 =
    leb-true (v.fixups + length f.fixups) 524288 parts.1 in
    record {
      leaves = refl;
      fixups = omega (arith, length-map f.fixups (λ (x : Fixup). mark_of v.leaves x.aim));
      few = omega arith;
      bounded = bounded;
    }

counted : Lasts Counted
counted = record {
  leaf = one_leaf;
  merge = λ s v w x t u h k.
      let parts = two_parts v w x t u h k in
      record { leaves = parts.0; fixups = parts.1; few = k.few; bounded = k.bounded };
  override = λ s v w x t u h k.
      let parts = two_parts v w x t u h k in
      record { leaves = parts.0; fixups = parts.1; few = k.few; bounded = k.bounded };
  apply = λ s op v w t h.
      record {
        leaves = h.leaves
            ∙ ap (λ n. v.leaves + n)
            (sym (length-map (states t) (remarked (marked_by op (definition t)))));
        fixups = h.fixups
            ∙ ap (λ n. v.fixups + n) (sym (remarked-same (marked_by op (definition t)) (states t)));
        few = h.few;
        bounded = h.bounded;
      };
  begun = λ v w t n m h.
      record { leaves = h.leaves; fixups = h.fixups; few = h.few; bounded = h.bounded };
  nested = λ v w t n m h.
      record { leaves = h.leaves; fixups = h.fixups; few = h.few; bounded = h.bounded };
}

add_read-same : (p : Name) (v : Visit)
    → ((add_read p v).leaves ≡ v.leaves) × ((add_read p v).fixups ≡ v.fixups)
add_read-same p v = go (is_among v.read p)
  where
    go : (b : Bool)
        → ((cond b v (record v { read = v.read ++ p ∷ [] })).leaves ≡ v.leaves)
        × ((cond b v (record v { read = v.read ++ p ∷ [] })).fixups ≡ v.fixups)
    go true = (refl, refl)
    go false = (refl, refl)

read_first : (ns : Space) (p : Name) (s : Source) → source ns p ≡ Some s → (v w : Visit) (t : Term)
    → Counted (add_read p v) t w → Counted v t w
read_first ns p s e v w t h =
    let same = add_read-same p v in
    record {
      leaves = h.leaves ∙ ap (λ n. n + length (states t)) same.0;
      fixups = h.fixups ∙ ap (λ n. n + references (states t)) same.1;
      few = h.few;
      bounded = h.bounded;
    }

pub counts_law : CountsLaw
counts_law ns path t v is =
    let h = subst (Holds Counted first_visit) is
    (expand_holds Counted counted (source ns) (read_first ns) 32 [] false path path first_visit) in
    (omega (arith, h.leaves, h.few), omega (arith, h.fixups, h.bounded))
