-- What is counted ahead of the uses of paths.
use Rattle.std.proofs.Common.{◌≡◌, ◌∙◌, ℕ, ◌+◌, ◌≤◌, Bool, true, false, cond, ◌||◌, List, [], ◌∷◌}
use Rattle.std.proofs.Common.{◌++◌, Some, None, refl, sym, ap, subst, arith, true≢false}
use Rattle.std.specs.Prelude.{is_some, min}
use Rattle.std.specs.Map.{keys_of, lookup}
use Rattle.std.specs.Borrow.{Bor}
use Rattle.std.proofs.lemmas.Map.Made.{is_some-lookup}
use Rattle.omos_model.specs.declared.entry.Stamped.{Stamped}
use Rattle.std.proofs.lemmas.List.Sums.{sum_by_push}
use Rattle.indexmap.specs.IndexMap.{insert_entry}
use Rattle.omos_model.specs.Expansion.{source}
use Rattle.omos_model.specs.Names.{Name, same_name}
use Rattle.omos_model.specs.NameLists.{is_among}
use Rattle.omos_model.specs.Namespace.{Space}
use Rattle.omos_model.specs.Tree.{tree_of}
use Rattle.omos_model.specs.declared.expr.Expr.{Expr}
use Rattle.omos_model.proofs.Names.{same_name-refl, same_name-true}
use Rattle.module_eval.specs.inside.Plans.{AreCounts, Covers, IsCounted, StayCounted, uses_counted}
use Rattle.module_eval.specs.inside.Plans.{count_of}
use Rattle.module_eval.specs.inside.Plans.{occurs_waiting, with_uses}
use Rattle.module_eval.specs.inside.Times.{never, away, occurs, occurs_among, occurs_in, occurs_of}
use Rattle.module_eval.specs.declared.memo.Kept.{Kept}
use Rattle.module_eval.proofs.Beside.{read_keys, read_still}
use Rattle.module_eval.proofs.Times.{of_more, read_here}

-- ---- one more entry

pub looked_up : {V : Type 0} (es : List (Name × V)) (p q : Name) (v : V)
    → lookup (same_name q) (insert_entry same_name es p v)
    ≡ cond (same_name q p) (Some v) (lookup (same_name q) es)
looked_up [] p q v = refl
looked_up (e ∷ es) p q v = go (same_name p e.0) refl (looked_up es p q v)
  where
    go : (b : Bool) → same_name p e.0 ≡ b
        → lookup (same_name q) (insert_entry same_name es p v)
        ≡ cond (same_name q p) (Some v) (lookup (same_name q) es)
        → lookup (same_name q) (cond b ((e.0, v) ∷ es) (e ∷ insert_entry same_name es p v))
        ≡ cond (same_name q p) (Some v) (cond (same_name q e.0) (Some e.1)
        (lookup (same_name q) es))
    go true is h =
        ap (λ r. cond (same_name q r) (Some v) (lookup (same_name q) es))
        (sym (same_name-true p e.0 is))
        ∙ end (same_name q p) refl
      where
        end : (c : Bool) → same_name q p ≡ c
            → cond c (Some v) (lookup (same_name q) es)
            ≡ cond c (Some v) (cond (same_name q e.0) (Some e.1) (lookup (same_name q) es))
        end true f = refl
        end false f =
            sym (ap (λ d. cond d (Some e.1) (lookup (same_name q) es))
            (ap (same_name q) (sym (same_name-true p e.0 is)) ∙ f))
    go false is h = end (same_name q e.0) refl
      where
        end : (c : Bool) → same_name q e.0 ≡ c
            → cond c (Some e.1) (lookup (same_name q) (insert_entry same_name es p v))
            ≡ cond (same_name q p) (Some v) (cond c (Some e.1) (lookup (same_name q) es))
        end false f = h
        end true f = other (same_name q p) refl
          where
            other : (d : Bool) → same_name q p ≡ d
                → Some e.1 ≡ cond d (Some v) (Some e.1)
            other false g = refl
            other true g =
                absurd (true≢false
                (sym (same_name-refl p e.0 (sym (same_name-true q p g) ∙ same_name-true q e.0 f))
                ∙ is))

pub count_after : (es : List (Name × ℕ)) (p q : Name) (n : ℕ)
    → count_of (insert_entry same_name es p n) q ≡ cond (same_name q p) n (count_of es q)
count_after es p q n = ap uses_counted (looked_up es p q n) ∙ go (same_name q p)
  where
    go : (b : Bool) → uses_counted (cond b (Some n) (lookup (same_name q) es))
        ≡ cond b n (count_of es q)
    go true = refl
    go false = refl

-- ---- what is counted

pub counted_here : (es : List (Name × ℕ)) (p : Name) (n : ℕ)
    → IsCounted (insert_entry same_name es p n) p
counted_here es p n = read_here _ (keys_of es) p (read_keys es p n)

pub counted_still : (es : List (Name × ℕ)) (p : Name) (n : ℕ)
    → StayCounted es (insert_entry same_name es p n)
counted_still es p n q h = read_still _ (keys_of es) p q (read_keys es p n) h

pub uncounted : (es : List (Name × ℕ)) (p : Name) → lookup (same_name p) es ≡ None
    → is_among (keys_of es) p ≡ false
uncounted es p h = sym (is_some-lookup (same_name p) es) ∙ ap is_some h

-- a path was counted before
pub counted_more : (ns : Space) (es : List (Name × ℕ)) (p : Name) (before n sum : ℕ)
    (waiting : List (List Expr)) → lookup (same_name p) es ≡ Some before
    → (sum ≤ 1 → sum ≡ before + n) → AreCounts ns (with_uses n p) es waiting
    → AreCounts ns never (insert_entry same_name es p sum) waiting
counted_more ns es p before n sum waiting there adds h = record { each = each }
  where
    keys : keys_of (insert_entry same_name es p sum) ≡ keys_of es
    keys =
        read_keys es p sum
        ∙ ap (λ b. cond b (keys_of es) (keys_of es ++ p ∷ []))
        (sym (is_some-lookup (same_name p) es) ∙ ap is_some there)

    each : (q : Name) → count_of (insert_entry same_name es p sum) q ≤ 1
        → occurs_of ns (keys_of (insert_entry same_name es p sum)) q
        ≤ count_of (insert_entry same_name es p sum) q + occurs_waiting waiting q + 0
    each q few = go (same_name q p) refl (count_after es p q sum) (h.each q)
      where
        same : occurs_of ns (keys_of (insert_entry same_name es p sum)) q
            ≡ occurs_of ns (keys_of es) q
        same = ap (λ ks. occurs_of ns ks q) keys

        go : (b : Bool) → same_name q p ≡ b
            → count_of (insert_entry same_name es p sum) q ≡ cond b sum (count_of es q)
            → (count_of es q ≤ 1 → occurs_of ns (keys_of es) q
            ≤ count_of es q + occurs_waiting waiting q + cond (same_name q p) n 0)
            → occurs_of ns (keys_of (insert_entry same_name es p sum)) q
            ≤ count_of (insert_entry same_name es p sum) q + occurs_waiting waiting q + 0
        go true is e old =
            let all = adds (omega (arith, e, few)) in
            let here = ap (λ r. uses_counted (lookup (same_name r) es)) (same_name-true q p is)
            ∙ ap uses_counted there in
            let uses = ap (λ c. cond c n 0) is in
            let bound = old (omega (arith, all, here, e, few)) in
            omega (arith, same, all, here, e, uses, bound)
        go false is e old =
            let uses = ap (λ c. cond c n 0) is in
            let bound = old (omega (arith, e, few)) in
            omega (arith, same, e, uses, bound)

-- a path wasn't counted before
pub counted_new : (ns : Space) (es : List (Name × ℕ)) (p : Name) (n : ℕ)
    (waiting more : List (List Expr)) → lookup (same_name p) es ≡ None
    → ((q : Name) → occurs_waiting waiting q + occurs_in q (source ns p) ≤ occurs_waiting more q)
    → AreCounts ns (with_uses n p) es waiting
    → AreCounts ns never (insert_entry same_name es p n) more
counted_new ns es p n waiting more none waits h = record { each = each }
  where
    keys : keys_of (insert_entry same_name es p n) ≡ keys_of es ++ p ∷ []
    keys =
        read_keys es p n
        ∙ ap (λ b. cond b (keys_of es) (keys_of es ++ p ∷ [])) (uncounted es p none)

    each : (q : Name) → count_of (insert_entry same_name es p n) q ≤ 1
        → occurs_of ns (keys_of (insert_entry same_name es p n)) q
        ≤ count_of (insert_entry same_name es p n) q + occurs_waiting more q + 0
    each q few = go (same_name q p) refl (count_after es p q n) (h.each q)
      where
        same : occurs_of ns (keys_of (insert_entry same_name es p n)) q
            ≡ occurs_of ns (keys_of es) q + occurs_in q (source ns p)
        same = ap (λ ks. occurs_of ns ks q) keys ∙ of_more ns (keys_of es) p q

        go : (b : Bool) → same_name q p ≡ b
            → count_of (insert_entry same_name es p n) q ≡ cond b n (count_of es q)
            → (count_of es q ≤ 1 → occurs_of ns (keys_of es) q
            ≤ count_of es q + occurs_waiting waiting q + cond (same_name q p) n 0)
            → occurs_of ns (keys_of (insert_entry same_name es p n)) q
            ≤ count_of (insert_entry same_name es p n) q + occurs_waiting more q + 0
        go true is e old =
            let here = ap (λ r. uses_counted (lookup (same_name r) es)) (same_name-true q p is)
            ∙ ap uses_counted none in
            let uses = ap (λ c. cond c n 0) is in
            let bound = old (omega (arith, here)) in
            let wait = waits q in
            omega (arith, same, here, e, uses, bound, wait)
        go false is e old =
            let uses = ap (λ c. cond c n 0) is in
            let bound = old (omega (arith, e, few)) in
            let wait = waits q in
            omega (arith, same, e, uses, bound, wait)

-- other expressions wait
pub counts_so : (ns : Space) (es : List (Name × ℕ)) (more left : Name → ℕ)
    (waiting next : List (List Expr))
    → ((q : Name) → occurs_waiting waiting q + more q ≤ occurs_waiting next q + left q)
    → AreCounts ns more es waiting → AreCounts ns left es next
counts_so ns es more left waiting next less h = record {
  each = λ q few. let bound = h.each q few in let waits = less q in omega (arith, bound, waits);
}

pub one_waiting : (waiting : List (List Expr)) (x : Expr) (q : Name)
    → occurs_waiting (waiting ++ (x ∷ []) ∷ []) q ≡ occurs_waiting waiting q + occurs q (tree_of x)
one_waiting waiting x q =
    let more = sum_by_push (λ xs. occurs_among xs q) waiting (x ∷ []) in omega (arith, more)

pub more_waiting : (waiting : List (List Expr)) (xs : List Expr) (q : Name)
    → occurs_waiting (waiting ++ xs ∷ []) q ≡ occurs_waiting waiting q + occurs_among xs q
more_waiting waiting xs q = sum_by_push (λ ys. occurs_among ys q) waiting xs

-- a sum that stays in range
pub adds_up : (a b sum : ℕ) → sum ≡ min (a + b) 4294967295 → sum ≤ 1 → sum ≡ a + b
adds_up a b sum is few = omega (arith, is, few)

-- ---- the paths that were read

pub named_on : (old new : List (Name × ℕ)) (rest : List Name) (p q : Name)
    → StayCounted old new → IsCounted new p
    → (is_among (keys_of old) q || is_among (p ∷ rest) q) ≡ true
    → (is_among (keys_of new) q || is_among rest q) ≡ true
named_on old new rest p q stay here h =
    go (is_among (keys_of old) q) refl (same_name q p) refl
  where
    left : is_among (keys_of new) q ≡ true → (is_among (keys_of new) q || is_among rest q) ≡ true
    left e = ap (λ b. b || is_among rest q) e

    right : (b c : Bool) → c ≡ true → (b || c) ≡ true
    right true c e = refl
    right false c e = e

    go : (b : Bool) → is_among (keys_of old) q ≡ b → (d : Bool) → same_name q p ≡ d
        → (is_among (keys_of new) q || is_among rest q) ≡ true
    go true e d f = left (stay q e)
    go false e true f = left (subst (IsCounted new) (sym (same_name-true q p f)) here)
    go false e false f =
        right (is_among (keys_of new) q) (is_among rest q)
        (sym (ap (λ b. b || is_among (p ∷ rest) q) e
        ∙ ap (λ b. b || is_among rest q) f) ∙ h)

none_left : (b : Bool) → (b || false) ≡ true → b ≡ true
none_left true h = refl
none_left false h = h

-- all was counted
pub covered : (ns : Space) (counts last : List (Name × ℕ)) (read : List (Name × Bor Stamped))
    (all : List (Name × Kept))
    → ((q : Name) → is_among (keys_of read) q ≡ true
    → (is_among (keys_of counts) q || is_among [] q) ≡ true)
    → StayCounted counts last → AreCounts ns never last [] → ((p : Name) → away all p ≡ 0)
    → Covers ns last read all
covered ns counts last read all named stay h unspent = record {
  each = λ p few. let bound = h.each p few in omega (arith, bound);
  reads = λ q x there r. stay q (none_left (is_among (keys_of counts) q) (named q r));
  few = λ p k. let none = unspent p in absurd (omega (arith, none, k));
}
