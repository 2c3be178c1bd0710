-- How often paths are named, as paths are read.
use Rattle.std.proofs.Common.{◌≡◌, ◌∙◌, ℕ, ◌+◌, ◌≤◌, Bool, true, false, cond, ◌||◌, List, [], ◌∷◌}
use Rattle.std.proofs.Common.{◌++◌, zero, suc, refl, sym, ap, arith, true≢false}
use Rattle.std.specs.List.{sum_by, IsDistinct}
use Rattle.std.proofs.lemmas.List.Sums.{sum_by-append, sum_by-cons}
use Rattle.std.proofs.lemmas.List.Folds.{list_any-append}
use Rattle.std.proofs.lemmas.Map.Keys.{IsDistinct-head, IsDistinct-tail}
use Rattle.std.specs.List.{AllByRecursion}
use Rattle.omos_model.specs.Expansion.{source}
use Rattle.omos_model.specs.Names.{Name, same_name}
use Rattle.omos_model.specs.NameLists.{is_among}
use Rattle.omos_model.specs.Namespace.{Space}
use Rattle.omos_model.proofs.Names.{same_name-refl, same_name-true}
use Rattle.module_eval.specs.inside.Times.{occurs_in, occurs_of, occurs_at, occurs_left}
use Rattle.module_eval.specs.declared.pending.Pending.{Pending}

-- ---- pending nodes

pub left_more : (all outside : List Pending) (node : Pending) (p : Name)
    → all ≡ outside ++ node ∷ [] → occurs_left all p ≡ occurs_left outside p + occurs_at p node
left_more all outside node p is =
    let more = sum_by-append (occurs_at p) outside (node ∷ []) in
    let one = sum_by-cons (occurs_at p) node [] in
    let same = ap (λ ps. occurs_left ps p) is in
    omega (arith, more, one, same)

-- ---- paths that are read

pub of_more : (ns : Space) (ks : List Name) (q p : Name)
    → occurs_of ns (ks ++ q ∷ []) p ≡ occurs_of ns ks p + occurs_in p (source ns q)
of_more ns ks q p =
    let weight : Name → ℕ = λ r. occurs_in p (source ns r) in
    let more = sum_by-append weight ks (q ∷ []) in
    let one = sum_by-cons weight q [] in
    omega (arith, more, one)

pub of_grows : (ns : Space) (ks old : List Name) (q p : Name)
    → ks ≡ cond (is_among old q) old (old ++ q ∷ []) → occurs_of ns old p ≤ occurs_of ns ks p
of_grows ns ks old q p is = go (is_among old q) (ap (λ rs. occurs_of ns rs p) is)
  where
    go : (b : Bool) → occurs_of ns ks p ≡ occurs_of ns (cond b old (old ++ q ∷ [])) p
        → occurs_of ns old p ≤ occurs_of ns ks p
    go true e = omega (arith, e)
    go false e = let more = of_more ns old q p in omega (arith, e, more)

pub of_fresh : (ns : Space) (ks old : List Name) (q p : Name)
    → ks ≡ cond (is_among old q) old (old ++ q ∷ []) → is_among old q ≡ false
    → occurs_of ns old p + occurs_in p (source ns q) ≤ occurs_of ns ks p
of_fresh ns ks old q p is out =
    let same = ap (λ rs. occurs_of ns rs p) (is ∙ ap (λ b. cond b old (old ++ q ∷ [])) out) in
    let more = of_more ns old q p in
    omega (arith, same, more)

-- a path that is read is there
pub read_here : (ks old : List Name) (p : Name) → ks ≡ cond (is_among old p) old (old ++ p ∷ [])
    → is_among ks p ≡ true
read_here ks old p is = ap (λ qs. is_among qs p) is ∙ go (is_among old p) refl
  where
    go : (b : Bool) → is_among old p ≡ b → is_among (cond b old (old ++ p ∷ [])) p ≡ true
    go true e = e
    go false e =
        list_any-append (same_name p) old (p ∷ [])
        ∙ ap (λ b. is_among old p || (b || false)) (same_name-refl p p refl)
        ∙ end (is_among old p)
      where
        end : (b : Bool) → (b || true) ≡ true
        end true = refl
        end false = refl

-- what one of the paths names is named by all of them
pub of_member : (ns : Space) (ks : List Name) (q p : Name) → is_among ks q ≡ true
    → occurs_in p (source ns q) ≤ occurs_of ns ks p
of_member ns [] q p h = absurd (true≢false (sym h))
of_member ns (k ∷ ks) q p h = go (same_name q k) refl (of_member ns ks q p)
  where
    first : occurs_of ns (k ∷ ks) p ≡ occurs_in p (source ns k) + occurs_of ns ks p
    first = sum_by-cons (λ r. occurs_in p (source ns r)) k ks

    go : (b : Bool) → same_name q k ≡ b
        → (is_among ks q ≡ true → occurs_in p (source ns q) ≤ occurs_of ns ks p)
        → occurs_in p (source ns q) ≤ occurs_of ns (k ∷ ks) p
    go true e later =
        let same = ap (λ r. occurs_in p (source ns r)) (same_name-true q k e) in
        omega (arith, first, same)
    go false e later =
        let rest = later (sym (ap (λ b. b || is_among ks q) e) ∙ h) in
        omega (arith, first, rest)

-- ---- a sum over some of the paths

abbrev without : Name → List Name → List Name
without q [] = []
without q (k ∷ ks) = cond (same_name q k) ks (k ∷ without q ks)

sum_without : (w : Name → ℕ) (q : Name) (ks : List Name) → is_among ks q ≡ true
    → sum_by w ks ≡ w q + sum_by w (without q ks)
sum_without w q [] h = absurd (true≢false (sym h))
sum_without w q (k ∷ ks) h = go (same_name q k) refl (sum_without w q ks)
  where
    go : (b : Bool) → same_name q k ≡ b
        → (is_among ks q ≡ true → sum_by w ks ≡ w q + sum_by w (without q ks))
        → sum_by w (k ∷ ks) ≡ w q + sum_by w (cond b ks (k ∷ without q ks))
    go true e later =
        let first = sum_by-cons w k ks in
        let same = ap w (same_name-true q k e) in
        omega (arith, first, same)
    go false e later =
        let first = sum_by-cons w k ks in
        let second = sum_by-cons w k (without q ks) in
        let rest = later (sym (ap (λ b. b || is_among ks q) e) ∙ h) in
        omega (arith, first, second, rest)

among_without : (q r : Name) (ks : List Name) → same_name q r ≡ false → is_among ks r ≡ true
    → is_among (without q ks) r ≡ true
among_without q r [] out h = h
among_without q r (k ∷ ks) out h =
    go (same_name q k) refl (same_name r k) refl (among_without q r ks out)
  where
    go : (b : Bool) → same_name q k ≡ b → (c : Bool) → same_name r k ≡ c
        → (is_among ks r ≡ true → is_among (without q ks) r ≡ true)
        → is_among (cond b ks (k ∷ without q ks)) r ≡ true
    go true e true f later =
        absurd (true≢false
        (sym (same_name-refl q r (same_name-true q k e ∙ sym (same_name-true r k f))) ∙ out))
    go true e false f later = sym (ap (λ b. b || is_among ks r) f) ∙ h
    go false e true f later = ap (λ b. b || is_among (without q ks) r) f
    go false e false f later =
        ap (λ b. b || is_among (without q ks) r) f
        ∙ later (sym (ap (λ b. b || is_among ks r) f) ∙ h)

apart : (q r : Name) (ks : List Name) → AllByRecursion (λ k. same_name q k ≡ false) ks
    → is_among ks r ≡ true → same_name q r ≡ false
apart q r [] h k = absurd (true≢false (sym k))
apart q r (x ∷ xs) h k = go (same_name r x) refl (apart q r xs h.1)
  where
    go : (b : Bool) → same_name r x ≡ b → (is_among xs r ≡ true → same_name q r ≡ false)
        → same_name q r ≡ false
    go true e later = ap (same_name q) (same_name-true r x e) ∙ h.0
    go false e later = later (sym (ap (λ b. b || is_among xs r) e) ∙ k)

-- a sum over distinct paths is no more than one over more paths, where those that are left out
-- weigh nothing
pub sum_within : (w : Name → ℕ) (xs ys : List Name) → IsDistinct same_name xs
    → ((q : Name) → is_among xs q ≡ true → 1 ≤ w q → is_among ys q ≡ true)
    → sum_by w xs ≤ sum_by w ys
sum_within w [] ys once in_ys = omega arith
sum_within w (x ∷ xs) ys once in_ys =
    go (w x) refl (λ zs. sum_within w xs zs (IsDistinct-tail same_name x xs once))
  where
    first : sum_by w (x ∷ xs) ≡ w x + sum_by w xs
    first = sum_by-cons w x xs

    later : (q : Name) → is_among xs q ≡ true → is_among (x ∷ xs) q ≡ true
    later q h = end (same_name q x)
      where
        end : (b : Bool) → (b || is_among xs q) ≡ true
        end true = refl
        end false = h

    go : (n : ℕ) → w x ≡ n
        → ((zs : List Name) → ((q : Name) → is_among xs q ≡ true → 1 ≤ w q → is_among zs q ≡ true)
        → sum_by w xs ≤ sum_by w zs)
        → sum_by w (x ∷ xs) ≤ sum_by w ys
    go zero e rest =
        let less = rest ys (λ q h k. in_ys q (later q h) k) in
        omega (arith, first, e, less)
    go (suc n) e rest =
        let here = in_ys x (ap (λ b. b || is_among xs x) (same_name-refl x x refl))
        (omega (arith, e)) in
        let parts = sum_without w x ys here in
        let less = rest (without x ys)
        (λ q h k. among_without x q ys
        (apart x q xs (IsDistinct-head same_name x xs once) h) (in_ys q (later q h) k)) in
        omega (arith, first, parts, less)
