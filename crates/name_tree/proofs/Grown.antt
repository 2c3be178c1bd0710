-- The branches with an entry: in order, filled, and as long as the counts say.
use Rattle.std.proofs.Common.{ℕ, zero, suc, ◌+◌, ◌-◌, ◌<◌, ◌≤◌, ◌==◌, length, get_or, arith, ◌≡◌}
use Rattle.std.proofs.Common.{Bool, true, false, List, [], ◌∷◌, ◌++◌, append_assoc, None}
use Rattle.std.proofs.Common.{refl, sym, ap, ◌∙◌, cond, subst, take, drop, map, sum, fold}
use Rattle.std.proofs.Common.{is_none, length-append, true≢false}
use Rattle.std.proofs.lemmas.Bool.{eqb-true}
use Rattle.std.proofs.lemmas.List.{length-take-le, length-drop, append-nil}
use Rattle.std.proofs.lemmas.List.{take-append-drop}
use Rattle.std.specs.List.{AllByRecursion}
use Rattle.std.specs.List.Sorted.{IsStrictlySortedBy}
use Rattle.std.specs.Ordering.{match_ordering, is_eq}
use Rattle.std.specs.declared.cmp.Ordering.{Ordering}
use Rattle.std.specs.declared.cmp.Ordering.TheVariants.{Less, Equal, Greater}
use Rattle.omos_model.specs.Names.{same_name, name_cmp}
use Rattle.omos_model.specs.Namespace.{Space, look_up, with_entry}
use Rattle.omos_model.specs.declared.entry.Stamped.{Stamped}
use Rattle.omos_model.proofs.Names.{is_eq-name_cmp}
use Rattle.omos_model.proofs.Spaces.{Above, above-trans, paths}
use Rattle.name_tree.specs.Order.{IsInOrder}
use Rattle.name_tree.specs.Tree.{joined_pages, AreFilled, entries_of, IsTree, page_counts}
use Rattle.name_tree.specs.Tree.{branches_with, part_at, parted, pages_with}
use Rattle.name_tree.proofs.Parts.{Below, filled-some, before-part, after-part}
use Rattle.name_tree.proofs.Parts.{joined-split}
use Rattle.name_tree.proofs.Alone.{none_in, with_entry-between, joined-append, joined-with}
use Rattle.name_tree.proofs.Alone.{map-take, map-drop, get-joined, tree-some, branch-filled}
use Rattle.name_tree.proofs.Alone.{branch-in_order}

-- ---- a branch with an entry

entries_of-append : (xs ys : List (List Space))
    → entries_of (xs ++ ys) ≡ entries_of xs ++ entries_of ys
entries_of-append [] ys = refl
entries_of-append (x ∷ xs) ys =
    ap (λ l. joined_pages x ++ l) (entries_of-append xs ys)
    ∙ sym (append_assoc (joined_pages x) (entries_of xs) (entries_of ys))

entries_of-parted : (ps : List Space) → entries_of (parted ps) ≡ joined_pages ps
entries_of-parted ps = go (length ps == 65)
  where
    go : (b : Bool) → entries_of (cond b (take 32 ps ∷ drop 32 ps ∷ []) (ps ∷ [])) ≡ joined_pages ps
    go true =
        ap (λ l. joined_pages (take 32 ps) ++ l) (append-nil (joined_pages (drop 32 ps)))
        ∙ sym (joined-append (take 32 ps) (drop 32 ps)) ∙ ap joined_pages (take-append-drop 32 ps)
    go false = append-nil (joined_pages ps)

pub entries-with : (bs : List (List Space)) (s : Stamped) → IsTree bs
    → entries_of (branches_with bs s) ≡ with_entry (entries_of bs) s
entries-with bs s t =
    let at = part_at (map joined_pages bs) s.path in
    let branch = get_or bs at [] in
    let rest = drop (suc at) bs in
    let made = parted (pages_with branch s) in
    let new : joined_pages (pages_with branch s) ≡ with_entry (joined_pages branch) s =
    joined-with branch s (filled-some branch (branch-filled bs at t.pages_filled))
    (branch-in_order bs at t.in_order) in
    let below : Below s.path (entries_of (take at bs)) =
    subst (λ l. Below s.path (joined_pages l)) (map-take joined_pages at bs)
    (before-part s.path (map joined_pages bs) (tree-some bs t) t.in_order) in
    let above : Above s.path (paths (entries_of rest)) =
    subst (λ l. Above s.path (paths (joined_pages l))) (map-drop joined_pages (suc at) bs)
    (after-part s.path (map joined_pages bs) (tree-some bs t) t.in_order) in
    let split : entries_of bs ≡ entries_of (take at bs)
    ++ (joined_pages branch ++ entries_of rest) =
    joined-split (map joined_pages bs) at
    ∙ ap (λ l. joined_pages l
    ++ (get_or (map joined_pages bs) at []
    ++ joined_pages (drop (suc at) (map joined_pages bs))))
    (map-take joined_pages at bs)
    ∙ ap (λ l. entries_of (take at bs) ++ (l ++ joined_pages (drop (suc at) (map joined_pages bs))))
    (get-joined bs at)
    ∙ ap (λ l. entries_of (take at bs) ++ (joined_pages branch ++ joined_pages l))
    (map-drop joined_pages (suc at) bs) in
    entries_of-append (take at bs ++ made) rest
    ∙ ap (λ l. l ++ entries_of rest) (entries_of-append (take at bs) made
    ∙ ap (λ l. entries_of (take at bs) ++ l) (entries_of-parted (pages_with branch s) ∙ new))
    ∙ append_assoc (entries_of (take at bs)) (with_entry (joined_pages branch) s) (entries_of rest)
    ∙ sym (with_entry-between s (entries_of (take at bs)) (joined_pages branch) (entries_of rest)
    below
    above)
    ∙ ap (λ l. with_entry l s) (sym split)

-- ---- the counts

sum-from : (a : ℕ) (xs : List ℕ) → fold ◌+◌ a xs ≡ a + sum xs
sum-from a [] = let e : a ≡ a + 0 = omega arith in e
sum-from a (x ∷ xs) =
    let i : fold ◌+◌ (a + x) xs ≡ a + x + sum xs = sum-from (a + x) xs in
    let j : fold ◌+◌ (0 + x) xs ≡ 0 + x + sum xs = sum-from (0 + x) xs in
    let e : fold ◌+◌ (a + x) xs ≡ a + fold ◌+◌ (0 + x) xs = omega (arith, i, j) in
    e

pub sum-cons : (x : ℕ) (xs : List ℕ) → sum (x ∷ xs) ≡ x + sum xs
sum-cons x xs =
    let i : sum (x ∷ xs) ≡ 0 + x + sum xs = sum-from (0 + x) xs in omega (arith, i)

pub sum-page : (ps : List Space) → sum (map (λ p. length p) ps) ≡ length (joined_pages ps)
sum-page [] = refl
sum-page (p ∷ ps) =
    let i : sum (map (λ p. length p) ps) ≡ length (joined_pages ps) = sum-page ps in
    let l : length (p ++ joined_pages ps) ≡ length p + length (joined_pages ps) =
    length-append p (joined_pages ps) in
    let g : length p + sum (map (λ p. length p) ps) ≡ length (p ++ joined_pages ps) =
    omega (arith, i, l) in
    sum-cons (length p) (map (λ p. length p) ps) ∙ g

pub sum-counts : (bs : List (List Space))
    → sum (map (λ c. sum c) (page_counts bs)) ≡ length (entries_of bs)
sum-counts [] = refl
sum-counts (b ∷ bs) =
    let i : sum (map (λ c. sum c) (page_counts bs)) ≡ length (entries_of bs) = sum-counts bs in
    let j : sum (map (λ p. length p) b) ≡ length (joined_pages b) = sum-page b in
    let l : length (joined_pages b ++ entries_of bs)
    ≡ length (joined_pages b) + length (entries_of bs) =
    length-append (joined_pages b) (entries_of bs) in
    let g : sum (map (λ p. length p) b) + sum (map (λ c. sum c) (page_counts bs))
    ≡ length (joined_pages b ++ entries_of bs) = omega (arith, i, j, l) in
    sum-cons (sum (map (λ p. length p) b)) (map (λ c. sum c) (page_counts bs)) ∙ g

-- ---- a tree with an entry

pub all-append : {X : Type 0} (P : X → Type 0) (xs ys : List X) → AllByRecursion P xs
    → AllByRecursion P ys
    → AllByRecursion P (xs ++ ys)
all-append P [] ys h i = i
all-append P (x ∷ xs) ys h i = (h.0, all-append P xs ys h.1 i)

pub all-take : {X : Type 0} (P : X → Type 0) (k : ℕ) (xs : List X) → AllByRecursion P xs
    → AllByRecursion P (take k xs)
all-take P zero xs h = tt
all-take P (suc k) [] h = tt
all-take P (suc k) (x ∷ xs) h = (h.0, all-take P k xs h.1)

pub all-drop : {X : Type 0} (P : X → Type 0) (k : ℕ) (xs : List X) → AllByRecursion P xs
    → AllByRecursion P (drop k xs)
all-drop P zero xs h = h
all-drop P (suc k) [] h = tt
all-drop P (suc k) (x ∷ xs) h = all-drop P k xs h.1

pub parted-filled : {X : Type 0} (xs : List X) → 0 < length xs → length xs ≤ 65 → AreFilled (parted xs)
parted-filled xs lt le = go (length xs == 65) refl
  where
    go : (b : Bool) → (length xs == 65) ≡ b
        → AreFilled (cond b (take 32 xs ∷ drop 32 xs ∷ []) (xs ∷ []))
    go true e =
        let n : length xs ≡ 65 = eqb-true (length xs) 65 e in
        let t : length (take 32 xs) ≡ 32 = length-take-le 32 xs (omega (arith, n)) in
        let d : length (drop 32 xs) ≡ length xs - 32 = length-drop 32 xs in
        ((omega (arith, t), omega (arith, t)), ((omega (arith, d, n), omega (arith, d, n)), tt))
    go false e =
        let n : length xs ≡ 65 → ⊥ = λ n. true≢false (sym (rw n refl) ∙ e) in
        ((lt, small (length xs) le n), tt)
      where
        small : (n : ℕ) → n ≤ 65 → (n ≡ 65 → ⊥) → n ≤ 64
        small n le h = grind (arith, le, h)

pub parted-all : {X : Type 0} (P : X → Type 0) (xs : List X) → AllByRecursion P xs
    → AllByRecursion (λ ys. AllByRecursion P ys) (parted xs)
parted-all P xs h = go (length xs == 65)
  where
    go : (b : Bool)
        → AllByRecursion (λ ys. AllByRecursion P ys)
        (cond b (take 32 xs ∷ drop 32 xs ∷ []) (xs ∷ []))
    go true = (all-take P 32 xs h, (all-drop P 32 xs h, tt))
    go false = (h, tt)

pub parted-length : {X : Type 0} (xs : List X) → length (parted xs) ≤ 2
parted-length xs = go (length xs == 65)
  where
    go : (b : Bool) → length (cond b (take 32 xs ∷ drop 32 xs ∷ []) (xs ∷ [])) ≤ 2
    go true = omega arith
    go false = omega arith

pub parted-some : {X : Type 0} (xs : List X) → 0 < length (parted xs)
parted-some xs = go (length xs == 65)
  where
    go : (b : Bool) → 0 < length (cond b (take 32 xs ∷ drop 32 xs ∷ []) (xs ∷ []))
    go true = omega arith
    go false = omega arith

pub length-with : (ns : Space) (s : Stamped) → IsInOrder ns
    → length (with_entry ns s) ≡ length ns + cond (is_none (look_up ns s.path)) 1 0
unfolding IsStrictlySortedBy
length-with [] s o = refl
length-with (x ∷ xs) s o = go (name_cmp s.path x.path) refl (length-with xs s o.1)
  where
    go : (c : Ordering) → name_cmp s.path x.path ≡ c
        → length (with_entry xs s) ≡ length xs + cond (is_none (look_up xs s.path)) 1 0
        → length (match_ordering c (s ∷ x ∷ xs) (s ∷ xs) (x ∷ with_entry xs s))
        ≡ suc (length xs) + cond (is_none (look_up (x ∷ xs) s.path)) 1 0
    go Less e i =
        let n : look_up (x ∷ xs) s.path ≡ None =
        none_in s.path (x ∷ xs) (e, above-trans s.path x.path (paths xs) e o.0) in
        rw n (omega arith)
    go Equal e i =
        let n : same_name s.path x.path ≡ true = sym (is_eq-name_cmp s.path x.path) ∙ ap is_eq e in
        rw n (omega arith)
    go Greater e i =
        let n : same_name s.path x.path ≡ false = sym (is_eq-name_cmp s.path x.path) ∙ ap is_eq e in
        rw n (omega (arith, i))

pub with-length : (ns : Space) (s : Stamped) → (0 < length (with_entry ns s))
    × (length (with_entry ns s) ≤ length ns + 1)
with-length [] s = (omega arith, omega arith)
with-length (x ∷ xs) s = go (name_cmp s.path x.path) (with-length xs s).1
  where
    go : (c : Ordering) → length (with_entry xs s) ≤ length xs + 1
        → (0 < length (match_ordering c (s ∷ x ∷ xs) (s ∷ xs) (x ∷ with_entry xs s)))
        × (length (match_ordering c (s ∷ x ∷ xs) (s ∷ xs) (x ∷ with_entry xs s))
        ≤ suc (length xs) + 1)
    go Less i = (omega arith, omega arith)
    go Equal i = (omega arith, omega arith)
    go Greater i = (omega arith, omega (arith, i))
