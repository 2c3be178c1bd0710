-- What a namespace has after its publishes.
use Rattle.std.proofs.Common.{ℕ, suc, ◌+◌, length, length-append, arith}
use Rattle.std.proofs.Common.{◌≡◌, Bool, true, false, List, [], ◌∷◌, ◌++◌, Option, Some, None, refl}
use Rattle.std.proofs.Common.{sym, ap, ◌∙◌, fold, cond, map, reverse, take, subst, true≢false}
use Rattle.std.specs.List.{find, AllByRecursion}
use Rattle.std.specs.List.Sorted.{IsStrictlySortedBy}
use Rattle.std.specs.Option.{option_or}
use Rattle.std.specs.Ordering.{match_ordering, is_eq, ordering_reverse}
use Rattle.std.specs.declared.cmp.Ordering.{Ordering}
use Rattle.std.specs.declared.cmp.Ordering.TheVariants.{Less, Equal, Greater}
use Rattle.std.proofs.lemmas.Cmp.{nat_list_cmp_total}
use Rattle.std.proofs.lemmas.List.{reverse-append, take_all, take-append-le}
use Rattle.std.proofs.lemmas.List.Folds.{find-append}
use Rattle.std.proofs.lemmas.Map.Lookups.{exact_bytes}
use Rattle.omos_model.specs.Names.{Name, same_name, name_cmp}
use Rattle.omos_model.specs.Laws.{LastPutLaw, OrderLaw, NextVersionLaw, OldVersionsLaw}
use Rattle.omos_model.specs.Namespace.{Space, look_up, with_entry, stamped_from}
use Rattle.omos_model.specs.declared.entry.Entry.{Entry}
use Rattle.omos_model.specs.declared.entry.Stamped.{Stamped}
use Rattle.omos_model.proofs.Joined.{option_or_None}
use Rattle.omos_model.proofs.Names.{same_name-true, same_name-refl, is_eq-name_cmp}

-- the later of two that are looked for, where they aren't the same
swapped : {X : Type 0} (a b : Bool) (x y : X) (o : Option X) → (a ≡ true → b ≡ true → ⊥)
    → cond a (Some x) (cond b (Some y) o) ≡ cond b (Some y) (cond a (Some x) o)
swapped true true x y o h = absurd (h refl refl)
swapped true false x y o h = refl
swapped false b x y o h = refl

pub look_up-with_entry : (ns : Space) (s : Stamped) (p : Name)
    → look_up (with_entry ns s) p ≡ cond (same_name p s.path) (Some s) (look_up ns p)
look_up-with_entry [] s p = refl
look_up-with_entry (x ∷ xs) s p = go (name_cmp s.path x.path) refl (look_up-with_entry xs s p)
  where
    go : (o : Ordering) → name_cmp s.path x.path ≡ o
        → look_up (with_entry xs s) p ≡ cond (same_name p s.path) (Some s) (look_up xs p)
        → look_up (match_ordering o (s ∷ x ∷ xs) (s ∷ xs) (x ∷ with_entry xs s)) p
        ≡ cond (same_name p s.path) (Some s) (look_up (x ∷ xs) p)
    go Less e i = refl
    go Equal e i = again (same_name p s.path) refl
      where
        again : (b : Bool) → same_name p s.path ≡ b
            → cond b (Some s) (look_up xs p)
            ≡ cond b (Some s) (cond (same_name p x.path) (Some x) (look_up xs p))
        again true d = refl
        again false d = rw (sym (ap (same_name p) (exact_bytes s.path x.path e)) ∙ d) refl
    go Greater e i =
        ap (λ o. cond (same_name p x.path) (Some x) o) i
        ∙ swapped (same_name p x.path) (same_name p s.path) x s (look_up xs p)
        (λ a b. true≢false
        (sym (same_name-refl s.path x.path (sym (same_name-true p s.path b)
        ∙ same_name-true p x.path a)) ∙ sym (is_eq-name_cmp s.path x.path) ∙ ap is_eq e))

option_or_find : {X : Type 0} (f o : Option X) (b : Bool) (x : X)
    → option_or f (cond b (Some x) o) ≡ option_or (option_or f (cond b (Some x) None)) o
option_or_find (Some y) o b x = refl
option_or_find None o true x = refl
option_or_find None o false x = refl

after_all : (ss : List Stamped) (ns : Space) (p : Name)
    → look_up (fold with_entry ns ss) p ≡ option_or (find (λ s. same_name p s.path) (reverse ss))
    (look_up ns p)
after_all [] ns p = refl
after_all (s ∷ ss) ns p =
    let test : Stamped → Bool = λ t. same_name p t.path in
    let back : reverse (s ∷ ss) ≡ reverse ss ++ s ∷ [] = reverse-append (s ∷ []) ss in
    let found : find test (reverse (s ∷ ss))
    ≡ option_or (find test (reverse ss)) (cond (test s) (Some s) None) =
    ap (find test) back ∙ find-append test (reverse ss) (s ∷ []) in
    after_all ss (with_entry ns s) p
    ∙ ap (λ o. option_or (find test (reverse ss)) o) (look_up-with_entry ns s p)
    ∙ option_or_find (find test (reverse ss)) (look_up ns p) (test s) s
    ∙ ap (λ o. option_or o (look_up ns p)) (sym found)

pub last_put_law : LastPutLaw
last_put_law puts v p = after_all (stamped_from 1 (take v puts)) [] p ∙ option_or_None _

-- ---- the order of paths

abbrev pub paths : Space → List Name
paths ns = map (λ s. s.path) ns

-- the path is below all of these
abbrev pub Above : Name → List Name → Type 0
Above p ps = AllByRecursion (λ q. name_cmp p q ≡ Less) ps

pub above-trans : (p q : Name) (ps : List Name) → name_cmp p q ≡ Less → Above q ps → Above p ps
above-trans p q [] e h = tt
above-trans p q (x ∷ xs) e h = (nat_list_cmp_total.trans p q x e h.0, above-trans p q xs e h.1)

above-with_entry : (p : Name) (ns : Space) (s : Stamped) → name_cmp p s.path ≡ Less
    → Above p (paths ns) → Above p (paths (with_entry ns s))
above-with_entry p [] s e h = (e, tt)
above-with_entry p (x ∷ xs) s e h = go (name_cmp s.path x.path) (above-with_entry p xs s e h.1)
  where
    go : (o : Ordering) → Above p (paths (with_entry xs s))
        → Above p (paths (match_ordering o (s ∷ x ∷ xs) (s ∷ xs) (x ∷ with_entry xs s)))
    go Less i = (e, h)
    go Equal i = (e, h.1)
    go Greater i = (h.0, i)

pub IsStrictlySortedBy-with_entry : (ns : Space) (s : Stamped)
    → IsStrictlySortedBy name_cmp (paths ns)
    → IsStrictlySortedBy name_cmp (paths (with_entry ns s))
unfolding IsStrictlySortedBy
IsStrictlySortedBy-with_entry [] s h = (tt, tt)
IsStrictlySortedBy-with_entry (x ∷ xs) s h =
    go (name_cmp s.path x.path) refl (IsStrictlySortedBy-with_entry xs s h.1)
  where
    go : (o : Ordering) → name_cmp s.path x.path ≡ o
        → IsStrictlySortedBy name_cmp (paths (with_entry xs s))
        → IsStrictlySortedBy name_cmp
        (paths (match_ordering o (s ∷ x ∷ xs) (s ∷ xs) (x ∷ with_entry xs s)))
    go Less e i = ((e, above-trans s.path x.path (paths xs) e h.0), h)
    go Equal e i = (subst (λ p. Above p (paths xs)) (sym (exact_bytes s.path x.path e)) h.0, h.1)
    go Greater e i = (
      above-with_entry x.path xs s (nat_list_cmp_total.antisymm x.path s.path
          ∙ ap ordering_reverse e) h.0,
      i,
    )

sorted_after_all : (ss : List Stamped) (ns : Space) → IsStrictlySortedBy name_cmp (paths ns)
    → IsStrictlySortedBy name_cmp (paths (fold with_entry ns ss))
sorted_after_all [] ns h = h
sorted_after_all (s ∷ ss) ns h =
    sorted_after_all ss (with_entry ns s) (IsStrictlySortedBy-with_entry ns s h)

pub order_law : OrderLaw
unfolding IsStrictlySortedBy
order_law puts v = sorted_after_all (stamped_from 1 (take v puts)) [] tt

-- ---- versions

fold-append : {A B : Type 0} (f : B → A → B) (b : B) (xs ys : List A)
    → fold f b (xs ++ ys) ≡ fold f (fold f b xs) ys
fold-append f b [] ys = refl
fold-append f b (x ∷ xs) ys = fold-append f (f b x) xs ys

stamped_from-append : (n : ℕ) (xs ys : List (Name × Entry))
    → stamped_from n (xs ++ ys) ≡ stamped_from n xs ++ stamped_from (n + length xs) ys
stamped_from-append n [] ys = let e : n ≡ n + 0 = omega arith in ap (λ m. stamped_from m ys) e
stamped_from-append n (x ∷ xs) ys =
    let e : n + 1 + length xs ≡ n + suc (length xs) = omega arith in
    ap (λ ss. record { path = x.0; stamp = n; entry = x.1 } ∷ ss)
    (stamped_from-append (n + 1) xs ys ∙ ap (λ m. stamped_from (n + 1) xs ++ stamped_from m ys) e)

abbrev made_of : List (Name × Entry) → Space
made_of puts = fold with_entry [] (stamped_from 1 puts)

pub next_version_law : NextVersionLaw
next_version_law puts path entry =
    let put : Name × Entry = (path, entry) in
    let whole : take (length puts + 1) (puts ++ put ∷ []) ≡ puts ++ put ∷ [] =
    take_all (length puts + 1) (puts ++ put ∷ []) (omega (arith, length-append puts (put ∷ []))) in
    let old : take (length puts) puts ≡ puts = take_all (length puts) puts (omega arith) in
    let stamp : 1 + length puts ≡ length puts + 1 = omega arith in
    ap made_of whole
    ∙ ap (fold with_entry []) (stamped_from-append 1 puts (put ∷ []))
    ∙ fold-append with_entry [] (stamped_from 1 puts) (stamped_from (1 + length puts) (put ∷ []))
    ∙ ap (λ n. with_entry (made_of puts) (record { path = path; stamp = n; entry = entry })) stamp
    ∙ ap (λ ps. with_entry (made_of ps)
    (record { path = path; stamp = length puts + 1; entry = entry })) (sym old)

pub old_versions_law : OldVersionsLaw
old_versions_law puts more v h = ap made_of (take-append-le v puts more h)
