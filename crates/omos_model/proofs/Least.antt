-- The least name that passes a test.
use Rattle.std.proofs.Common.{◌≡◌, Bool, true, false, ◌&&◌, List, [], ◌∷◌, Option, Some, None, refl}
use Rattle.std.proofs.Common.{sym, ap, ◌∙◌, subst, fold, cond, true≢false}
use Rattle.std.specs.Ordering.{is_lt, is_gt, ordering_reverse}
use Rattle.std.specs.declared.cmp.Ordering.{Ordering}
use Rattle.std.specs.declared.cmp.Ordering.TheVariants.{Less, Equal, Greater}
use Rattle.std.proofs.lemmas.Cmp.{nat_list_cmp_total, upto, tied_itself}
use Rattle.std.proofs.lemmas.Map.Lookups.{exact_bytes}
use Rattle.std.proofs.lemmas.Bool.{and_parts}
use Rattle.omos_model.specs.Names.{Name, same_name, name_cmp}
use Rattle.omos_model.specs.NameLists.{is_among, lesser, least, IsLeast}
use Rattle.omos_model.proofs.Names.{same_name-true}

-- what stands is not above n
abbrev UpTo : Option Name → Name → Type 0
UpTo None n = ⊥
UpTo (Some m) n = is_gt (name_cmp m n) ≡ false

abbrev Passes : (Name → Bool) → Option Name → Type 0
Passes test None = Unit {0}
Passes test (Some m) = test m ≡ true

lt-not-gt : (o : Ordering) → is_lt o ≡ true → is_gt o ≡ false
lt-not-gt Less h = refl
lt-not-gt Equal h = cc
lt-not-gt Greater h = cc

reverse-gt : (o : Ordering) → is_lt o ≡ false → is_gt (ordering_reverse o) ≡ false
reverse-gt Less h = cc
reverse-gt Equal h = refl
reverse-gt Greater h = refl

not_lt-not_gt : (x m : Name) → is_lt (name_cmp x m) ≡ false → is_gt (name_cmp m x) ≡ false
not_lt-not_gt x m h = ap is_gt (nat_list_cmp_total.antisymm m x) ∙ reverse-gt (name_cmp x m) h

itself : (x : Name) → is_gt (name_cmp x x) ≡ false
itself x = ap is_gt (tied_itself nat_list_cmp_total x)

keeps : (test : Name → Bool) (o : Option Name) (x n : Name) → UpTo o n → UpTo (lesser test o x) n
keeps test None x n h = absurd h
keeps test (Some m) x n h = go (test x && is_lt (name_cmp x m)) refl
  where
    go : (b : Bool) → (test x && is_lt (name_cmp x m)) ≡ b → UpTo (cond b (Some x) (Some m)) n
    go true e = upto nat_list_cmp_total x m n (lt-not-gt _ ((and_parts _ _ e).1)) h
    go false e = h

takes : (test : Name → Bool) (o : Option Name) (x : Name) → test x ≡ true → UpTo (lesser test o x) x
takes test None x h = rw h (itself x)
takes test (Some m) x h = go (is_lt (name_cmp x m)) refl
  where
    go : (b : Bool) → is_lt (name_cmp x m) ≡ b
        → UpTo (cond (test x && is_lt (name_cmp x m)) (Some x) (Some m)) x
    go true e = rw (h, e) (itself x)
    go false e = rw (h, e) (not_lt-not_gt x m e)

passes : (test : Name → Bool) (o : Option Name) (x : Name) → Passes test o
    → Passes test (lesser test o x)
passes test None x h = go (test x) refl
  where
    go : (b : Bool) → test x ≡ b → Passes test (cond b (Some x) None)
    go true e = e
    go false e = tt
passes test (Some m) x h = go (test x && is_lt (name_cmp x m)) refl
  where
    go : (b : Bool) → (test x && is_lt (name_cmp x m)) ≡ b → Passes test (cond b (Some x) (Some m))
    go true e = (and_parts _ _ e).0
    go false e = h

keeps_all : (test : Name → Bool) (o : Option Name) (xs : List Name) (n : Name) → UpTo o n
    → UpTo (fold (lesser test) o xs) n
keeps_all test o [] n h = h
keeps_all test o (x ∷ xs) n h = keeps_all test (lesser test o x) xs n (keeps test o x n h)

passes_all : (test : Name → Bool) (o : Option Name) (xs : List Name) → Passes test o
    → Passes test (fold (lesser test) o xs)
passes_all test o [] h = h
passes_all test o (x ∷ xs) h = passes_all test (lesser test o x) xs (passes test o x h)

takes_all : (test : Name → Bool) (o : Option Name) (xs : List Name) (n : Name)
    → is_among xs n ≡ true → test n ≡ true → UpTo (fold (lesser test) o xs) n
takes_all test o [] n a h = cc
takes_all test o (x ∷ xs) n a h =
    go (same_name n x) refl (λ b. takes_all test (lesser test o x) xs n b h)
  where
    go : (b : Bool) → same_name n x ≡ b
        → (is_among xs n ≡ true → UpTo (fold (lesser test) (lesser test o x) xs) n)
        → UpTo (fold (lesser test) (lesser test o x) xs) n
    go true e k =
        keeps_all test (lesser test o x) xs n
        (subst (λ m. UpTo (lesser test o x) m) (sym (same_name-true n x e))
        (takes test o x (subst (λ m. test m ≡ true) (same_name-true n x e) h)))
    go false e k = k (rw e at a)

-- where each name that passes is in the list, the least of the list is the least of all
pub least-IsLeast : (test : Name → Bool) (xs : List Name)
    → ((n : Name) → test n ≡ true → is_among xs n ≡ true) → IsLeast test (least test xs)
least-IsLeast test xs all =
    go (least test xs) (passes_all test None xs tt) (λ n h. takes_all test None xs n (all n h) h)
  where
    no : (n : Name) (b : Bool) → test n ≡ b → ((test n ≡ true) → ⊥) → test n ≡ false
    no n true e k = absurd (k e)
    no n false e k = e

    go : (o : Option Name) → Passes test o → ((n : Name) → test n ≡ true → UpTo o n)
        → IsLeast test o
    go None p k = λ n. no n (test n) refl (k n)
    go (Some m) p k = (p, k)

same_from : (o : Ordering) → is_gt o ≡ false → is_gt (ordering_reverse o) ≡ false → o ≡ Equal
same_from Less h k = cc
same_from Equal h k = refl
same_from Greater h k = cc

-- there is one
pub IsLeast-unique : (test : Name → Bool) (o p : Option Name) → IsLeast test o → IsLeast test p
    → o ≡ p
IsLeast-unique test None None h k = refl
IsLeast-unique test None (Some m) h k = absurd (true≢false (sym k.0 ∙ h m))
IsLeast-unique test (Some m) None h k = absurd (true≢false (sym h.0 ∙ k m))
IsLeast-unique test (Some m) (Some l) h k =
    ap Some (exact_bytes m l
    (same_from (name_cmp m l) (h.1 l k.0) (sym (ap is_gt (nat_list_cmp_total.antisymm l m))
    ∙ k.1 m h.0)))
