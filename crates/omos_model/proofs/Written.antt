-- Every name that is defined is written somewhere, so the conflict of a merge is the least of all.
use Rattle.std.proofs.Common.{◌≡◌, ℕ, Bool, true, false, ◌||◌, List, [], ◌∷◌, Option, Some, None}
use Rattle.std.proofs.Common.{refl, sym, ◌∙◌, ◌⊎◌, inl, inr, fold, map, true≢false}
use Rattle.std.specs.Prelude.{is_some}
use Rattle.std.proofs.lemmas.List.Folds.{list_any-append}
use Rattle.std.proofs.lemmas.Bool.{and_parts, or_left, or_right}
use Rattle.omos_model.specs.Names.{Name, same_name}
use Rattle.omos_model.specs.Op.{Op, Rename, Restrict, Freeze, Hide, Show, CopyAs}
use Rattle.omos_model.specs.NameLists.{is_among, lesser}
use Rattle.omos_model.specs.Term.{Term, Leaf, Merge, Override, Apply}
use Rattle.omos_model.specs.Definition.{Meaning, definition, defined_by, exported, is_defined}
use Rattle.omos_model.specs.Definition.{written, given_by}
use Rattle.omos_model.specs.Laws.{ConflictLaw}
use Rattle.omos_model.specs.declared.fragment.Export.{Export}
use Rattle.omos_model.proofs.Joined.{or_some}
use Rattle.omos_model.proofs.Least.{least-IsLeast}
use Rattle.omos_model.proofs.Names.{same_name-refl, same_name-swap}

-- a test on names that holds of what is found or of the rest
leaf_written : (leaf : ℕ) (xs : List Export) (n : Name) → is_some (exported leaf xs n) ≡ true
    → is_among (map (λ x. x.name) xs) n ≡ true
leaf_written leaf [] n h = h
leaf_written leaf (x ∷ xs) n h = go (same_name n x.name) refl (leaf_written leaf xs n)
  where
    go : (b : Bool) → same_name n x.name ≡ b
        → (is_some (exported leaf xs n) ≡ true → is_among (map (λ y. y.name) xs) n ≡ true)
        → (same_name n x.name || is_among (map (λ y. y.name) xs) n) ≡ true
    go true e k = rw e refl
    go false e k = rw e (k (rw e at h))

-- where an operator defines n, it gives n or n was defined
given_or_below : (op : Op) (u : Meaning) (n : Name) → is_some (defined_by op u n) ≡ true
    → (is_among (given_by op) n ≡ true) ⊎ (is_some (u n) ≡ true)
given_or_below (Rename a b) u n h =
    go (is_some (u a)) (same_name b n) (same_name a n) refl refl refl
  where
    go : (p q r : Bool) → is_some (u a) ≡ p → same_name b n ≡ q → same_name a n ≡ r
        → ((same_name n b || false) ≡ true) ⊎ (is_some (u n) ≡ true)
    go false q r e f g = inr (rw e at h)
    go true true r e f g = inl (or_left _ false (same_name-swap n b ∙ f))
    go true false true e f g = absurd (true≢false (sym (rw (e, f, g) at h)))
    go true false false e f g = inr (rw (e, f, g) at h)
given_or_below (Restrict a) u n h = go (same_name a n) refl
  where
    go : (r : Bool) → same_name a n ≡ r → (false ≡ true) ⊎ (is_some (u n) ≡ true)
    go true g = absurd (true≢false (sym (rw g at h)))
    go false g = inr (rw g at h)
given_or_below (Freeze a) u n h = inr h
given_or_below (Hide a) u n h = go (same_name a n) refl
  where
    go : (r : Bool) → same_name a n ≡ r → (false ≡ true) ⊎ (is_some (u n) ≡ true)
    go true g = absurd (true≢false (sym (rw g at h)))
    go false g = inr (rw g at h)
given_or_below (Show names) u n h = go (is_among names n) refl
  where
    go : (r : Bool) → is_among names n ≡ r → (false ≡ true) ⊎ (is_some (u n) ≡ true)
    go true g = inr (rw g at h)
    go false g = absurd (true≢false (sym (rw g at h)))
given_or_below (CopyAs a b) u n h = go (same_name b n) refl
  where
    go : (q : Bool) → same_name b n ≡ q → ((same_name n b || false) ≡ true) ⊎ (is_some (u n) ≡ true)
    go true f = inl (or_left _ false (same_name-swap n b ∙ f))
    go false f = inr (rw f at h)

or_swap : (p q : Bool) → (q || p) ≡ true → (p || q) ≡ true
or_swap true q h = refl
or_swap false true h = refl
or_swap false false h = h

pub written_all : (t : Term) (n : Name) → is_defined t n ≡ true → is_among (written t) n ≡ true
written_all (Leaf s leaf f) n h = leaf_written leaf f.exports n h
written_all (Merge s l r) n h =
    list_any-append _ (written l) (written r)
    ∙ or_some (definition l n) (definition r n) _ _ (written_all l n) (written_all r n) h
written_all (Override s l r) n h =
    list_any-append _ (written l) (written r)
    ∙ or_swap (is_among (written l) n) (is_among (written r) n)
    (or_some (definition r n) (definition l n) _ _ (written_all r n) (written_all l n) h)
written_all (Apply s op u) n h =
    list_any-append _ (given_by op) (written u)
    ∙ elim (given_or_below op (definition u) n h)
    [ inl e ↦ or_left _ _ e | inr e ↦ or_right _ _ (written_all u n e) ]

-- `conflict` is the least name of all that both define
pub conflict-IsLeast : ConflictLaw
conflict-IsLeast l r = least-IsLeast _ (written l) (λ n h. written_all l n ((and_parts _ _ h).0))

lesser_same : (p q : Name → Bool) (o : Option Name) (x : Name) → p x ≡ q x
    → lesser p o x ≡ lesser q o x
lesser_same p q None x e = rw e refl
lesser_same p q (Some m) x e = rw e refl

-- tests that agree on the list have one least
pub least_same : (p q : Name → Bool) (o : Option Name) (xs : List Name)
    → ((n : Name) → is_among xs n ≡ true → p n ≡ q n) → fold (lesser p) o xs ≡ fold (lesser q) o xs
least_same p q o [] h = refl
least_same p q o (x ∷ xs) h =
    rw (lesser_same p q o x (h x (or_left _ _ (same_name-refl x x refl))))
    (least_same p q (lesser q o x) xs (λ n a. h n (or_right _ _ a)))
