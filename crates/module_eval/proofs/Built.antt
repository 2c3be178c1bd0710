-- What is kept after one more is.
use Rattle.std.proofs.Common.{◌≡◌, ◌∙◌, Bool, true, false, cond, List, [], ◌∷◌, Some, None, refl}
use Rattle.std.proofs.Common.{sym, ap, true≢false}
use Rattle.std.specs.Prelude.{is_some}
use Rattle.std.specs.Map.{lookup}
use Rattle.indexmap.specs.IndexMap.{insert_entry}
use Rattle.omos_model.specs.Names.{Name, same_name}
use Rattle.omos_model.proofs.Names.{same_name-refl}
use Rattle.module_eval.specs.Costs.{is_built}
use Rattle.module_eval.specs.declared.memo.Kept.{Kept}

pub built_here : (all : List (Name × Kept)) (p : Name) (kept : Kept)
    → is_built (insert_entry same_name all p kept) p ≡ true
built_here [] p kept = ap (λ b. is_some (cond b (Some kept) None)) (same_name-refl p p refl)
built_here (e ∷ es) p kept = go (same_name p e.0) refl (built_here es p kept)
  where
    go : (b : Bool) → same_name p e.0 ≡ b → is_built (insert_entry same_name es p kept) p ≡ true
        → is_built (cond b ((e.0, kept) ∷ es) (e ∷ insert_entry same_name es p kept)) p ≡ true
    go true is h = ap (λ b. is_some (cond b (Some kept) (lookup (same_name p) es))) is
    go false is h =
        ap (λ b. is_some
        (cond b (Some e.1) (lookup (same_name p) (insert_entry same_name es p kept)))) is ∙ h

pub built_still : (all : List (Name × Kept)) (p : Name) (kept : Kept) (q : Name)
    → is_built all q ≡ true → is_built (insert_entry same_name all p kept) q ≡ true
built_still [] p kept q h = absurd (true≢false (sym h))
built_still (e ∷ es) p kept q h =
    go (same_name p e.0) (same_name q e.0) refl h (built_still es p kept q)
  where
    go : (b c : Bool) → same_name q e.0 ≡ c → is_some (cond c (Some e.1) (lookup (same_name q) es))
        ≡ true
        → (is_built es q ≡ true → is_built (insert_entry same_name es p kept) q ≡ true)
        → is_built (cond b ((e.0, kept) ∷ es) (e ∷ insert_entry same_name es p kept)) q ≡ true
    go true true f k i = ap (λ d. is_some (cond d (Some kept) (lookup (same_name q) es))) f
    go true false f k i = ap (λ d. is_some (cond d (Some kept) (lookup (same_name q) es))) f ∙ k
    go false true f k i =
        ap (λ d. is_some
        (cond d (Some e.1) (lookup (same_name q) (insert_entry same_name es p kept)))) f
    go false false f k i =
        ap (λ d. is_some
        (cond d (Some e.1) (lookup (same_name q) (insert_entry same_name es p kept)))) f ∙ i k

-- nothing else is kept
pub built_only : (all : List (Name × Kept)) (p : Name) (kept : Kept) (q : Name)
    → same_name q p ≡ false → is_built (insert_entry same_name all p kept) q ≡ true
    → is_built all q ≡ true
built_only [] p kept q out h =
    absurd (true≢false (sym h ∙ ap (λ b. is_some (cond b (Some kept) None)) out))
built_only (e ∷ es) p kept q out h =
    go (same_name p e.0) (same_name q e.0) refl refl h (built_only es p kept q out)
  where
    go : (b c : Bool) → same_name p e.0 ≡ b → same_name q e.0 ≡ c
        → is_built (cond b ((e.0, kept) ∷ es) (e ∷ insert_entry same_name es p kept)) q ≡ true
        → (is_built (insert_entry same_name es p kept) q ≡ true → is_built es q ≡ true)
        → is_some (cond c (Some e.1) (lookup (same_name q) es)) ≡ true
    go b true is f k i = refl
    go true false is f k i =
        sym (ap (λ d. is_some (cond d (Some kept) (lookup (same_name q) es))) f) ∙ k
    go false false is f k i =
        i (sym (ap
        (λ d. is_some
        (cond d (Some e.1) (lookup (same_name q) (insert_entry same_name es p kept)))) f) ∙ k)
