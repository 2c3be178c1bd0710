-- What no value passes, no place passes.
use Rattle.std.proofs.Common.{◌≡◌, ◌∙◌, ℕ, ◌+◌, Bool, true, false, ◌||◌, List, [], ◌∷◌, take}
use Rattle.std.proofs.Common.{get_or, Option, Some, None, refl, sym, ap, true≢false}
use Rattle.std.specs.List.{cons_option, list_any, slice_get}
use Rattle.std.proofs.lemmas.List.Folds.{list_any_more}
use Rattle.std.proofs.lemmas.Option.{get_or_from_slice_get, slice_get_within}
use Rattle.std.proofs.lemmas.Map.Keys.{any_passes_from_place}
use Rattle.dict_row.specs.Keys.{decoded}

module _ {T : Type 0} (p : T → Bool) where
  fails_at : (values : List T) (key : ℕ) (x : T) → list_any p values ≡ false
      → slice_get values key ≡ Some x → p x ≡ false
  fails_at values key x none is = go (p x) refl
    where
      go : (b : Bool) → p x ≡ b → p x ≡ false
      go true e = absurd (true≢false (sym (any_passes_from_place p values key x is e) ∙ none))
      go false e = e

  -- one place more that does not pass
  pub none_more : (xs : List T) (i : ℕ) (x : T) → slice_get xs i ≡ Some x
      → list_any p (take i xs) ≡ false → p x ≡ false → list_any p (take (i + 1) xs) ≡ false
  none_more xs i x is none fails =
      list_any_more p xs i x (slice_get_within xs i x is)
      ∙ ap (λ b. b || p (get_or xs i x)) none
      ∙ ap p (get_or_from_slice_get xs i x x is)
      ∙ fails

  pub none_decoded : (values : List T) (keys : List ℕ) → list_any p values ≡ false
      → list_any p (decoded values keys) ≡ false
  unfolding decoded
  none_decoded values [] none = refl
  none_decoded values (key ∷ keys) none =
      go (slice_get values key) refl (none_decoded values keys none)
    where
      go : (o : Option T) → slice_get values key ≡ o → list_any p (decoded values keys) ≡ false
          → list_any p (cons_option o (decoded values keys)) ≡ false
      go (Some x) is rest =
          ap (λ b. b || list_any p (decoded values keys)) (fails_at values key x none is) ∙ rest
      go None is rest = rest

  pub none_at : (values : List T) (keys : List ℕ) (list : List T) (b : Bool)
      → list ≡ decoded values keys → b ≡ list_any p values → b ≡ false → false ≡ list_any p list
  none_at values keys list b is same none =
      sym (ap (list_any p) is ∙ none_decoded values keys (sym same ∙ none))
