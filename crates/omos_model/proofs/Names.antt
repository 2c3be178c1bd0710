-- Names that are the same, and in order.
use Rattle.std.proofs.Common.{◌≡◌, Bool, true, false, refl, sym, ◌∙◌}
use Rattle.std.specs.Ordering.{is_eq}
use Rattle.std.proofs.lemmas.Map.Text.{is_eq-slice_cmp}
use Rattle.std.proofs.lemmas.Slice.Eq.{bytes_eq-Decides}
use Rattle.omos_model.specs.Names.{Name, same_name, name_cmp}

pub same_name-true : (a b : Name) → same_name a b ≡ true → a ≡ b
same_name-true a b = (bytes_eq-Decides a b).0

pub same_name-refl : (a b : Name) → a ≡ b → same_name a b ≡ true
same_name-refl a b = (bytes_eq-Decides a b).1

pub same_name-swap : (a b : Name) → same_name a b ≡ same_name b a
same_name-swap a b = go (same_name a b) refl (same_name b a) refl
  where
    go : (x : Bool) → same_name a b ≡ x → (y : Bool) → same_name b a ≡ y → x ≡ y
    go true e true d = refl
    go false e false d = refl
    go true e false d = sym (same_name-refl b a (sym (same_name-true a b e))) ∙ d
    go false e true d = sym e ∙ same_name-refl a b (sym (same_name-true b a d))

-- names that the order ties are the same
pub is_eq-name_cmp : (a b : Name) → is_eq (name_cmp a b) ≡ same_name a b
is_eq-name_cmp a b = is_eq-slice_cmp a b
