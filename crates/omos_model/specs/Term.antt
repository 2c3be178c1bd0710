-- Modules as terms: objects under operators.
use Rattle.std.specs.Prelude.{ℕ, List, [], ◌∷◌, ◌++◌}
use Rattle.omos_model.specs.FragmentParts.{FragmentParts}
use Rattle.omos_model.specs.Op.{Op}
use Rattle.omos_model.specs.declared.refusal.Site.{Site}

-- each node carries its site; a leaf has a number and the parts of its object
pub data Term : Type 0 where
  Leaf : Site → ℕ → FragmentParts → Term
  Merge : Site → Term → Term → Term
  Override : Site → Term → Term → Term
  Apply : Site → Op → Term → Term

-- the numbers of the leaves, from left to right
abbrev pub leaf_numbers : Term → List ℕ
leaf_numbers (Leaf s number f) = number ∷ []
leaf_numbers (Merge s l r) = leaf_numbers l ++ leaf_numbers r
leaf_numbers (Override s l r) = leaf_numbers l ++ leaf_numbers r
leaf_numbers (Apply s op u) = leaf_numbers u
