-- A list that is made item by item of what an iterator gives.
use Rattle.std.proofs.Common.{◌≡◌, ◌∙◌, List, [], ◌∷◌, ◌++◌, map, sym, ap}
use Rattle.std.proofs.lemmas.List.{append_assoc, append-nil}

module _ {X Y : Type 0} (f : X → Y) where
  -- one item more is taken over
  pub taken_more : (ys new : List Y) (y : Y) (x : X) (left rest : List X) (all : List Y)
      → new ≡ ys ++ y ∷ [] → y ≡ f x → left ≡ x ∷ rest → ys ++ map f left ≡ all
      → new ++ map f rest ≡ all
  taken_more ys new y x left rest all added same steps h =
      ap (λ zs. zs ++ map f rest) added
      ∙ append_assoc ys (y ∷ []) (map f rest)
      ∙ ap (λ z. ys ++ z ∷ map f rest) same
      ∙ ap (λ xs. ys ++ map f xs) (sym steps)
      ∙ h

  pub taken_all : (ys : List Y) (left : List X) (all : List Y) → left ≡ []
      → ys ++ map f left ≡ all → ys ≡ all
  taken_all ys left all none h =
      sym (append-nil ys) ∙ ap (λ xs. ys ++ map f xs) (sym none) ∙ h
