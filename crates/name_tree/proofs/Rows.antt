-- Rows of eight, and the values that they are made of.
use Rattle.std.proofs.Common.{ℕ, zero, suc, ◌+◌, ◌-◌, ◌*◌, ◌<◌, ◌≤◌, ◌⊎◌, inl, inr, length, get_or}
use Rattle.std.proofs.Common.{arith, ◌≡◌}
use Rattle.std.proofs.Common.{List, [], ◌∷◌, ◌++◌, refl, sym, ap, ◌∙◌, take, drop, length-append}
use Rattle.std.proofs.Common.{subst, take_all}
use Rattle.std.proofs.lemmas.List.{append-nil, length-take-le, length-drop, ext_get_or, get_or-take}
use Rattle.std.proofs.lemmas.List.{get_or-drop}
use Rattle.std.proofs.lemmas.List.{get_or_append_left, get_or-append_right, get_or_default}
use Rattle.name_tree.specs.inside.Few.{AreRows, IsRow, row_values}

split : (n k : ℕ) → (k < n) ⊎ (n ≤ k)
split zero k = inr (omega arith)
split (suc n) zero = inl (omega arith)
split (suc n) (suc k) = up (split n k)
  where
    up : (k < n) ⊎ (n ≤ k) → (suc k < suc n) ⊎ (suc n ≤ suc k)
    up (inl h) = inl (omega (arith, h))
    up (inr h) = inr (omega (arith, h))

module _ {X : Type 0} where
  -- ---- one row

  pub row-of : (xs : List X) (at last : ℕ) (x0 x1 x2 x3 x4 x5 x6 x7 : X) → last < length xs
      → (at ≤ last → x0 ≡ get_or xs at x0)
      → (at + 1 ≤ last → x1 ≡ get_or xs (at + 1) x1)
      → (at + 2 ≤ last → x2 ≡ get_or xs (at + 2) x2)
      → (at + 3 ≤ last → x3 ≡ get_or xs (at + 3) x3)
      → (at + 4 ≤ last → x4 ≡ get_or xs (at + 4) x4)
      → (at + 5 ≤ last → x5 ≡ get_or xs (at + 5) x5)
      → (at + 6 ≤ last → x6 ≡ get_or xs (at + 6) x6)
      → (at + 7 ≤ last → x7 ≡ get_or xs (at + 7) x7)
      → IsRow xs at last (x0 ∷ x1 ∷ x2 ∷ x3 ∷ x4 ∷ x5 ∷ x6 ∷ x7 ∷ [])
  row-of xs at last x0 x1 x2 x3 x4 x5 x6 x7 within h0 h1 h2 h3 h4 h5 h6 h7 =
      record { long = refl; same = go }
    where
      one : (k : ℕ) (x d : X) → k ≤ last → (k ≤ last → x ≡ get_or xs k x) → x ≡ get_or xs k d
      one k x d le h = h le ∙ get_or_default xs k x d (omega (arith, within, le))

      go : (k : ℕ) (d : X) → k < 8 → at + k ≤ last
          → get_or (x0 ∷ x1 ∷ x2 ∷ x3 ∷ x4 ∷ x5 ∷ x6 ∷ x7 ∷ []) k d ≡ get_or xs (at + k) d
      go zero d lt le =
          let z : at + 0 ≡ at = omega arith in
          one at x0 d (omega (arith, le)) h0 ∙ ap (λ k. get_or xs k d) (sym z)
      go (suc zero) d lt le = one (at + 1) x1 d le h1
      go (suc (suc zero)) d lt le = one (at + 2) x2 d le h2
      go (suc (suc (suc zero))) d lt le = one (at + 3) x3 d le h3
      go (suc (suc (suc (suc zero)))) d lt le = one (at + 4) x4 d le h4
      go (suc (suc (suc (suc (suc zero))))) d lt le = one (at + 5) x5 d le h5
      go (suc (suc (suc (suc (suc (suc zero)))))) d lt le = one (at + 6) x6 d le h6
      go (suc (suc (suc (suc (suc (suc (suc zero))))))) d lt le = one (at + 7) x7 d le h7
      go (suc (suc (suc (suc (suc (suc (suc (suc k)))))))) d lt le = absurd (omega (arith, lt))

  -- ---- several rows

  -- the same row, where the number is written in another way
  pub moved : (xs : List X) (last m n : ℕ) (r : List X) → m ≡ n → IsRow xs m last r
      → IsRow xs n last r
  moved xs last m n r e h = subst (λ k. IsRow xs k last r) e h

  pub length-rows : (xs : List X) (at last : ℕ) (rs : List (List X)) → AreRows xs at last rs
      → length (row_values rs) ≡ 8 * length rs
  length-rows xs at last [] h = refl
  length-rows xs at last (r ∷ rs) h =
      let i : length (row_values rs) ≡ 8 * length rs = length-rows xs (at + 8) last rs h.1 in
      let a : length (r ++ row_values rs) ≡ length r + length (row_values rs) =
      length-append r (row_values rs) in
      let l : length r ≡ 8 = h.0.long in
      omega (arith, i, a, l)

  at-row : (xs : List X) (at last : ℕ) (rs : List (List X)) → AreRows xs at last rs
      → (k : ℕ) (d : X)
      → k < 8 * length rs → at + k ≤ last → get_or (row_values rs) k d ≡ get_or xs (at + k) d
  at-row xs at last [] h k d lt le = absurd (omega (arith, lt))
  at-row xs at last (r ∷ rs) h k d lt le = go (split 8 k) (at-row xs (at + 8) last rs h.1 (k - 8) d)
    where
      go : (k < 8) ⊎ (8 ≤ k)
          → (k - 8 < 8 * length rs → at + 8 + (k - 8) ≤ last
          → get_or (row_values rs) (k - 8) d ≡ get_or xs (at + 8 + (k - 8)) d)
          → get_or (r ++ row_values rs) k d ≡ get_or xs (at + k) d
      go (inl small) later =
          let l : length r ≡ 8 = h.0.long in
          get_or_append_left r (row_values rs) d k (omega (arith, small, l)) ∙ h.0.same k d small le
      go (inr big) later =
          let e : at + 8 + (k - 8) ≡ at + k = omega (arith, big) in
          let below : k - 8 < 8 * length rs = omega (arith, lt, big) in
          get_or-append_right r (row_values rs) 8 k d h.0.long big
          ∙ later below (omega (arith, le, big))
          ∙ ap (λ n. get_or xs n d) e

  pub few-of : (xs : List X) (from count : ℕ) (rs : List (List X)) → 0 < count
      → count ≤ 8 * length rs
      → from + count ≤ length xs → AreRows xs from (from + (count - 1)) rs
      → take count (row_values rs) ≡ take count (drop from xs)
  few-of [] from count rs some few within h = absurd (omega (arith, some, within))
  few-of (x ∷ xs) from count rs some few within h =
      let all : List X = x ∷ xs in
      let l : length (row_values rs) ≡ 8 * length rs =
      length-rows all from (from + (count - 1)) rs h in
      let t : length (take count (row_values rs)) ≡ count =
      length-take-le count (row_values rs) (omega (arith, few, l)) in
      let d : length (drop from all) ≡ length all - from = length-drop from all in
      let u : length (take count (drop from all)) ≡ count =
      length-take-le count (drop from all) (omega (arith, within, d)) in
      ext_get_or x (take count (row_values rs)) (take count (drop from all)) (t ∙ sym u) (λ i lt.
      let small : i < count = omega (arith, lt, t) in
      get_or-take count (row_values rs) i x small
      ∙ at-row all from (from + (count - 1)) rs h i x (omega (arith, small, few))
      (omega (arith, small))
      ∙ sym (get_or-drop from all i x)
      ∙ sym (get_or-take count (drop from all) i x small))

  -- all values in one row
  pub small-of : (xs : List X) (count : ℕ) (r : List X) → 0 < count → count ≤ 8
      → count ≡ length xs → IsRow xs 0 (count - 1) r → take count r ≡ xs
  small-of xs count r some few whole h =
      let last : count - 1 ≡ 0 + (count - 1) = omega arith in
      let row : IsRow xs 0 (0 + (count - 1)) r = subst (λ n. IsRow xs 0 n r) last h in
      ap (λ l. take count l) (sym (append-nil r))
      ∙ few-of xs 0 count (r ∷ []) some few (omega (arith, whole)) (row, tt)
      ∙ take_all count xs (omega (arith, whole))
