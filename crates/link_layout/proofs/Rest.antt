-- What a loop over two slices at once has still to come to.
use Rattle.std.proofs.Common.{◌≡◌, ℕ, ◌+◌, List, [], ◌∷◌, length, drop, fold}
use Rattle.std.proofs.Common.{Option, Some, None, Iter, sym, ap, ◌∙◌, arith}
use Rattle.std.specs.declared.iter.Enumerate.{Enumerate}
use Rattle.std.specs.declared.iter.Zip.{Zip}
use Rattle.std.specs.Iterator.{Yields}
use Rattle.std.specs.Iterator.Adapters.{enumerate_source, enumerate_count, enumerate_steps}
use Rattle.std.specs.Iterator.Adapters.{zip_first, zip_second}
use Rattle.std.specs.List.{enumerate_from, zip}
use Rattle.std.specs.Option.{option_or}
use Rattle.std.specs.Slice.Iter.{iter_rest}
use Rattle.std.proofs.iter.Yields.{fronts}
use Rattle.std.proofs.lemmas.Iterator.{YieldsList, YieldsList-from_slice, YieldsList-from_zip, zips}
use Rattle.std.proofs.lemmas.Iterator.Consumers.{YieldsList-from_enumerate}
use Rattle.std.proofs.lemmas.Iterator.Consumers.{YieldsList-turn, YieldsList-end}
use Rattle.std.proofs.lemmas.List.{drop_more, drop_all}
use denote.Ref.{Bor}

-- ---- any loop

module _ {S A B : Type 0} {steps : S → Option A → S → Type 0} {v : A → B} {s : S} {all : List B}
    (list : YieldsList steps v s all) (xs : List A) (t : S) (so_far : Yields steps s xs t)
    (r : Option A) (u : S) where
  turn_rest : (x : A) → r ≡ Some x → steps t r u
      → drop (length xs) all ≡ v x ∷ drop (length xs + 1) all
  turn_rest x is step =
      let turn = YieldsList-turn list xs t so_far r u x is step in
      drop_more all (length xs) (v x) turn.0 ∙ ap (λ y. y ∷ drop (length xs + 1) all) (sym turn.1)

  end_rest : r ≡ None → steps t r u → drop (length xs) all ≡ []
  end_rest is step =
      let end = YieldsList-end list xs t so_far r u is step in
      drop_all (length xs) all (omega (arith, end.1))

-- ---- a loop over pairs

module _ {A B : Type 0} (ks : List A) (vs : List B) (s : Zip (Iter A) (Iter B))
    (first : iter_rest (zip_first s) ≡ ks) (second : iter_rest (zip_second s) ≡ vs)
    (xs : List (Bor A × Bor B)) (t : Zip (Iter A) (Iter B))
    (so_far : Yields (zips fronts fronts) s xs t)
    (r : Option (Bor A × Bor B)) (u : Zip (Iter A) (Iter B)) where
  pairs : YieldsList (zips fronts fronts) (λ p. (p.0.now, p.1.now)) s (zip ks vs)
  pairs = YieldsList-from_zip (YieldsList-from_slice ks first) (YieldsList-from_slice vs second)

  pub pairs-turn : (p : Bor A × Bor B) → r ≡ Some p → zips fronts fronts t r u
      → drop (length xs) (zip ks vs) ≡ (p.0.now, p.1.now) ∷ drop (length xs + 1) (zip ks vs)
  pairs-turn = turn_rest pairs xs t so_far r u

  pub pairs-end : r ≡ None → zips fronts fronts t r u → drop (length xs) (zip ks vs) ≡ []
  pairs-end = end_rest pairs xs t so_far r u

-- ---- a loop over numbered pairs

abbrev Numbered : Type 0 → Type 0 → Type 0
Numbered A B = Enumerate (Zip (Iter A) (Iter B))

module _ {A B : Type 0} (ks : List A) (vs : List B) (s : Numbered A B)
    (first : iter_rest (zip_first (enumerate_source s)) ≡ ks)
    (second : iter_rest (zip_second (enumerate_source s)) ≡ vs) (none : enumerate_count s ≡ 0)
    (xs : List (ℕ × (Bor A × Bor B))) (t : Numbered A B)
    (so_far : Yields (enumerate_steps (zips fronts fronts)) s xs t)
    (r : Option (ℕ × (Bor A × Bor B))) (u : Numbered A B) where
  numbered : YieldsList (enumerate_steps (zips fronts fronts)) (λ p. (p.0, (p.1.0.now, p.1.1.now)))
      s
      (enumerate_from 0 (zip ks vs))
  numbered =
      YieldsList-from_enumerate
      (YieldsList-from_zip (YieldsList-from_slice ks first) (YieldsList-from_slice vs second)) none

  pub numbered-turn : (p : ℕ × (Bor A × Bor B)) → r ≡ Some p
      → enumerate_steps (zips fronts fronts) t r u
      → drop (length xs) (enumerate_from 0 (zip ks vs))
      ≡ (p.0, (p.1.0.now, p.1.1.now)) ∷ drop (length xs + 1) (enumerate_from 0 (zip ks vs))
  numbered-turn = turn_rest numbered xs t so_far r u

  pub numbered-end : r ≡ None → enumerate_steps (zips fronts fronts) t r u
      → drop (length xs) (enumerate_from 0 (zip ks vs)) ≡ []
  numbered-end = end_rest numbered xs t so_far r u

-- ---- a fold that has still to take what is left

module _ {A B : Type 0} (f : B → A → B) where
  pub fold-next : (xs : List A) (x : A) (n m : ℕ) (a b whole : B)
      → drop n xs ≡ x ∷ drop (n + 1) xs → m ≡ n + 1 → b ≡ f a x
      → fold f a (drop n xs) ≡ whole → fold f b (drop m xs) ≡ whole
  fold-next xs x n m a b whole rest e step h =
      (λ i. fold f (step i) (drop (e i) xs)) ∙ sym (ap (fold f a) rest) ∙ h

  pub fold-done : (rest : List A) (a whole : B) → rest ≡ [] → fold f a rest ≡ whole → a ≡ whole
  fold-done rest a whole e h = sym (ap (fold f a) e) ∙ h

-- ---- the first that is refused

module _ {X R : Type 0} (first : List X → Option R) (refusal : X → Option R)
    (goes : (x : X) (xs : List X) → first (x ∷ xs) ≡ option_or (refusal x) (first xs)) where
  pub first-passed : (xs : List X) (x : X) (n m : ℕ) (whole : Option R)
      → drop n xs ≡ x ∷ drop (n + 1) xs → m ≡ n + 1 → refusal x ≡ None
      → first (drop n xs) ≡ whole → first (drop m xs) ≡ whole
  first-passed xs x n m whole rest e none h =
      let back = drop (n + 1) xs in
      ap (λ k. first (drop k xs)) e ∙ sym (ap (λ o. option_or o (first back)) none)
      ∙ sym (goes x back) ∙ sym (ap first rest) ∙ h

  pub first-found : (x : X) (rest back : List X) (whole : Option R)
      → rest ≡ x ∷ back → first rest ≡ whole → whole ≡ option_or (refusal x) (first back)
  first-found x rest back whole e h = sym h ∙ ap first e ∙ goes x back

  pub first-none : (rest : List X) (whole : Option R)
      → first [] ≡ None → rest ≡ [] → first rest ≡ whole → whole ≡ None
  first-none rest whole none e h = sym h ∙ ap first e ∙ none
