-- Lists of steps, and what goes on from what.
use Rattle.std.proofs.Common.{◌≡◌, ◌≢◌, ◌⊎◌, ℕ, ◌<◌, ◌≤◌, List, [], ◌∷◌, ◌++◌, length, cond, eqb}
use Rattle.std.proofs.Common.{refl, sym, ap, ◌∙◌, inl, inr, ⊎_elim, arith, append_assoc, append-nil}
use Rattle.std.proofs.Common.{eq-eqb, ne_eqb}
use Rattle.std.proofs.lemmas.List.Elements.{filter-append}
use Rattle.turn_lock.specs.Steps.{Has, steps_by, AllBelow, AllBy, GoesOn}
use Rattle.turn_lock.proofs.Lists.{overlap, none_front, none_back}

pub Has-append : (ms ns : List ℕ) (n : ℕ) → Has (ms ++ ns) n → Has ms n ⊎ Has ns n
Has-append [] ns n h = inr h
Has-append (m ∷ ms) ns n h = ⊎_elim (λ e. inl (inl e))
    (λ t. ⊎_elim (λ a. inl (inr a)) (λ b. inr b) (Has-append ms ns n t)) h

module _ {X : Type 0} (seat_of : X → ℕ) where
  pub AllBelow-append : (n : ℕ) (xs ys : List X) → AllBelow seat_of n xs → AllBelow seat_of n ys
      → AllBelow seat_of n (xs ++ ys)
  AllBelow-append n [] ys a b = b
  AllBelow-append n (x ∷ xs) ys a b = (a.0, AllBelow-append n xs ys a.1 b)

  pub AllBelow_up : (m n : ℕ) (xs : List X) → m ≤ n → AllBelow seat_of m xs → AllBelow seat_of n xs
  AllBelow_up m n [] le a = tt
  AllBelow_up m n (x ∷ xs) le a = let h = a.0 in (omega (arith, h), AllBelow_up m n xs le a.1)

  pub AllBy-below : (i n : ℕ) (xs : List X) → i < n → AllBy seat_of i xs → AllBelow seat_of n xs
  AllBy-below i n [] lt a = tt
  AllBy-below i n (x ∷ xs) lt a = let h = a.0 in (omega (arith, h), AllBy-below i n xs lt a.1)

  -- a list of one seat's steps has none of another's
  pub by_other : (i n : ℕ) (xs : List X) → n ≢ i → AllBy seat_of i xs → steps_by seat_of n xs ≡ []
  by_other i n [] ne a = refl
  by_other i n (x ∷ xs) ne a =
      let h = a.0 in
      ap (λ b. cond b (x ∷ steps_by seat_of n xs) (steps_by seat_of n xs))
      (ne_eqb (seat_of x) n (λ e. ne (sym e ∙ h))) ∙ by_other i n xs ne a.1

  pub by_own : (i : ℕ) (xs : List X) → AllBy seat_of i xs → steps_by seat_of i xs ≡ xs
  by_own i [] a = refl
  by_own i (x ∷ xs) a = ap (λ b. cond b (x ∷ steps_by seat_of i xs) (steps_by seat_of i xs))
      (eq-eqb (seat_of x) i a.0) ∙ ap (λ l. x ∷ l) (by_own i xs a.1)

  pub by-append : (n : ℕ) (xs ys : List X)
      → steps_by seat_of n (xs ++ ys) ≡ steps_by seat_of n xs ++ steps_by seat_of n ys
  by-append n xs ys = filter-append (λ x. eqb (seat_of x) n) xs ys

  pub goes_nowhere : (ns : List ℕ) (l log : List X) → l ≡ log → GoesOn seat_of ns l log
  goes_nowhere ns l log e = record {
    more = [];
    whole = sym e ∙ sym (append-nil l);
    others = λ n h. refl;
  }

  pub goes_from_nothing : (log : List X) → GoesOn seat_of [] [] log
  goes_from_nothing log = record { more = log; whole = refl; others = λ n h. absurd h }

  -- the list goes on by the steps of one more seat
  pub goes_further : (i : ℕ) (ns : List ℕ) (l log news : List X) → ((n : ℕ) → Has ns n → n ≢ i)
      → AllBy seat_of i news → GoesOn seat_of ns l log → GoesOn seat_of ns l (log ++ news)
  goes_further i ns l log news apart own g = record {
    more = g.more ++ news;
    whole = ap (λ k. k ++ news) g.whole ∙ append_assoc l g.more news;
    others = λ n h. by-append n g.more news
        ∙ (ap (λ k. k ++ steps_by seat_of n news) (g.others n h)
        ∙ by_other i n news (apart n h) own);
  }

  -- the pass's own steps are those that it knew
  pub own_steps : (ns : List ℕ) (l log : List X) (n : ℕ) → Has ns n → GoesOn seat_of ns l log
      → steps_by seat_of n log ≡ steps_by seat_of n l
  own_steps ns l log n h g = ap (steps_by seat_of n) g.whole
      ∙ (by-append n l g.more ∙ (ap (λ k. steps_by seat_of n l ++ k) (g.others n h)
      ∙ append-nil (steps_by seat_of n l)))

  pub by_above : (m n : ℕ) (xs : List X) → n ≤ m → AllBelow seat_of n xs
      → steps_by seat_of m xs ≡ []
  by_above m n [] le a = refl
  by_above m n (x ∷ xs) le a =
      let h = a.0 in
      ap (λ b. cond b (x ∷ steps_by seat_of m xs) (steps_by seat_of m xs))
      (ne_eqb (seat_of x) m (λ e. omega (arith, h, e, le))) ∙ by_above m n xs le a.1

  pub AllBelow-tail : (n : ℕ) (xs ys : List X) → AllBelow seat_of n (xs ++ ys)
      → AllBelow seat_of n ys
  AllBelow-tail n [] ys a = a
  AllBelow-tail n (x ∷ xs) ys a = AllBelow-tail n xs ys a.1

module _ {X : Type 0} (seat_of : X → ℕ) where
  -- of two lists that were seen, the longer goes on from the shorter, and has what either had
  pub meets : (log l m : List X) (ns ms : List ℕ) → GoesOn seat_of ns l log
      → GoesOn seat_of ms m log → length l ≤ length m
      → GoesOn seat_of ns l m × ((ks : List ℕ) → ((n : ℕ) → Has ks n → Has ns n ⊎ Has ms n)
      → GoesOn seat_of ks m log)
  meets log l m ns ms g h le =
      let o = overlap l g.more m h.more (sym g.whole ∙ h.whole) le in
      let none : (n : ℕ) → Has ns n → steps_by seat_of n o.0 ++ steps_by seat_of n h.more ≡ [] =
      λ n p. sym (by-append seat_of n o.0 h.more)
      ∙ (ap (steps_by seat_of n) (sym o.2) ∙ g.others n p) in (
        record {
          more = o.0;
          whole = o.1;
          others =
              λ n p. none_front (steps_by seat_of n o.0) (steps_by seat_of n h.more) (none n p);
        },
        λ ks cover. record {
          more = h.more;
          whole = h.whole;
          others = λ n p. ⊎_elim (λ a. none_back (steps_by seat_of n o.0)
              (steps_by seat_of n h.more) (none n a)) (λ b. h.others n b) (cover n p);
        },
      )

  -- steps of no seat below n, all below n, are none
  pub nothing_left : (n : ℕ) (xs : List X) → AllBelow seat_of n xs
      → ((k : ℕ) → k < n → steps_by seat_of k xs ≡ []) → xs ≡ []
  nothing_left n [] a h = refl
  nothing_left n (x ∷ xs) a h =
      let e : x ∷ steps_by seat_of (seat_of x) xs ≡ [] =
      sym (ap (λ b. cond b (x ∷ steps_by seat_of (seat_of x) xs)
      (steps_by seat_of (seat_of x) xs)) (eq-eqb (seat_of x) (seat_of x) refl))
      ∙ h (seat_of x) a.0 in
      cc
