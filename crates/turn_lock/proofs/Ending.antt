-- What a closed lock gives.
use Rattle.std.proofs.Common.{◌≡◌, ◌≢◌, ℕ, ◌+◌, ◌≤◌, List, [], ◌∷◌, ◌++◌, length, Option, Some}
use Rattle.std.proofs.Common.{Bool, true, false, refl, sym, ap, ◌∙◌, subst, ⊎_elim, arith}
use Rattle.std.proofs.Common.{append-nil}
use mathlib.Core.Option.{Option as Maybe, some}
use lib.ListN.{get_elem?}
use Rattle.atomic_table.specs.Table.{State, Me, Final, Seen}
use Rattle.turn_lock.specs.declared.rule.View.{View}
use Rattle.turn_lock.specs.declared.rule.Stage.TheVariants.{Free}
use Rattle.turn_lock.specs.Steps.{Has, AllBelow, GoesOn}
use Rattle.turn_lock.specs.Views.{is_spent, is_busy, tickets_of, view_numbers, tickets}
use Rattle.turn_lock.specs.inside.Rule.{World, Home, Kept}
use Rattle.turn_lock.specs.Views.{is_ready}
use Rattle.turn_lock.proofs.Lists.{total_none, inside, same_some}
use Rattle.turn_lock.proofs.Seats.{AllBelow-tail, nothing_left}
use Rattle.turn_lock.proofs.Stages.{busy_live, spent_none, ready_free, ready_live, busy_first}
use Rattle.turn_lock.proofs.Moves.{before}

module _ {T X : Type 0} (steps : T → List X) (seat_of : X → ℕ) (first second : T → ℕ)
    (opening : T) where
  abbrev V : Type 0
  V = View X

  abbrev St : Type 0
  St = State (Option T) V

  abbrev M : Type 0
  M = Me (Option T) V

  abbrev W : Type 0
  W = World T X

  abbrev Rule : St → Type 0
  Rule = Kept steps seat_of first second opening

  abbrev At : W → Type 0
  At = Home steps seat_of first second

  -- where as many turns were left as drawn, the slot has the value
  pub closes : (s : St) (r : Rule s) (id : ℕ) (v : V) → get_elem? s.views id ≡ some v
      → is_spent v.stage ≡ false → length r.owners ≡ r.left
      → (x : T) × (s.homes ≡ some (Some x) ∷ []) × GoesOn seat_of (view_numbers v) v.seen (steps x)
      × (first x ≡ v.first) × (second x ≡ v.second)
      × (((n : ℕ) → n ≤ v.made → Has (view_numbers v) n)
      → (steps x ≡ v.seen) × AllBelow seat_of (v.made + 1) (steps x))
  closes s r id v at live level =
      let l = r.each id v at live in ⊎_elim
      (λ (h : (x : T) × (s.homes ≡ some (Some x) ∷ []) × (steps x ≡ r.log)
      × (first x ≡ first opening) × (second x ≡ second opening)). (
        h.0,
        h.1,
        subst (GoesOn seat_of (view_numbers v) v.seen) (sym h.2) l.seen,
        h.3 ∙ sym l.first,
        h.4 ∙ sym l.second,
        λ whole.
            let all : v.made + 1 ≡ length s.views = l.all (whole 0 (omega arith)) in
            let rest_below = AllBelow-tail seat_of (length s.views) v.seen l.seen.more
            (subst (AllBelow seat_of (length s.views)) l.seen.whole r.below) in
            let none_more : l.seen.more ≡ [] =
            nothing_left seat_of (length s.views) l.seen.more rest_below
            (λ k lt. l.seen.others k (whole k (omega (arith, all, lt)))) in (
              h.2 ∙ (l.seen.whole ∙ (ap (λ m. v.seen ++ m) none_more ∙ append-nil v.seen)),
              subst (AllBelow seat_of (v.made + 1)) (sym h.2)
                  (subst (λ (n : ℕ). AllBelow seat_of n r.log) (sym all) r.below),
            ),
      ))
      (λ (h : (i : ℕ) × (u : V) × (get_elem? s.views i ≡ some u) × (is_busy u.stage ≡ true)).
      let theirs = busy_first (before steps seat_of first second opening s r) h.0 h.1.seen h.1.stage
      h.3 (r.each h.0 h.1 h.2 (busy_live h.1.stage h.3)).stands in
      let short = inside r.owners r.left h.0 theirs.0 in absurd (omega (arith, short, level)))
      r.home

  -- where all passes were joined into one that has no turn, as many turns were left as drawn
  pub levels : (s : St) (r : Rule s) (id : ℕ) (v : V) → get_elem? s.views id ≡ some v
      → v.stage ≡ Free → ((n : ℕ) → n ≤ v.made → Has (view_numbers v) n) → length r.owners ≡ r.left
  levels s r id v at free whole =
      let l = r.each id v at (ap is_spent free) in
      let all : v.made + 1 ≡ length s.views = l.all (whole 0 (omega arith)) in
      let none_out = total_none tickets s.views (λ i u e.
      let lt = inside s.views i u e in ⊎_elim
      (λ (q : v.number ≡ i). let me : id ≡ i = sym l.number
      ∙ q in ap tickets (same_some (get_elem? s.views i) u v e
      (subst (λ (k : ℕ). get_elem? s.views k ≡ some v) me at)) ∙ ap tickets_of free)
      (λ q. let g = l.joined i q in ap tickets (same_some (get_elem? s.views i) u g.0 e g.1)
      ∙ spent_none g.0.stage g.2)
      (whole i (omega (arith, all, lt)))) in
      let out = r.out in omega (arith, out, none_out)

module _ {T X : Type 0} (steps : T → List X) (seat_of : X → ℕ) (first second : T → ℕ)
    (opening : T) where
  -- what a closed table has in its slot, to a pass that was there at the end
  pub closed : (ws : List ℕ) (xs : List (Option T)) (id : ℕ) (v u : View X)
      → Final (Seen (Kept steps seat_of first second opening) id v) ws xs → v ≡ u
      → is_ready u.stage ≡ true
      → (d l : ℕ) → get_elem? ws 0 ≡ some d → get_elem? ws 1 ≡ some l → d ≡ l → (got : Option T)
      → get_elem? xs 0 ≡ some got
      → (x : T) × (got ≡ Some x) × GoesOn seat_of (view_numbers u) u.seen (steps x)
      × (first x ≡ u.first) × (second x ≡ u.second)
      × (((n : ℕ) → n ≤ u.made → Has (view_numbers u) n)
      → (steps x ≡ u.seen) × AllBelow seat_of (u.made + 1) (steps x))
  closed ws xs id v u f e ready d l dw lw level got there =
      let s = f.0 in
      let r = f.1.0 in
      let words : ws ≡ length r.owners ∷ r.left ∷ [] = sym f.2 ∙ r.words in
      let d_is : d ≡ length r.owners = sym
      (same_some (get_elem? ws 0) (length r.owners) d
      (ap (λ (l : List ℕ). get_elem? l 0) words) dw) in
      let l_is : l ≡ r.left = sym (same_some (get_elem? ws 1) r.left l
      (ap (λ (l : List ℕ). get_elem? l 1) words) lw) in
      let at : get_elem? s.views id ≡ some u = f.1.1 ∙ ap some e in
      let c = closes steps seat_of first second opening s r id u at (ready_live u.stage ready)
      (sym d_is ∙ (level ∙ l_is)) in
      let here : get_elem? xs 0 ≡ some (Some c.0) =
      f.4 0 (Some c.0) (ap (λ (hs : List (Maybe (Option T))). get_elem? hs 0) c.1) in
      (c.0, same_some (get_elem? xs 0) got (Some c.0) there here, c.2, c.3, c.4, c.5)

  pub held : (ws : List ℕ) (xs : List (Option T)) (id : ℕ) (v u : View X)
      → Final (Seen (Kept steps seat_of first second opening) id v) ws xs → v ≡ u
      → is_ready u.stage ≡ true
      → (d l : ℕ) → get_elem? ws 0 ≡ some d → get_elem? ws 1 ≡ some l → d ≢ l
      → ((n : ℕ) → n ≤ u.made → Has (view_numbers u) n) → is_busy u.stage ≡ true
  held ws xs id v u f e ready d l dw lw apart whole =
      let s = f.0 in
      let r = f.1.0 in
      let words : ws ≡ length r.owners ∷ r.left ∷ [] = sym f.2 ∙ r.words in
      let d_is : d ≡ length r.owners = sym
      (same_some (get_elem? ws 0) (length r.owners) d
      (ap (λ (l : List ℕ). get_elem? l 0) words) dw) in
      let l_is : l ≡ r.left = sym (same_some (get_elem? ws 1) r.left l
      (ap (λ (l : List ℕ). get_elem? l 1) words) lw) in
      let at : get_elem? s.views id ≡ some u = f.1.1 ∙ ap some e in
      go (is_busy u.stage) refl (λ idle. absurd
      (apart (d_is ∙ (levels steps seat_of first second opening s r id u
      at (ready_free u.stage ready idle) whole ∙ sym l_is))))
    where
      go : (b : Bool) → is_busy u.stage ≡ b → (is_busy u.stage ≡ false → is_busy u.stage ≡ true)
          → is_busy u.stage ≡ true
      go true e f = e
      go false e f = f e
