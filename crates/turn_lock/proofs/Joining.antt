-- The rule at the start, and passes that are split off and joined.
use Rattle.std.proofs.Common.{◌≡◌, ◌≢◌, ◌⊎◌, ℕ, zero, suc, ◌+◌, ◌<◌, ◌≤◌, List, [], ◌∷◌, ◌++◌}
use Rattle.std.proofs.Common.{length, set, get_or, cond, Option, Some, Bool, true, false, refl, sym}
use Rattle.std.proofs.Common.{ap, ◌∙◌, subst, inl, inr, ⊎_elim, arith, length-append, length-set}
use Rattle.std.proofs.Common.{le_refl, le_of_lt, lt_of_not-le, le-leb}
use Rattle.std.proofs.lemmas.Bool.{lt-leb}
use mathlib.Core.Option.{none, some, some-ne-none, some-injective}
use mathlib.Core.Logic.{dite}
use native.Mathlib.Decide.{dec_le}
use lib.ListN.{get_elem?}
use Rattle.atomic_table.specs.Table.{State, Me, step, keeps, Allows, Splits, Joins}
use Rattle.atomic_table.proofs.Lists.{at_set, set_here, set_else, at_longer}
use Rattle.turn_lock.specs.declared.rule.View.{View}
use Rattle.turn_lock.specs.declared.rule.Stage.TheVariants.{Free}
use Rattle.turn_lock.specs.Steps.{Has, AllBelow, GoesOn}
use Rattle.turn_lock.specs.Views.{is_spent, is_busy, tickets_of, new_view, spent, view_numbers}
use Rattle.turn_lock.specs.Views.{tickets, drawn, splitter, new_split, settle, Gone}
use Rattle.turn_lock.specs.Views.{both_views}
use Rattle.turn_lock.specs.inside.Rule.{World, Live, Home, Kept}
use Rattle.turn_lock.specs.inside.Rule.{StandsAtStage}
use Rattle.turn_lock.specs.Tells.{settled}
use Rattle.turn_lock.proofs.Lists.{total_set, total_snoc, inside, same_some, not_both, snoc_cases}
use Rattle.turn_lock.proofs.Seats.{Has-append, AllBelow_up, goes_nowhere, goes_from_nothing}
use Rattle.turn_lock.proofs.Seats.{by_above, AllBelow-tail, meets}
use Rattle.turn_lock.proofs.Stages.{gone_set, stays, stands_on}
use Rattle.turn_lock.proofs.Moves.{before, after, moved, home_set, same_words}

module _ {T X : Type 0} (steps : T → List X) (seat_of : X → ℕ) (first second : T → ℕ)
    (opening : T) where
  abbrev V : Type 0
  V = View X

  abbrev St : Type 0
  St = State (Option T) V

  abbrev M : Type 0
  M = Me (Option T) V

  abbrev W : Type 0
  W = World T X

  abbrev Rule : St → Type 0
  Rule = Kept steps seat_of first second opening

  abbrev At : W → Type 0
  At = Home steps seat_of first second

  pub settles : (slots id : ℕ) (me : M) → me.0.stage ≡ Free
      → Allows Rule slots id me 0 (λ n. n) (settled seat_of (step slots 0 0 0 none) me)
  settles slots id me free s r _ at small =
      let v : V = me.0 in
      let w : V = settle v in
      let live : is_spent v.stage ≡ false = ap is_spent free in
      let l = r.each id v at live in
      let z : W = before steps seat_of first second opening s r in
      let z' : W = after steps seat_of first second opening s.homes
      (set s.views id w) r.log r.left r.owners in
      let goes : (n : ℕ) → Gone s.views n
      → Gone (set s.views id w) n = λ n g. (gone_set s.views id v w at live n g).1 in
      let same = length-set s.views id w in
      let made = l.made in
      let light = r.light id v at in
      let ns : List ℕ = view_numbers v in
      let cover : (n : ℕ) → Has (view_numbers w) n
      → Has ns n ⊎ Has v.late n = λ n p. Has-append ns v.late n p in
      let P : Bool → Type 0 = λ b. GoesOn seat_of (view_numbers w)
      (cond b v.late_seen v.seen) r.log in
      let seen : GoesOn seat_of (view_numbers w) w.seen r.log =
      dite (dec_le (length v.seen) (length v.late_seen))
      (λ le. subst P (sym (le-leb (length v.seen) (length v.late_seen) le))
      ((meets seat_of r.log v.seen v.late_seen ns v.late l.seen l.late_seen le).1
      (view_numbers w) cover))
      (λ gt. let lt : length v.late_seen < length v.seen =
      lt_of_not-le gt in subst P (sym (lt-leb (length v.seen) (length v.late_seen) lt))
      ((meets seat_of r.log v.late_seen v.seen v.late ns l.late_seen l.seen (le_of_lt lt)).1
      (view_numbers w) (λ n p. ⊎_elim (λ a. inr a) (λ b. inl b) (cover n p)))) in (
        w,
        keeps,
        tt,
        moved steps seat_of first second opening s r id v w
            (set s.words 0 (get_or s.words 0 0)) s.homes r.log r.left r.owners
            at (same_words steps seat_of first second opening s r 0)
            refl (le_refl (length r.owners + drawn v)) light r.below
            (λ j u apart e alive k. stays seat_of z z' j u u.stage (λ g. g) (λ g. g)
            (stands_on z z' j u.seen u.stage refl (λ t o. o) refl refl k.stands) goes same refl
            refl k)
            record {
              number = l.number;
              joined = λ n p. ⊎_elim (λ a. goes n (l.joined n a)) (λ b. goes n (l.late n b))
                  (Has-append v.joined v.late n p);
              late = λ n p. absurd p;
              seen = seen;
              late_seen = goes_from_nothing seat_of r.log;
              made = omega (arith, made, same);
              all = λ p. ⊎_elim (λ a. l.all a) (λ b. l.late_all b) (cover 0 p) ∙ sym same;
              late_all = λ p. absurd p;
              first = l.first;
              second = l.second;
              stands = subst (StandsAtStage z' id w.seen) (sym free) tt;
            }
            (home_set steps seat_of first second opening s r id v w r.owners at (ap is_busy free)),
        (
          refl,
          refl,
          (
            (λ le. (meets seat_of r.log v.seen v.late_seen ns v.late l.seen l.late_seen le).0),
            λ lt. (meets seat_of r.log v.late_seen v.seen v.late ns l.late_seen l.seen
                (le_of_lt lt)).0,
          ),
        ),
      )

  pub splits : (id : ℕ) (v : V) → v.stage ≡ Free → v.number ≡ 0 → v.made < 65534
      → Splits Rule id v (splitter v) (new_split v)
  splits id v free zeroth room s r at =
      let w : V = splitter v in
      let u : V = new_split v in
      let live : is_spent v.stage ≡ false = ap is_spent free in
      let l = r.each id v at live in
      let views : List V = set s.views id w ++ u ∷ [] in
      let same = length-set s.views id w in
      let longer_by : length views ≡ length s.views + 1 = length-append (set s.views id w) (u ∷ [])
      ∙ ap (λ (n : ℕ). n + 1) same in
      let z : W = before steps seat_of first second opening s r in
      let z' : W = after steps seat_of first second opening s.homes views r.log r.left r.owners in
      let all : v.made + 1 ≡ length s.views = l.all (inl zeroth) in
      let is_zero : id ≡ 0 = sym l.number ∙ zeroth in
      let goes : (n : ℕ) → Gone s.views n
      → (n ≢ id) × Gone views n = λ n g. let h = gone_set s.views id v w at live n g in
      (h.0, (h.1.0, at_longer (set s.views id w) (u ∷ []) n h.1.0 h.1.1, h.1.2)) in
      let never : (j : ℕ) (x : V) → j ≢ id → Live seat_of z j x
      → (Has (view_numbers x) 0 → ⊥) × (Has x.late 0 → ⊥) = λ j x apart k. (
        (λ p. ⊎_elim (λ (q : x.number ≡ 0). apart (sym k.number ∙ (q ∙ sym is_zero)))
            (λ q. (goes 0 (k.joined 0 q)).0 (sym is_zero)) p),
        λ p. (goes 0 (k.late 0 p)).0 (sym is_zero),
      ) in
      let out = r.out in let paid = r.paid in let few = r.few in
      let ts = total_set tickets s.views id v w at in
      let ds = total_set drawn s.views id v w at in
      let ts' = total_snoc tickets (set s.views id w) u in
      let ds' = total_snoc drawn (set s.views id w) u in
      let P : (ℕ × V) → Type 0 = λ x. Live seat_of z' x.0 x.1 in
      record {
        log = r.log;
        left = r.left;
        owners = r.owners;
        words = r.words;
        out = omega (arith, out, ts, ts');
        paid = omega (arith, paid, ds, ds');
        light = λ j x e. ⊎_elim
            (λ h. ⊎_elim (λ (t : (j ≡ id) × (w ≡ x)). subst (λ (y : V). drawn y ≤ 1099511627776) t.1
            (r.light id v at)) (λ (t : (j ≢ id) × (get_elem? s.views j ≡ some x)). r.light j x
            t.1) (at_set s.views id j w x h))
            (λ (t : (j ≡ length (set s.views id w)) × (u ≡ x)). subst
            (λ (y : V). drawn y ≤ 1099511627776) t.1 (omega arith))
            (snoc_cases (set s.views id w) u x j e);
        few = omega (arith, longer_by, all, room);
        below = AllBelow_up seat_of (length s.views) (length views) r.log
            (omega (arith, longer_by)) r.below;
        each = λ j x e alive. ⊎_elim
            (λ h. ⊎_elim
            (λ (t : (j ≡ id) × (w ≡ x)). subst P (λ i. (sym t.0 i, t.1 i)) (record {
              number = l.number;
              joined = λ n p. (goes n (l.joined n p)).1;
              late = λ n p. (goes n (l.late n p)).1;
              seen = l.seen;
              late_seen = l.late_seen;
              made = omega (arith, all, longer_by);
              all = λ p. omega (arith, all, longer_by);
              late_all = λ p. omega (arith, all, longer_by);
              first = l.first;
              second = l.second;
              stands = subst (StandsAtStage z' id w.seen) (sym free) tt;
            }))
            (λ (t : (j ≢ id) × (get_elem? s.views j ≡ some x)). let k =
            r.each j x t.1 alive in let made = k.made in record {
              number = k.number;
              joined = λ n p. (goes n (k.joined n p)).1;
              late = λ n p. (goes n (k.late n p)).1;
              seen = k.seen;
              late_seen = k.late_seen;
              made = omega (arith, made, longer_by);
              all = λ p. absurd ((never j x t.0 k).0 p);
              late_all = λ p. absurd ((never j x t.0 k).1 p);
              first = k.first;
              second = k.second;
              stands = stands_on z z' j x.seen x.stage refl (λ t o. o) refl refl k.stands;
            })
            (at_set s.views id j w x h))
            (λ (t : (j ≡ length (set s.views id w)) × (u ≡ x)). subst P (λ i. (sym t.0 i, t.1 i))
            (record {
              number = omega (arith, all, same);
              joined = λ n p. absurd p;
              late = λ n p. absurd p;
              seen = record {
                more = l.seen.more;
                whole = l.seen.whole;
                others = λ n p. ⊎_elim
                    (λ (q : v.made + 1 ≡ n). by_above seat_of n (length s.views) l.seen.more
                    (omega (arith, all, q)) (AllBelow-tail seat_of
                    (length s.views) v.seen l.seen.more
                    (subst (AllBelow seat_of (length s.views)) l.seen.whole r.below)))
                    (λ q. absurd q) p;
              };
              late_seen = goes_from_nothing seat_of r.log;
              made = omega (arith, longer_by);
              all = λ p. ⊎_elim (λ (q : v.made + 1 ≡ 0). absurd (omega (arith, q)))
                  (λ q. absurd q) p;
              late_all = λ p. absurd p;
              first = l.first;
              second = l.second;
              stands = tt;
            }))
            (snoc_cases (set s.views id w) u x j e);
        home = ⊎_elim (λ h. inl h)
            (λ (h : (i : ℕ) × (x : V) × (get_elem? (set s.views id w) i ≡ some x)
            × (is_busy x.stage ≡ true)). inr
            (h.0, h.1, at_longer (set s.views id w) (u ∷ []) h.0 h.1 h.2, h.3))
            (home_set steps seat_of first second opening s r id v w r.owners at (ap is_busy free));
      }

  pub joins : (id : ℕ) (v : V) (other : ℕ) (w : V) → v.stage ≡ Free → w.stage ≡ Free
      → Joins Rule id v other w (both_views v w) spent
  joins id v other w free free' s r at apart there =
      let b : V = both_views v w in
      let live : is_spent v.stage ≡ false = ap is_spent free in
      let live' : is_spent w.stage ≡ false = ap is_spent free' in
      let there' : get_elem? s.views other ≡ some w = sym (set_else s.views id other b apart)
      ∙ there in
      let l = r.each id v at live in
      let k = r.each other w there' live' in
      let mid : List V = set s.views id b in
      let views : List V = set mid other spent in
      let same : length views ≡ length s.views = length-set mid other spent
      ∙ length-set s.views id b in
      let z : W = before steps seat_of first second opening s r in
      let z' : W = after steps seat_of first second opening s.homes views r.log r.left r.owners in
      let goes : (n : ℕ) → Gone s.views n
      → Gone views n = λ n g. (gone_set mid other w spent there live' n
      (gone_set s.views id v b at live n g).1).1 in
      let now_gone : Gone views other =
      (spent, set_here mid other spent (inside mid other w there), refl) in
      let out = r.out in
      let paid = r.paid in
      let few = r.few in
      let m = l.made in
      let m' = k.made in
      let ts = total_set tickets s.views id v b at in
      let ds = total_set drawn s.views id v b at in
      let ts' = total_set tickets mid other w spent there in
      let ds' = total_set drawn mid other w spent there in
      let idle : tickets w ≡ 0 = ap tickets_of free' in
      let light' = r.light other w there' in
      let P : (ℕ × V) → Type 0 = λ x. Live seat_of z' x.0 x.1 in
      record {
        log = r.log;
        left = r.left;
        owners = r.owners;
        words = r.words;
        out = omega (arith, out, ts, ts', idle);
        paid = omega (arith, paid, ds, ds', light');
        light = λ j x e. ⊎_elim
            (λ (t : (j ≡ other) × (spent ≡ x)). subst (λ (y : V). drawn y ≤ 1099511627776) t.1
            (omega arith))
            (λ (t : (j ≢ other) × (get_elem? mid j ≡ some x)). ⊎_elim
            (λ (q : (j ≡ id) × (b ≡ x)). subst (λ (y : V). drawn y ≤ 1099511627776) q.1
            (r.light id v at)) (λ (q : (j ≢ id) × (get_elem? s.views j ≡ some x)). r.light j x
            q.1) (at_set s.views id j b x t.1))
            (at_set mid other j spent x e);
        few = omega (arith, few, same);
        below = subst (λ (n : ℕ). AllBelow seat_of n r.log) (sym same) r.below;
        each = λ j x e alive. ⊎_elim
            (λ (t : (j ≡ other) × (spent ≡ x)). absurd
            (not_both (is_spent x.stage) (ap (λ (y : V). is_spent y.stage) (sym t.1)) alive))
            (λ (t : (j ≢ other) × (get_elem? mid j ≡ some x)). ⊎_elim
            (λ (q : (j ≡ id) × (b ≡ x)). subst P (λ i. (sym q.0 i, q.1 i)) (record {
              number = l.number;
              joined = λ n p. goes n (l.joined n p);
              late = λ n p. ⊎_elim (λ (q : w.number ≡ n). subst (Gone views)
                  (sym k.number ∙ q) now_gone) (λ q. goes n (k.joined n q)) p;
              seen = l.seen;
              late_seen = k.seen;
              made = omega (arith, m, m', same);
              all = λ p. let a = l.all p in omega (arith, a, m', same);
              late_all = λ p. let a = k.all p in omega (arith, a, m, same);
              first = l.first;
              second = l.second;
              stands = subst (StandsAtStage z' id b.seen) (sym free) tt;
            }))
            (λ (q : (j ≢ id) × (get_elem? s.views j ≡ some x)). let h =
            r.each j x q.1 alive in stays seat_of z z' j x x.stage (λ g. g) (λ g. g)
            (stands_on z z' j x.seen x.stage refl (λ t o. o) refl refl h.stands) goes same refl
            refl h)
            (at_set s.views id j b x t.1))
            (at_set mid other j spent x e);
        home = ⊎_elim (λ h. inl h)
            (λ (h : (i : ℕ) × (x : V) × (get_elem? mid i ≡ some x) × (is_busy x.stage ≡ true)).
            let aside : h.0 ≢ other = λ e. not_both (is_busy h.1.stage) h.3
            (ap (λ (u : V). is_busy u.stage)
            (same_some (get_elem? mid other) h.1 w
            (subst (λ (n : ℕ). get_elem? mid n ≡ some h.1) e h.2) there) ∙ ap is_busy free') in
            inr (h.0, h.1, set_else mid other h.0 spent aside ∙ h.2, h.3))
            (home_set steps seat_of first second opening s r id v b r.owners at (ap is_busy free));
      }

  pub begins : steps opening ≡ [] → Rule record {
    words = 0 ∷ 0 ∷ [];
    homes = some (Some opening) ∷ [];
    views = new_view (first opening) (second opening) 0 [] ∷ [];
  }
  begins empty = record {
    log = [];
    left = 0;
    owners = [];
    words = refl;
    out = refl;
    paid = omega arith;
    light = λ i v e. one (λ x. drawn x ≤ 1099511627776) (omega arith) i v e;
    few = omega arith;
    below = tt;
    each = λ i v e alive. one_at i v e;
    home = inl (opening, refl, empty, refl, refl);
  }
    where
      v0 : V
      v0 = new_view (first opening) (second opening) 0 []

      one : (P : V → Type 0) → P v0 → (i : ℕ) (v : V) → get_elem? (v0 ∷ []) i ≡ some v → P v
      one P p zero v e = subst P (some-injective v0 v e) p
      one P p (suc i) v e = absurd (some-ne-none v (sym e))

      one_at : (i : ℕ) (v : V) → get_elem? (v0 ∷ []) i ≡ some v
          → Live seat_of (after steps seat_of first second opening (some (Some opening) ∷ [])
          (v0 ∷ []) [] 0 []) i v
      one_at zero v e = subst (Live seat_of
          (after steps seat_of first second opening (some (Some opening) ∷ []) (v0 ∷ []) [] 0 []) 0)
          (some-injective v0 v e) record {
            number = refl;
            joined = λ n p. absurd p;
            late = λ n p. absurd p;
            seen = goes_nowhere seat_of (0 ∷ []) [] [] refl;
            late_seen = goes_nowhere seat_of [] [] [] refl;
            made = omega arith;
            all = λ p. refl;
            late_all = λ p. absurd p;
            first = refl;
            second = refl;
            stands = tt;
          }
      one_at (suc i) v e = absurd (some-ne-none v (sym e))
