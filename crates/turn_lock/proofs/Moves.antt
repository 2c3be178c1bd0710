-- One pass moves on, and the rule still holds.
use Rattle.std.proofs.Common.{◌≡◌, ◌≢◌, ℕ, ◌+◌, ◌≤◌, List, [], ◌∷◌, length, set, get_or, Option}
use Rattle.std.proofs.Common.{true, false, sym, ap, ◌∙◌, subst, inl, inr, ⊎_elim, arith, length-set}
use mathlib.Core.Option.{Option as Maybe, some}
use lib.ListN.{get_elem?}
use lib.Seq.{set-get_or}
use Rattle.atomic_table.specs.Table.{State, Me, keeps, stepped}
use Rattle.atomic_table.proofs.Lists.{at_set, set_else, set_again}
use Rattle.turn_lock.specs.declared.rule.View.{View}
use Rattle.turn_lock.specs.Steps.{AllBelow}
use Rattle.turn_lock.specs.Views.{is_spent, is_busy, tickets, drawn}
use Rattle.turn_lock.specs.inside.Rule.{World, Live, Home, world, Kept}
use Rattle.turn_lock.proofs.Lists.{total_set, total_le, same_some, not_both}

module _ {T X : Type 0} (steps : T → List X) (seat_of : X → ℕ) (first second : T → ℕ)
    (opening : T) where
  abbrev pub V : Type 0
  V = View X

  abbrev pub St : Type 0
  St = State (Option T) V

  abbrev pub M : Type 0
  M = Me (Option T) V

  abbrev pub W : Type 0
  W = World T X

  abbrev pub Rule : St → Type 0
  Rule = Kept steps seat_of first second opening

  abbrev pub At : W → Type 0
  At = Home steps seat_of first second

  abbrev pub before : (s : St) → Rule s → W
  before s r = world steps seat_of first second opening s r.log r.left r.owners

  abbrev pub after : List (Maybe (Option T)) → List V → List X → ℕ → List ℕ → W
  after homes views log left owners = record {
    log = log;
    left = left;
    owners = owners;
    homes = homes;
    views = views;
    first = first opening;
    second = second opening;
  }

  -- the seat id goes from v to w
  pub moved : (s : St) (r : Rule s) (id : ℕ) (v w : V) (words : List ℕ)
      (homes : List (Maybe (Option T))) (log : List X) (left : ℕ) (owners : List ℕ)
      → get_elem? s.views id ≡ some v
      → words ≡ length owners ∷ left ∷ []
      → (left + tickets w) + length r.owners ≡ (r.left + tickets v) + length owners
      → length owners + drawn v ≤ length r.owners + drawn w
      → drawn w ≤ 1099511627776
      → AllBelow seat_of (length s.views) log
      → ((j : ℕ) (u : V) → j ≢ id → get_elem? s.views j ≡ some u → is_spent u.stage ≡ false
      → Live seat_of (before s r) j u → Live seat_of
      (after homes (set s.views id w) log left owners) j u)
      → Live seat_of (after homes (set s.views id w) log left owners) id w
      → At (after homes (set s.views id w) log left owners)
      → Rule record { words = words; homes = homes; views = set s.views id w }
  moved s r id v w words homes log left owners at is count pays light below others mine home =
      let same = length-set s.views id w in
      let out = r.out in
      let paid = r.paid in
      let few = r.few in
      let ts = total_set tickets s.views id v w at in
      let ds = total_set drawn s.views id v w at in
      record {
        log = log;
        left = left;
        owners = owners;
        words = is;
        out = omega (arith, out, ts, count);
        paid = omega (arith, paid, ds, pays);
        light = λ j u e. ⊎_elim (λ (t : (j ≡ id) × (w ≡ u)). subst
            (λ (x : V). drawn x ≤ 1099511627776) t.1 light)
            (λ (t : (j ≢ id) × (get_elem? s.views j ≡ some u)). r.light j u t.1)
            (at_set s.views id j w u e);
        few = omega (arith, few, same);
        below = subst (λ (n : ℕ). AllBelow seat_of n log) (sym same) below;
        each = λ j u e l. ⊎_elim
            (λ (t : (j ≡ id) × (w ≡ u)). subst
            (λ (x : ℕ × V). Live seat_of (after homes (set s.views id w) log left owners) x.0
            x.1) (λ i. (sym t.0 i, t.1 i)) mine)
            (λ (t : (j ≢ id) × (get_elem? s.views j ≡ some u)). others j u t.0 t.1 l
            (r.each j u t.1 l))
            (at_set s.views id j w u e);
        home = home;
      }

  -- nothing changes
  pub still : (s : St) (r : Rule s) (i id : ℕ) (me : M) → get_elem? s.views id ≡ some me.0
      → Rule (stepped s i (get_or s.words i 0) id me.1 me.0 keeps)
  still s r i id me at = subst (λ (vs : List V). Rule
      record { words = set s.words i (get_or s.words i 0); homes = s.homes; views = vs })
      (sym (set_again s.views id me.0 at))
      (subst (λ (ws : List ℕ). Rule record { words = ws; homes = s.homes; views = s.views })
      (sym (set-get_or s.words i 0)) r)

  -- the slot is where it was, where a pass goes on that has no turn
  pub home_set : (s : St) (r : Rule s) (id : ℕ) (v w : V) (owners : List ℕ)
      → get_elem? s.views id ≡ some v → is_busy v.stage ≡ false
      → At (after s.homes (set s.views id w) r.log r.left owners)
  home_set s r id v w owners at idle = ⊎_elim (λ h. inl h)
      (λ (h : (i : ℕ) × (u : V) × (get_elem? s.views i ≡ some u) × (is_busy u.stage ≡ true)).
      let apart : h.0 ≢ id = λ e. not_both (is_busy h.1.stage) h.3
      (ap (λ (u : V). is_busy u.stage)
      (same_some (get_elem? s.views id) h.1 v
      (subst (λ (k : ℕ). get_elem? s.views k ≡ some h.1) e h.2) at) ∙ idle) in
      inr (h.0, h.1, set_else s.views id h.0 w apart ∙ h.2, h.3)) r.home

  pub word0 : (s : St) (r : Rule s) → get_or s.words 0 0 ≡ length r.owners
  word0 s r = ap (λ (ws : List ℕ). get_or ws 0 0) r.words

  pub word1 : (s : St) (r : Rule s) → get_or s.words 1 0 ≡ r.left
  word1 s r = ap (λ (ws : List ℕ). get_or ws 1 0) r.words

  pub same_words : (s : St) (r : Rule s) (i : ℕ)
      → set s.words i (get_or s.words i 0) ≡ length r.owners ∷ r.left ∷ []
  same_words s r i = set-get_or s.words i 0 ∙ r.words

  -- fewer than 2^56 turns are drawn
  pub not_many : (s : St) (r : Rule s) → length r.owners ≤ 72056494526300160
  not_many s r =
      let paid = r.paid in
      let few = r.few in
      let h = total_le drawn s.views 1099511627776 r.light in
      omega (arith, paid, few, h)
