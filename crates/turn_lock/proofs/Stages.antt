-- Stages of passes, and what stands while others move.
use Rattle.std.proofs.Common.{◌≡◌, ◌≢◌, ℕ, ◌≤◌, List, [], ◌∷◌, length, set, true, false, true≢false}
use Rattle.std.proofs.Common.{refl, sym, ap, ◌∙◌, subst, arith}
use mathlib.Core.Option.{some}
use lib.ListN.{get_elem?}
use Rattle.atomic_table.proofs.Lists.{set_else}
use Rattle.turn_lock.specs.declared.rule.View.{View}
use Rattle.turn_lock.specs.declared.rule.Stage.{Stage}
use Rattle.turn_lock.specs.declared.rule.Stage.TheVariants.{Free, Waiting, Open, Turn, Spent}
use Rattle.turn_lock.specs.Steps.{GoesOn}
use Rattle.turn_lock.specs.Views.{is_spent, is_busy, tickets_of, drawn_by, view_numbers, in_stage}
use Rattle.turn_lock.specs.Views.{Gone}
use Rattle.turn_lock.specs.inside.Rule.{World, Live}
use Rattle.turn_lock.specs.inside.Rule.{StandsAtStage}
use Rattle.turn_lock.specs.Views.{is_ready, view_in}
use Rattle.turn_lock.proofs.Lists.{same_some, not_both}

pub busy_live : (st : Stage) → is_busy st ≡ true → is_spent st ≡ false
busy_live Free b = refl
busy_live (Waiting t) b = refl
busy_live (Open t) b = refl
busy_live (Turn t) b = refl
busy_live Spent b = absurd (true≢false (sym b))

pub busy_one : (st : Stage) → is_busy st ≡ true → tickets_of st ≡ 1
busy_one Free b = absurd (true≢false (sym b))
busy_one (Waiting t) b = absurd (true≢false (sym b))
busy_one (Open t) b = refl
busy_one (Turn t) b = refl
busy_one Spent b = absurd (true≢false (sym b))

pub busy_drawn : (st : Stage) (n : ℕ) → is_busy st ≡ true → drawn_by st n ≡ n
busy_drawn Free n b = absurd (true≢false (sym b))
busy_drawn (Waiting t) n b = absurd (true≢false (sym b))
busy_drawn (Open t) n b = refl
busy_drawn (Turn t) n b = refl
busy_drawn Spent n b = absurd (true≢false (sym b))

pub spent_none : (st : Stage) → is_spent st ≡ true → tickets_of st ≡ 0
spent_none Free e = absurd (true≢false (sym e))
spent_none (Waiting t) e = absurd (true≢false (sym e))
spent_none (Open t) e = absurd (true≢false (sym e))
spent_none (Turn t) e = absurd (true≢false (sym e))
spent_none Spent e = refl

pub ready_free : (st : Stage) → is_ready st ≡ true → is_busy st ≡ false → st ≡ Free
ready_free Free a b = refl
ready_free (Waiting t) a b = absurd (true≢false (sym a))
ready_free (Open t) a b = absurd (true≢false (sym a))
ready_free (Turn t) a b = absurd (true≢false b)
ready_free Spent a b = absurd (true≢false (sym a))

pub ready_live : (st : Stage) → is_ready st ≡ true → is_spent st ≡ false
ready_live Free a = refl
ready_live (Waiting t) a = refl
ready_live (Open t) a = refl
ready_live (Turn t) a = refl
ready_live Spent a = absurd (true≢false (sym a))

pub ready_turn : (st : Stage) → is_ready st ≡ true → is_busy st ≡ true → (t : ℕ) × (st ≡ Turn t)
ready_turn Free a b = absurd (true≢false (sym b))
ready_turn (Waiting t) a b = absurd (true≢false (sym a))
ready_turn (Open t) a b = absurd (true≢false (sym a))
ready_turn (Turn t) a b = (t, refl)
ready_turn Spent a b = absurd (true≢false (sym a))

module _ {X : Type 0} where
  -- what is spent stays so, where a pass that is not spent goes on
  pub gone_set : (vs : List (View X)) (id : ℕ) (v w : View X) → get_elem? vs id ≡ some v
      → is_spent v.stage ≡ false → (n : ℕ) → Gone vs n → (n ≢ id) × Gone (set vs id w) n
  gone_set vs id v w at live n g =
      let apart : n ≢ id = λ e. not_both (is_spent g.0.stage) g.2
      (ap (λ (u : View X). is_spent u.stage)
      (same_some (get_elem? vs id) g.0 v
      (subst (λ (k : ℕ). get_elem? vs k ≡ some g.0) e g.1) at) ∙ live) in
      (apart, (g.0, set_else vs id n w apart ∙ g.1, g.2))

-- of two passes with one ticket, both are one
pub one_owner : (owners : List ℕ) (t i j : ℕ) → get_elem? owners t ≡ some i
    → get_elem? owners t ≡ some j → i ≡ j
one_owner owners t i j e f = same_some (get_elem? owners t) i j e f

module _ {T X : Type 0} where
  -- the pass u at j goes on in another stage, where the world has changed
  pub stays : (seat_of : X → ℕ) (z z' : World T X) (j : ℕ) (u : View X) (st : Stage)
      → (GoesOn seat_of (view_numbers u) u.seen z.log
      → GoesOn seat_of (view_numbers u) u.seen z'.log)
      → (GoesOn seat_of u.late u.late_seen z.log → GoesOn seat_of u.late u.late_seen z'.log)
      → StandsAtStage z' j u.seen st
      → ((n : ℕ) → Gone z.views n → Gone z'.views n) → length z'.views ≡ length z.views
      → z'.first ≡ z.first → z'.second ≡ z.second
      → Live seat_of z j u → Live seat_of z' j (in_stage u st)
  stays seat_of z z' j u st seen late stands goes same first second l =
      let made = l.made in
      record {
        number = l.number;
        joined = λ n h. goes n (l.joined n h);
        late = λ n h. goes n (l.late n h);
        seen = seen l.seen;
        late_seen = late l.late_seen;
        made = omega (arith, made, same);
        all = λ h. l.all h ∙ sym same;
        late_all = λ h. l.late_all h ∙ sym same;
        first = l.first ∙ sym first;
        second = l.second ∙ sym second;
        stands = stands;
      }

  -- a stage stands as it did, where the words and the slot are the same
  pub stands_on : (z z' : World T X) (i : ℕ) (seen : List X) (st : Stage) → z'.left ≡ z.left
      → ((t : ℕ) → get_elem? z.owners t ≡ some i → get_elem? z'.owners t ≡ some i)
      → z'.homes ≡ z.homes → z'.log ≡ z.log
      → StandsAtStage z i seen st → StandsAtStage z' i seen st
  stands_on z z' i seen Free left owns homes log s = tt
  stands_on z z' i seen (Waiting t) left owns homes log s =
      let h = s.0 in
      (omega (arith, h, left), owns t s.1)
  stands_on z z' i seen (Open t) left owns homes log s =
      (s.0 ∙ sym left, owns t s.1, homes ∙ s.2, s.3 ∙ sym log)
  stands_on z z' i seen (Turn t) left owns homes log s =
      (s.0 ∙ sym left, owns t s.1, homes ∙ s.2, s.3 ∙ sym log)
  stands_on z z' i seen Spent left owns homes log s = tt

  -- who has its turn holds the first ticket out
  pub busy_first : (z : World T X) (i : ℕ) (seen : List X) (st : Stage) → is_busy st ≡ true
      → StandsAtStage z i seen st → (get_elem? z.owners z.left ≡ some i) × (seen ≡ z.log)
  busy_first z i seen Free b s = absurd (true≢false (sym b))
  busy_first z i seen (Waiting t) b s = absurd (true≢false (sym b))
  busy_first z i seen (Open t) b s = (subst (λ (k : ℕ). get_elem? z.owners k ≡ some i) s.0 s.1, s.3)
  busy_first z i seen (Turn t) b s = (subst (λ (k : ℕ). get_elem? z.owners k ≡ some i) s.0 s.1, s.3)
  busy_first z i seen Spent b s = absurd (true≢false (sym b))

  -- the others wait, where one has its turn
  pub others_wait : (z z' : World T X) (j id : ℕ) (seen : List X) (st : Stage)
      → get_elem? z.owners z.left ≡ some id → j ≢ id → z'.owners ≡ z.owners
      → ((t : ℕ) → z.left ≤ t → t ≢ z.left → z'.left ≤ t) → StandsAtStage z j seen st
      → StandsAtStage z' j seen st
  others_wait z z' j id seen Free mine apart owners le s = tt
  others_wait z z' j id seen (Waiting t) mine apart owners le s = (
    le t s.0 (λ e. apart (one_owner z.owners z.left j id
        (subst (λ (k : ℕ). get_elem? z.owners k ≡ some j) e s.1) mine)),
    ap (λ (l : List ℕ). get_elem? l t) owners ∙ s.1,
  )
  others_wait z z' j id seen (Open t) mine apart owners le s =
      absurd (apart (one_owner z.owners z.left j id
      (subst (λ (k : ℕ). get_elem? z.owners k ≡ some j) s.0 s.1) mine))
  others_wait z z' j id seen (Turn t) mine apart owners le s =
      absurd (apart (one_owner z.owners z.left j id
      (subst (λ (k : ℕ). get_elem? z.owners k ≡ some j) s.0 s.1) mine))
  others_wait z z' j id seen Spent mine apart owners le s = tt

module _ {X : Type 0} where
  -- a pass that has no turn, or one, as a seat
  pub seat_free : (views : List (View X)) (v : View X) → views ≡ v ∷ []
      → is_ready (view_in views).stage ≡ true → is_busy (view_in views).stage ≡ false
      → v.stage ≡ Free
  seat_free views v e a b =
      let is : view_in views ≡ v = ap view_in e in
      ap (λ (u : View X). u.stage) (sym is) ∙ ready_free (view_in views).stage a b

  pub seat_turn : (views : List (View X)) (v : View X) → views ≡ v ∷ []
      → is_ready (view_in views).stage ≡ true → is_busy (view_in views).stage ≡ true
      → (t : ℕ) × (v.stage ≡ Turn t)
  seat_turn views v e a b =
      let is : view_in views ≡ v = ap view_in e in
      let h = ready_turn (view_in views).stage a b in
      (h.0, ap (λ (u : View X). u.stage) (sym is) ∙ h.1)
