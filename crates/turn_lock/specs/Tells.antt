-- What each kind of step tells the pass that makes it.
use Rattle.std.specs.Prelude.{◌≡◌, ◌≢◌, ℕ, ◌<◌, ◌≤◌, List, [], ◌∷◌, length, Option, Some, None}
use Rattle.atomic_table.specs.Table.{Me, Step, rest}
use Rattle.turn_lock.specs.Steps.{GoesOn}
use Rattle.turn_lock.specs.declared.rule.View.{View}
use Rattle.turn_lock.specs.declared.rule.Stage.TheVariants.{Waiting, Open, Turn}
use Rattle.turn_lock.specs.Views.{ticket_of, view_numbers, in_stage, called, gone, settle}

module _ {T X : Type 0} where
  -- it has the ticket that it drew
  abbrev pub drew : Step (Option T) → Me (Option T) (View X) → ℕ → Me (Option T) (View X) → Type 0
  drew st m r m' = (m'.1 ≡ m.1) × (m'.0 ≡ in_stage m.0 (Waiting r))

  -- the empty slot went home
  abbrev pub rested : Step (Option T) → Me (Option T) (View X) → ℕ → Me (Option T) (View X) → Type 0
  rested st m r m' = (m'.1 ≡ rest m.1) × (m'.0 ≡ in_stage m.0 (Turn (ticket_of m.0.stage)))

  -- the empty slot is out again
  abbrev pub fetched : Step (Option T) → Me (Option T) (View X) → ℕ → Me (Option T) (View X)
      → Type 0
  fetched st m r m' = (m'.1 ≡ (0, None) ∷ m.1) × (m'.0 ≡ in_stage m.0 (Open (ticket_of m.0.stage)))

module _ {T X : Type 0} (steps : T → List X) (seat_of : X → ℕ) (first second : T → ℕ) where
  abbrev Sat : Type 0
  Sat = Me (Option T) (View X)

  -- the turn came: the slot is out with the pass, which has seen the value's list
  abbrev pub Called : Sat → Sat → Type 0
  Called m m' = (x : T) × (m'.1 ≡ (0, Some x) ∷ m.1) × (m'.0 ≡ called m.0 (steps x))
      × GoesOn seat_of (view_numbers m.0) m.0.seen (steps x) × (first x ≡ m.0.first)
      × (second x ≡ m.0.second)

  -- where it read its ticket its turn came, and else nothing changed
  abbrev pub looked : Step (Option T) → Sat → ℕ → Sat → Type 0
  looked st m r m' = (r ≡ ticket_of m.0.stage → Called m m') × (r ≢ ticket_of m.0.stage → m' ≡ m)

module _ {T X : Type 0} (steps : T → List X) where
  -- the list of the value that a pass holds
  abbrev pub steps_held : List (ℕ × Option T) → List X
  steps_held [] = []
  steps_held ((k, None) ∷ c) = []
  steps_held ((k, Some x) ∷ c) = steps x

  -- the value went home, and the turn is over
  abbrev pub left_turn : Step (Option T) → Me (Option T) (View X) → ℕ → Me (Option T) (View X)
      → Type 0
  left_turn st m r m' = (m'.1 ≡ rest m.1) × (m'.0 ≡ gone m.0 (steps_held m.1))

module _ {X : Type 0} (seat_of : X → ℕ) where
  -- of the two lists that it has seen, the shorter begins the longer
  abbrev pub Meets : View X → Type 0
  Meets v = (length v.seen ≤ length v.late_seen
      → GoesOn seat_of (view_numbers v) v.seen v.late_seen)
      × (length v.late_seen < length v.seen → GoesOn seat_of v.late v.late_seen v.seen)

module _ {T X : Type 0} (seat_of : X → ℕ) where
  -- it knows both lists as one
  abbrev pub settled : Step (Option T) → Me (Option T) (View X) → ℕ → Me (Option T) (View X)
      → Type 0
  settled st m r m' = (m'.1 ≡ m.1) × (m'.0 ≡ settle m.0) × Meets seat_of m.0
