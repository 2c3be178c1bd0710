-- Where a pass stands in the line, and what it knows.
use Rattle.std.specs.Prelude.{◌≡◌, ℕ, ◌+◌, max, List, [], ◌∷◌, ◌++◌, length, Bool, true, false}
use mathlib.Core.Option.{some}
use lib.ListN.{get_elem?}
use Rattle.turn_lock.specs.Steps.{longer}
use Rattle.turn_lock.specs.declared.rule.View.{View}
use Rattle.turn_lock.specs.declared.rule.Stage.{Stage}
use Rattle.turn_lock.specs.declared.rule.Stage.TheVariants.{Free, Waiting, Open, Turn, Spent}

-- the sum of f over a list
abbrev pub total : {V : Type 0} → (V → ℕ) → List V → ℕ
total f [] = 0
total f (v ∷ vs) = f v + total f vs

-- it was joined into another
abbrev pub is_spent : Stage → Bool
is_spent Free = false
is_spent (Waiting t) = false
is_spent (Open t) = false
is_spent (Turn t) = false
is_spent Spent = true

-- the value is out
abbrev pub is_busy : Stage → Bool
is_busy Free = false
is_busy (Waiting t) = false
is_busy (Open t) = true
is_busy (Turn t) = true
is_busy Spent = false

-- how many tickets are out
abbrev pub tickets_of : Stage → ℕ
tickets_of Free = 0
tickets_of (Waiting t) = 1
tickets_of (Open t) = 1
tickets_of (Turn t) = 1
tickets_of Spent = 0

-- the ticket that it has, where it has one
abbrev pub ticket_of : Stage → ℕ
ticket_of Free = 0
ticket_of (Waiting t) = t
ticket_of (Open t) = t
ticket_of (Turn t) = t
ticket_of Spent = 0

-- at most how many tickets a pass has drawn that had n turns; 2^40 where it was joined into another
abbrev pub drawn_by : Stage → ℕ → ℕ
drawn_by Free n = n
drawn_by (Waiting t) n = n + 1
drawn_by (Open t) n = n
drawn_by (Turn t) n = n
drawn_by Spent n = 1099511627776

-- it is between two calls
abbrev pub is_ready : Stage → Bool
is_ready Free = true
is_ready (Waiting t) = false
is_ready (Open t) = false
is_ready (Turn t) = true
is_ready Spent = false

module _ {X : Type 0} where
  -- the pass with the number n, which has seen this list and had no turn
  abbrev pub new_view : ℕ → ℕ → ℕ → List X → View X
  new_view a b n seen = record {
    stage = Free;
    number = n;
    made = 0;
    joined = [];
    seen = seen;
    turns = [];
    late = [];
    late_seen = [];
    first = a;
    second = b;
  }

  -- what is left of a pass that was joined into another
  abbrev pub spent : View X
  spent = record {
    stage = Spent;
    number = 0;
    made = 0;
    joined = [];
    seen = [];
    turns = [];
    late = [];
    late_seen = [];
    first = 0;
    second = 0;
  }

  -- the one view of a list
  abbrev pub view_in : List (View X) → View X
  view_in [] = spent
  view_in (v ∷ vs) = v

  -- a pass's own number, and those that were joined into it
  abbrev pub view_numbers : View X → List ℕ
  view_numbers v = v.number ∷ v.joined

  -- how many tickets it has out, and at most how many it has drawn
  abbrev pub tickets : View X → ℕ
  tickets v = tickets_of v.stage

  abbrev pub drawn : View X → ℕ
  drawn v = drawn_by v.stage (length v.turns)

  abbrev pub in_stage : View X → Stage → View X
  in_stage v s = record v { stage = s }

  -- its turn came, and it found this list
  abbrev pub called : View X → List X → View X
  called v l = record v {
    stage = Open (ticket_of v.stage);
    seen = l;
    turns = v.turns ++ length l ∷ [];
  }

  -- its turn is over, and it left this list
  abbrev pub gone : View X → List X → View X
  gone v l = record v { stage = Free; seen = l }

  -- the first pass once another is split off, and the other
  abbrev pub splitter : View X → View X
  splitter v = record v { made = v.made + 1 }

  abbrev pub new_split : View X → View X
  new_split v = new_view v.first v.second (v.made + 1) v.seen

  -- the pass once another is joined into it, and once it has settled
  abbrev pub both_views : View X → View X → View X
  both_views v w = record v { made = max v.made w.made; late = view_numbers w; late_seen = w.seen }

  abbrev pub settle : View X → View X
  settle v = record v {
    joined = v.joined ++ v.late;
    seen = longer v.seen v.late_seen;
    late = [];
    late_seen = [];
  }

  -- the seat n was joined into another
  abbrev pub Gone : List (View X) → ℕ → Type 0
  Gone views n = (v : View X) × (get_elem? views n ≡ some v) × (is_spent v.stage ≡ true)
