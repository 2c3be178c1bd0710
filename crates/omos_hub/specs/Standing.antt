-- What a seat sees of a store, and how its turns change that.
use Rattle.std.specs.Prelude.{◌≡◌, ℕ, ◌+◌, ◌^◌, ◌≤◌, ◌<◌, Bool, not, ◌&&◌, false, List, [], ◌∷◌}
use Rattle.std.specs.Prelude.{◌++◌, length, Option, None, Some, count_by}
use Rattle.std.specs.Option.{option_map}
use Rattle.history_book.specs.Legal.{IsLegal}
use Rattle.history_book.specs.Steps.{is_asked, is_hit_step}
use Rattle.history_book.specs.declared.step.Step.{Step}
use Rattle.hub_store.specs.Parts.{StoreParts, store_of}
use Rattle.turn_lock.specs.Knowledge.{Knowledge, TableId}
use Rattle.omos_hub.specs.Turns.{Turn, Moves, OthersAdd, lengths, steps_at}

-- what a turn leaves of a pass: the lock that it is at, the lock that it is of, how many passes
-- were split off and which were joined into it, and whether it holds a turn
pub record PassLine : Type 0 where
  pub hub : TableId
  pub lock : TableId
  pub made : ℕ
  pub joined : List ℕ
  pub holds_turn : Bool

-- The seat and the limits; the record as the seat has seen it; the lengths that it had at the
-- seat's turns, where they are told, how often the gate was crossed, where there is one, and the
-- rest of its pass, where it has one.
pub record Standing : Type 0 where
  pub seat : ℕ
  pub cache : ℕ
  pub room : ℕ
  pub steps : List Step
  pub turns : Option (List ℕ)
  pub crossed : Option ℕ
  pub line : Option PassLine

-- of a seat that has a store for itself
abbrev pub standing_of : StoreParts → ℕ → Standing
standing_of s seat = record {
  seat = seat;
  cache = s.limits.cache;
  room = s.limits.steps;
  steps = s.steps;
  turns = None;
  crossed = None;
  line = None;
}

-- of a pass at this lock, beside a gate
abbrev pub seen_by : TableId → Option ℕ → Knowledge Step → Standing
seen_by hub crossed p = record {
  seat = p.number;
  cache = p.first;
  room = p.second;
  steps = p.seen;
  turns = Some p.turns;
  crossed = crossed;
  line = Some (record {
    hub = hub;
    lock = p.lock;
    made = p.made;
    joined = p.joined;
    holds_turn = p.holds_turn;
  });
}

-- the store with this record
abbrev pub store_at : Standing → List Step → StoreParts
store_at s steps = store_of steps s.cache s.room

-- a pass has at most 2^40 turns, and so many are left
abbrev pub HasTurns : ℕ → Option (List ℕ) → Type 0
HasTurns n None = Unit {0}
HasTurns n (Some ts) = length ts + n ≤ 2 ^ 40

-- a pass is of this lock, isn't the one that a lock begins with, and holds no turn
abbrev pub InLine : ℕ → Option PassLine → Type 0
InLine seat None = Unit {0}
InLine seat (Some l) = (l.lock ≡ l.hub) × (l.holds_turn ≡ false) × (0 < seat)

-- the record is legal and no longer than a record may be, and so many turns are left
pub record CanTurn (n : ℕ) (s : Standing) : Type 0 where
  pub legal : IsLegal s.cache s.room s.steps
  pub room : s.room ≤ 65536
  pub turns : HasTurns n s.turns
  pub line : InLine s.seat s.line

-- a gate is crossed at most 2^63 times, and so many are left, where there is one
abbrev pub CanCross : ℕ → Option ℕ → Type 0
CanCross n None = Unit {0}
CanCross n (Some k) = k + n ≤ 2 ^ 63

-- the standing once a turn at this record is over, with these steps in the record
abbrev pub after_turn : Standing → List Step → List Step → Standing
after_turn s found steps = record s {
  steps = steps;
  turns = option_map (λ (ts : List ℕ). ts ++ length found ∷ []) s.turns;
}

-- One turn: others alone added what the seat hadn't seen, and then it made this call of the store.
pub record AtTurn (alone : Bool) (old new : Standing) (Gives : StoreParts → StoreParts → Type 0)
    : Type 0 where
  pub found : List Step
  pub others : OthersAdd alone old.seat old.steps found
  pub gives : Gives (store_at old found) (store_at old new.steps)
  pub after : new ≡ after_turn old found new.steps
  pub legal : IsLegal old.cache old.room new.steps

-- a link request that was asked and isn't a hit
abbrev pub is_miss : Step → Bool
is_miss s = is_asked s && not (is_hit_step s)

-- the gate was crossed so often, where there is one
abbrev pub Rises : Option ℕ → Option ℕ → ℕ → Type 0
Rises None None count = Unit {0}
Rises (Some before) (Some now) count = now ≡ before + count
Rises None (Some now) count = ⊥
Rises (Some before) None count = ⊥

-- these lengths were added to those of the seat's turns, where they are told
abbrev pub Lengthens : Option (List ℕ) → Option (List ℕ) → List ℕ → Type 0
Lengthens None None more = Unit {0}
Lengthens (Some before) (Some now) more = now ≡ before ++ more
Lengthens None (Some now) more = ⊥
Lengthens (Some before) None more = ⊥

-- From the old standing to the new one the seat had these turns, and others alone added besides.
-- The gate was crossed so often.
pub record Went (alone : Bool) (old new : Standing) (turns : List Turn) (crossings : ℕ)
    : Type 0 where
  pub moves : Moves alone old.seat old.steps turns new.steps
  pub legal : IsLegal old.cache old.room new.steps
  pub seat : new.seat ≡ old.seat
  pub cache : new.cache ≡ old.cache
  pub room : new.room ≡ old.room
  pub turned : Lengthens old.turns new.turns (lengths turns)
  pub crossed : Rises old.crossed new.crossed crossings
  pub line : new.line ≡ old.line

-- how many links of these turns missed
abbrev pub misses : List Turn → ℕ
misses turns = count_by is_miss (steps_at turns)
