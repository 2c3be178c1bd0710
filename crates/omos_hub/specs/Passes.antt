-- The passes of a hub.
use Rattle.std.specs.Prelude.{◌≡◌, ℕ, ◌+◌, ◌<◌, List, [], ◌∷◌, length, eqb, cond}
use Rattle.std.specs.Prelude.{false, slice_index_or}
use Rattle.hub_store.specs.Parts.{StoreParts, Appended}
use Rattle.turn_lock.specs.Steps.{AllBy, GoesOn}
use Rattle.turn_lock.specs.Knowledge.{TableId, Knowledge, numbers, newcomer}
use Rattle.history_book.specs.Steps.{seat_of}
use Rattle.history_book.specs.declared.step.Step.{Step}

-- the pass 0 was joined into the pass 1, and nothing into any other
abbrev pub joined_at : ℕ → List ℕ
joined_at number = cond (eqb number 1) (0 ∷ []) []

abbrev pub made_at : ℕ → ℕ → ℕ
made_at count number = cond (eqb number 1) count 0

-- the pass of this number, of so many
pub record IsPassOf (hub : TableId) (count number : ℕ) (p : Knowledge Step) : Type 0 where
  pub lock : p.lock ≡ hub
  pub idle : p.holds_turn ≡ false
  pub number_is : p.number ≡ number
  pub made_is : p.made ≡ made_at count number
  pub joined_is : p.joined ≡ joined_at number

-- all passes that a hub gave, in order
pub record AreAll (hub : TableId) (passes : List (Knowledge Step)) : Type 0 where
  pub some : 0 < length passes
  pub each : (k : ℕ) (d : Knowledge Step) → k < length passes
      → IsPassOf hub (length passes) (k + 1) (slice_index_or passes k d)

-- a pass as it was opened
abbrev pub new_pass : TableId → ℕ → ℕ → ℕ → ℕ → Knowledge Step
new_pass hub cache room count number =
    record (newcomer hub cache room number []) {
      made = made_at count number;
      joined = joined_at number;
    }

abbrev pub AreNew : TableId → ℕ → ℕ → List (Knowledge Step) → Type 0
AreNew hub cache room passes = (k : ℕ) (d : Knowledge Step) → k < length passes
    → slice_index_or passes k d ≡ new_pass hub cache room (length passes) (k + 1)

-- the record begins with all that each had seen, and has no more of its steps
abbrev pub HasAll : List (Knowledge Step) → List Step → Type 0
HasAll passes steps = (k : ℕ) (d : Knowledge Step) → k < length passes
    → GoesOn seat_of (numbers (slice_index_or passes k d)) (slice_index_or passes k d).seen steps

-- the call appended steps of this seat, and nothing else changed
pub record Turned (seat : ℕ) (old new : StoreParts) : Type 0 where
  pub news : List Step
  pub steps : Appended old new news
  pub own : AllBy seat_of seat news
