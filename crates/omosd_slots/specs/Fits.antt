-- What holds of a worker between its calls.
use Rattle.std.specs.Prelude.{◌≡◌, ◌⊎◌, ℕ, ◌+◌, ◌-◌, ◌*◌, ◌^◌, ◌<◌, ◌≤◌, Bool, true, false, List}
use Rattle.std.specs.Prelude.{[], ◌∷◌, ◌++◌, length, Option, None, Some}
use Rattle.turn_lock.specs.Knowledge.{TableId, Knowledge}
use Rattle.omos_outside.specs.Links.{DoorState, GivenBack}
use Rattle.history_book.specs.declared.step.Step.{Step}
use Rattle.history_book.specs.Legal.{IsLegal}
use Rattle.omos_hub.specs.Passes.{joined_at}
use Rattle.omosd_slots.specs.Visits.{WasServed}

-- A worker: its pass, its door, the count of its gate, how often it was called, how many links
-- it served, whether it has stopped, and whether since its door failed.
pub record WorkerState : Type 0 where
  pub pass : Knowledge Step
  pub door : DoorState
  pub crossed : ℕ
  pub calls : ℕ
  pub links : ℕ
  pub stopped : Bool
  pub failed : Bool

abbrev pub one_where : Bool → ℕ
one_where true = 1
one_where false = 0

-- how many links were given back and 1, or 0 where the door doesn't tell
abbrev pub told_count : Option (List GivenBack) → ℕ
told_count None = 0
told_count (Some links) = length links + 1

-- a worker goes on; or it has stopped, since no more links come or since its door failed
abbrev pub GoesOnOrStops : DoorState → DoorState → Bool → Bool → Type 0
GoesOnOrStops start door false failed =
    (door.is_shut ≡ false) × (door.faults ≡ start.faults) × (failed ≡ false)
GoesOnOrStops start door true failed =
    ((door.is_shut ≡ true) × (door.faults ≡ start.faults) × (failed ≡ false))
    ⊎ ((door.is_shut ≡ false) × (door.faults ≡ start.faults + 1) × (failed ≡ true))

-- where the door tells its links, so many were given back since the start, and the pass served them
abbrev pub HasBack : Knowledge Step → Option (List GivenBack) → Option (List GivenBack) → ℕ → Type 0
HasBack pass None None count = Unit {0}
HasBack pass (Some before) (Some now) count = (links : List GivenBack) × (now ≡ before ++ links)
    × (length links ≡ count)
    × WasServed pass.first pass.second pass.number pass.seen pass.turns links
HasBack pass None (Some now) count = ⊥
HasBack pass (Some before) None count = ⊥

-- a worker of this hub, between its calls
pub record IsWorkerOf (hub : TableId) (pass : Knowledge Step) (start door : DoorState)
    (crossed calls links : ℕ) (stopped failed : Bool) : Type 0 where
  pub lock : pass.lock ≡ hub
  pub idle : pass.holds_turn ≡ false
  pub legal : IsLegal pass.first pass.second pass.seen
  pub some : 0 < pass.number
  pub room : pass.second ≤ 65536
  pub joined : pass.joined ≡ joined_at pass.number
  pub turns : length pass.turns ≤ 262144 * calls
  pub gate : crossed < 2 ^ 62 + 65536 * calls
  pub links_low : door.links < 2 ^ 62 + calls
  pub faults_low : door.faults < 2 ^ 62 + calls
  pub links_are : door.links ≡ start.links + links
  pub calls_are : calls ≡ links + one_where stopped
  pub stands : GoesOnOrStops start door stopped failed
  pub back : HasBack pass start.back door.back links

-- the numbers of a pass and of a door at the start
abbrev pub kept_from : Knowledge Step → DoorState → List ℕ
kept_from pass start =
    pass.number ∷ pass.made ∷ pass.first ∷ pass.second ∷ start.links ∷ start.faults
    ∷ told_count start.back ∷ []

-- how many links were given back at the start and 1, or 0 where the door doesn't tell
abbrev pub told_before : Option (List GivenBack) → ℕ → ℕ
told_before None count = 0
told_before (Some links) count = (length links + 1) - count

-- the same numbers, by what the worker has counted since; no call changes them
abbrev pub kept_of : WorkerState → List ℕ
kept_of w =
    w.pass.number ∷ w.pass.made ∷ w.pass.first ∷ w.pass.second ∷ (w.door.links - w.links)
    ∷ (w.door.faults - one_where w.failed) ∷ told_before w.door.back w.links ∷ []

-- since its door was so
abbrev pub FitsFrom : TableId → DoorState → WorkerState → Type 0
FitsFrom hub start w =
    IsWorkerOf hub w.pass start w.door w.crossed w.calls w.links w.stopped w.failed

abbrev pub FitsHub : TableId → WorkerState → Type 0
FitsHub hub w = (start : DoorState) × FitsFrom hub start w
