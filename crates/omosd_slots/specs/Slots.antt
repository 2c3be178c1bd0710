-- What a run of workers does to the slots.
use Rattle.std.specs.Prelude.{◌≡◌, ◌⊎◌, ℕ, ◌+◌, ◌-◌, ◌<◌, ◌≤◌, nat_lt, Bool, true, false, ◌||◌}
use Rattle.std.specs.Prelude.{List, [], ◌∷◌, ◌++◌, length, map, drop, Option, None, Some}
use Rattle.turn_lock.specs.Steps.{GoesOn, AllBelow, steps_by}
use Rattle.turn_lock.specs.Knowledge.{TableId, Knowledge}
use Rattle.omos_outside.specs.Links.{DoorState, GivenBack, HasOut}
use Rattle.worker_line.specs.Drawn.{Line, Drawn, DrewOn, TellsOfSeat, new_seat}
use Rattle.worker_line.specs.declared.workers.Seated.{Seated}
use Rattle.history_book.specs.declared.step.Step.{Step}
use Rattle.hub_store.specs.Parts.{StoreParts}
use Rattle.history_book.specs.Steps.{seat_of}
use Rattle.history_book.specs.Legal.{IsLegal}
use Rattle.omos_hub.specs.Passes.{new_pass}
use Rattle.omosd_slots.specs.Visits.{WasServed}
use Rattle.omosd_slots.specs.declared.slot.Slot.{Slot}
use Rattle.omosd_slots.specs.Fits.{WorkerState, FitsHub, kept_of, GoesOnOrStops, one_where}

pub record SlotState : Type 0 where
  pub door : DoorState
  pub crossed : ℕ

-- the states of slots
abbrev pub slot_states : {D G : Type 0} → (D → DoorState) → (G → ℕ) → List (Slot D G)
    → List SlotState
slot_states state crossings slots =
    map (λ s. record { door = state s.door; crossed = crossings s.gate }) slots

abbrev pub slots_total : {A : Type 0} → (A → ℕ) → List A → ℕ
slots_total f [] = 0
slots_total f (x ∷ xs) = f x + slots_total f xs

-- ---- at the start

-- a door that isn't shut, and counts that have room
pub record IsOpenSlot (s : SlotState) : Type 0 where
  pub open_is : s.door.is_shut ≡ false
  pub links : s.door.links < 4611686018427387904
  pub faults : s.door.faults < 4611686018427387904
  pub crossed : s.crossed < 4611686018427387904

abbrev pub AreOpen : List SlotState → Type 0
AreOpen [] = Unit {0}
AreOpen (s ∷ slots) = IsOpenSlot s × AreOpen slots

-- a worker with this pass, a door and a gate, which wasn't called yet
abbrev pub new_worker : Knowledge Step → DoorState → ℕ → WorkerState
new_worker pass door crossed = record {
  pass = pass;
  door = door;
  crossed = crossed;
  calls = 0;
  links = 0;
  stopped = false;
  failed = false;
}

-- the seat got no more numbers than there are; and where it got none, a look has told of it
abbrev pub IsSeatTold : Drawn → Type 0
IsSeatTold d = (length d.got ≤ d.line.sessions) × (0 < d.missed → TellsOfSeat d)

module _ (hub : TableId) (cache room count : ℕ) (line : Line) where
  -- the worker with the pass of this number
  abbrev pub seated_at : ℕ → SlotState → Seated WorkerState
  seated_at number s = record {
    seat = new_seat line count 1;
    worker = new_worker (new_pass hub cache room count number) s.door s.crossed;
  }

  -- the workers of these slots, whose passes are numbered on from this number
  abbrev pub seated_from : ℕ → List SlotState → List (Seated WorkerState)
  seated_from number [] = []
  seated_from number (s ∷ slots) = seated_at number s ∷ seated_from (number + 1) slots

  -- the worker of this slot once it has run
  pub record HasRunSlot (number : ℕ) (s : SlotState) (it : Seated WorkerState) : Type 0 where
    pub seat : DrewOn (new_seat line count 1) it.seat
    pub calls_is : it.worker.calls ≡ length it.seat.got
    pub kept_is : kept_of it.worker ≡ kept_of (seated_at number s).worker
    pub fits : FitsHub hub it.worker
    pub ended : (it.seat.missed ≡ 1) ⊎ (it.worker.stopped ≡ true)
    pub told : IsSeatTold it.seat

  abbrev pub HaveRun : ℕ → List SlotState → List (Seated WorkerState) → Type 0
  HaveRun number [] [] = Unit {0}
  HaveRun number (s ∷ slots) [] = ⊥
  HaveRun number [] (it ∷ its) = ⊥
  HaveRun number (s ∷ slots) (it ∷ its) = HasRunSlot number s it × HaveRun (number + 1) slots its

-- the slot of a worker
abbrev pub slot_of : Seated WorkerState → SlotState
slot_of it = record { door = it.worker.door; crossed = it.worker.crossed }

abbrev pub pass_of : Seated WorkerState → Knowledge Step
pass_of it = it.worker.pass

abbrev pub draws_of : Seated WorkerState → Drawn
draws_of it = it.seat

abbrev pub links_of : Seated WorkerState → ℕ
links_of it = it.worker.links

abbrev pub failed_of : Seated WorkerState → ℕ
failed_of it = one_where it.worker.failed

abbrev pub got_of : Drawn → ℕ
got_of d = length d.got

abbrev pub seat_missed : Drawn → ℕ
seat_missed d = d.missed

abbrev pub seat_parts : Drawn → ℕ
seat_parts d = d.parts

-- the seat draws from this counter, which so many workers share
abbrev pub DrawsFrom : Line → ℕ → Drawn → Type 0
DrawsFrom line workers d = (d.line ≡ line) × (d.workers ≡ workers)

-- all seats of a counter have got no more numbers than there are, and all of them where one got
-- none
pub record TellAll (line : Line) (workers : ℕ) (seats : List Drawn) : Type 0 where
  pub within : slots_total got_of seats ≤ line.sessions
  pub all :
      slots_total seat_parts seats ≡ workers → 0 < slots_total seat_missed seats
      → slots_total got_of seats ≡ line.sessions

-- ---- at the end

-- the door was shut in the call, or failed
abbrev pub is_stopped : DoorState → DoorState → Bool
is_stopped before after = after.is_shut || nat_lt before.faults after.faults

-- where the door tells its links, it was given back as many as it handed out, and the pass of this
-- number served them, on a beginning of the record that has all steps of this number
abbrev pub ServedBack : ℕ → ℕ → List Step → ℕ → ℕ → Option (List GivenBack) →
    Option (List GivenBack) → Type 0
ServedBack cache room steps number count None None = Unit {0}
ServedBack cache room steps number count None (Some now) = ⊥
ServedBack cache room steps number count (Some before) None = ⊥
ServedBack cache room steps number count (Some before) (Some now) =
    (length now ≡ length before + count)
    × (seen : List Step) × GoesOn seat_of (number ∷ []) seen steps
    × (turns : List ℕ) × WasServed cache room number seen turns (drop (length before) now)

pub record IsServedSlot (cache room : ℕ) (steps : List Step) (number : ℕ)
    (before after : DoorState) : Type 0 where
  pub links : before.links ≤ after.links
  pub faults : before.faults ≤ after.faults
  pub back :
      ServedBack cache room steps number (after.links - before.links) before.back after.back

abbrev pub AreServed : ℕ → ℕ → List Step → ℕ → List SlotState → List SlotState → Type 0
AreServed cache room steps number [] [] = Unit {0}
AreServed cache room steps number (b ∷ before) [] = ⊥
AreServed cache room steps number [] (a ∷ after) = ⊥
AreServed cache room steps number (b ∷ before) (a ∷ after) =
    IsServedSlot cache room steps number b.door a.door
    × AreServed cache room steps (number + 1) before after

-- how many links the doors handed out in all
abbrev pub links_between : List SlotState → List SlotState → ℕ
links_between [] after = 0
links_between (b ∷ before) [] = 0
links_between (b ∷ before) (a ∷ after) = (a.door.links - b.door.links) + links_between before after

-- how many doors were shut or failed
abbrev pub stopped_between : List SlotState → List SlotState → ℕ
stopped_between [] after = 0
stopped_between (b ∷ before) [] = 0
stopped_between (b ∷ before) (a ∷ after) =
    one_where (is_stopped b.door a.door) + stopped_between before after

-- how many doors failed
abbrev pub failed_between : List SlotState → List SlotState → ℕ
failed_between [] after = 0
failed_between (b ∷ before) [] = 0
failed_between (b ∷ before) (a ∷ after) =
    one_where (nat_lt b.door.faults a.door.faults) + failed_between before after

-- the slots served so many links, and this store was closed
pub record Ran (cache room sessions : ℕ) (before after : List SlotState) (served : ℕ)
    (failed : Bool) (store : StoreParts) : Type 0 where
  pub limits : (store.limits.cache ≡ cache) × (store.limits.steps ≡ room)
  pub legal : IsLegal cache room store.steps
  pub below : AllBelow seat_of (length before + 1) store.steps
  pub none : steps_by seat_of 0 store.steps ≡ []
  pub each : AreServed cache room store.steps 1 before after
  pub served_is : served ≡ links_between before after
  pub most : served ≤ sessions
  pub least :
      stopped_between before after < length before
      → sessions ≤ served + stopped_between before after
  pub failed_is : failed ≡ nat_lt 0 (failed_between before after)
