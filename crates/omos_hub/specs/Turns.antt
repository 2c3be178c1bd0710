-- The turns of a seat, and how the record grows by them.
use Rattle.std.specs.Prelude.{◌≡◌, ℕ, Bool, true, false, List, [], ◌∷◌, ◌++◌, length, map}
use Rattle.std.specs.List.{AllByRecursion, flat_map}
use Rattle.history_book.specs.Steps.{seat_of}
use Rattle.history_book.specs.declared.step.Step.{Step}
use Rattle.history_book.specs.declared.step.Step.TheVariants.{Evicted, Stored}

-- a turn: the record that it found, and the steps that the seat made there
pub record Turn : Type 0 where
  pub found : List Step
  pub made : List Step

abbrev pub turn_of : List Step → List Step → Turn
turn_of found made = record { found = found; made = made }

-- the record as the turn left it
abbrev pub left_by : Turn → List Step
left_by t = t.found ++ t.made

-- the step is this seat's
abbrev pub IsOf : ℕ → Step → Type 0
IsOf seat s = seat_of s ≡ seat

-- the step is another's
abbrev pub IsOther : ℕ → Step → Type 0
IsOther seat s = seat_of s ≡ seat → ⊥

-- others alone added to the record; where the seat is alone nobody did
abbrev pub OthersAdd : Bool → ℕ → List Step → List Step → Type 0
OthersAdd true seat old new = new ≡ old
OthersAdd false seat old new =
    (more : List Step) × (new ≡ old ++ more) × AllByRecursion (IsOther seat) more

-- from the old record to the new one the seat had these turns, in order, and others alone added
-- between them
abbrev pub Moves : Bool → ℕ → List Step → List Turn → List Step → Type 0
Moves alone seat old [] new = OthersAdd alone seat old new
Moves alone seat old (t ∷ ts) new =
    OthersAdd alone seat old t.found × AllByRecursion (IsOf seat) t.made
    × Moves alone seat (left_by t) ts new

-- the lengths that the record had at the turns
abbrev pub lengths : List Turn → List ℕ
lengths ts = map (λ (t : Turn). length t.found) ts

-- the steps that the seat made at the turns
abbrev pub steps_at : List Turn → List Step
steps_at ts = flat_map (λ (t : Turn). t.made) ts

-- a step that the cache's rule makes due behind one of the request
abbrev pub IsDue : ℕ → ℕ → Step → Type 0
IsDue seat number (Evicted s n path) = (s ≡ seat) × (n ≡ number)
IsDue seat number (Stored s n path version) = (s ≡ seat) × (n ≡ number)
IsDue seat number _ = ⊥
