-- What one step says.
use Rattle.std.specs.Prelude.{ℕ, ◌==◌, ◌&&◌, Bool, true, false, if◌then◌else◌, Option, Some, None}
use Rattle.omos_model.specs.Names.{Name}
use Rattle.omos_model.specs.declared.entry.Entry.{Entry}
use Rattle.omos_model.specs.declared.placement.Placement.{Placement}
use Rattle.history_book.specs.declared.step.Note.{Note}
use Rattle.history_book.specs.declared.step.Step.{Step}
use Rattle.history_book.specs.declared.step.Step.TheVariants.{Put, Missed, Looked, Asked, Placed}
use Rattle.history_book.specs.declared.step.Step.TheVariants.{Answered, Evicted, Stored, Flushed}

-- whose it is
abbrev pub seat_of : Step → ℕ
seat_of (Put seat number path entry size) = seat
seat_of (Missed seat number) = seat
seat_of (Looked seat number look) = seat
seat_of (Asked seat number path version hit) = seat
seat_of (Placed seat number path base pages) = seat
seat_of (Answered seat number note) = seat
seat_of (Evicted seat number path) = seat
seat_of (Stored seat number path version) = seat
seat_of (Flushed seat number path held) = seat

-- the number of the request that it is, or belongs to
abbrev pub number_of : Step → ℕ
number_of (Put seat number path entry size) = number
number_of (Missed seat number) = number
number_of (Looked seat number look) = number
number_of (Asked seat number path version hit) = number
number_of (Placed seat number path base pages) = number
number_of (Answered seat number note) = number
number_of (Evicted seat number path) = number
number_of (Stored seat number path version) = number
number_of (Flushed seat number path held) = number

abbrev pub is_request : Step → Bool
is_request (Put seat number path entry size) = true
is_request (Missed seat number) = true
is_request (Looked seat number look) = true
is_request (Asked seat number path version hit) = true
is_request (Flushed seat number path held) = true
is_request _ = false

abbrev pub is_put : Step → Bool
is_put (Put seat number path entry size) = true
is_put _ = false

-- what it published
abbrev pub put_of : Step → Option (Name × Entry)
put_of (Put seat number path entry size) = Some (path, entry)
put_of _ = None

abbrev pub size_of : Step → ℕ
size_of (Put seat number path entry size) = size
size_of _ = 0

abbrev pub placement_of : Step → Option Placement
placement_of (Placed seat number path base pages) =
    Some (record { path = path; base = base; pages = pages })
placement_of _ = None

abbrev pub is_asked : Step → Bool
is_asked (Asked seat number path version hit) = true
is_asked _ = false

abbrev pub is_hit_step : Step → Bool
is_hit_step (Asked seat number path version hit) = hit
is_hit_step _ = false

abbrev pub is_answer : Step → Bool
is_answer (Answered seat number note) = true
is_answer _ = false

abbrev pub is_placing : Step → Bool
is_placing (Placed seat number path base pages) = true
is_placing _ = false

abbrev pub is_stored : Step → Bool
is_stored (Stored seat number path version) = true
is_stored _ = false

abbrev pub is_evicted : Step → Bool
is_evicted (Evicted seat number path) = true
is_evicted _ = false

-- ---- of the request with a number

abbrev pub is_ask_of : ℕ → Step → Bool
is_ask_of n s = is_asked s && (number_of s == n)

abbrev pub is_answer_of : ℕ → Step → Bool
is_answer_of n s = is_answer s && (number_of s == n)

abbrev pub is_placing_of : ℕ → Step → Bool
is_placing_of n s = is_placing s && (number_of s == n)

-- a link request
pub record Ask : Type 0 where
  pub seat : ℕ
  pub number : ℕ
  pub path : Name
  pub version : ℕ
  pub hit : Bool

abbrev pub ask_in : ℕ → Step → Option Ask
ask_in n (Asked seat number path version hit) =
    if number == n
    then Some (record { seat = seat; number = number; path = path; version = version; hit = hit })
    else None
ask_in n _ = None

abbrev pub note_in : ℕ → Step → Option Note
note_in n (Answered seat number note) = if number == n then Some note else None
note_in n _ = None
