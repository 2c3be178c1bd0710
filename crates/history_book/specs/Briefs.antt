-- What a record keeps of its steps: each without its path, and the bytes of all paths in a row.
use Rattle.std.specs.Prelude.{ℕ, List, [], ◌∷◌, take, drop, Option, Some, None}
use Rattle.std.specs.List.{sum_by}
use Rattle.omos_model.specs.Names.{Name}
use Rattle.history_book.specs.declared.brief.Brief.{Brief}
use Rattle.history_book.specs.declared.brief.Brief.TheVariants as brief
use Rattle.history_book.specs.declared.step.Look.TheVariants.{Places, Stats}
use Rattle.history_book.specs.declared.step.Step.{Step}
use Rattle.history_book.specs.declared.step.Step.TheVariants.{Put, Missed, Looked, Asked, Placed}
use Rattle.history_book.specs.declared.step.Step.TheVariants.{Answered, Evicted, Stored, Flushed}

-- the step with this path, if it has one
abbrev pub step_of : Brief → Name → Step
step_of (brief.Put seat number entry size len) path = Put seat number path entry size
step_of (brief.Missed seat number) path = Missed seat number
step_of (brief.LookedPlaces seat number len) path = Looked seat number (Places path)
step_of (brief.LookedStats seat number) path = Looked seat number Stats
step_of (brief.Asked seat number version hit len) path = Asked seat number path version hit
step_of (brief.Placed seat number base pages len) path = Placed seat number path base pages
step_of (brief.Answered seat number note) path = Answered seat number note
step_of (brief.Evicted seat number len) path = Evicted seat number path
step_of (brief.Stored seat number version len) path = Stored seat number path version
step_of (brief.Flushed seat number held len) path = Flushed seat number path held

-- how many bytes its path has
abbrev pub len_of : Brief → ℕ
len_of (brief.Put seat number entry size len) = len
len_of (brief.Missed seat number) = 0
len_of (brief.LookedPlaces seat number len) = len
len_of (brief.LookedStats seat number) = 0
len_of (brief.Asked seat number version hit len) = len
len_of (brief.Placed seat number base pages len) = len
len_of (brief.Answered seat number note) = 0
len_of (brief.Evicted seat number len) = len
len_of (brief.Stored seat number version len) = len
len_of (brief.Flushed seat number held len) = len

-- how many bytes their paths have
abbrev pub paths_len : List Brief → ℕ
paths_len briefs = sum_by len_of briefs

-- the keys that a step adds to those of publishes: one or none
abbrev pub keys_of : Option ℕ → List ℕ
keys_of None = []
keys_of (Some key) = key ∷ []

-- the steps, whose paths follow one another in these bytes
abbrev pub steps_in : List Brief → List ℕ → List Step
steps_in [] bytes = []
steps_in (b ∷ briefs) bytes =
    step_of b (take (len_of b) bytes) ∷ steps_in briefs (drop (len_of b) bytes)
