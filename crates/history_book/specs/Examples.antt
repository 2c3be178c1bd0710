-- Worked examples of records.
use Rattle.std.specs.Prelude.{◌≡◌, ℕ, true, false, [], ◌∷◌, Some, None}
use Rattle.omos_model.specs.Names.{Name}
use Rattle.history_book.specs.Room.{unanswered}
use Rattle.history_book.specs.Cache.{CacheItem, is_hit, to_front}
use Rattle.history_book.specs.Due.{storing, due_behind}
use Rattle.history_book.specs.Legal.{IsLegal}
use Rattle.history_book.specs.declared.step.Look.TheVariants.{Stats}
use Rattle.history_book.specs.declared.step.Note.TheVariants.{NoMemory}
use Rattle.history_book.specs.declared.step.Step.TheVariants.{Missed, Looked, Asked, Answered}
use Rattle.history_book.specs.declared.step.Step.TheVariants.{Evicted, Stored, Flushed}

-- the paths /a and /b
abbrev pub a : Name
a = 47 ∷ 97 ∷ []

abbrev pub b : Name
b = 47 ∷ 98 ∷ []

-- an image that read nothing
abbrev pub item : Name → ℕ → CacheItem
item path version =
    record { number = 0; path = path; version = version; footprint = []; base = 65536 }

pub record CacheExamples : Type 0 where
  -- in a cache of one item another path's goes, and an older one of the same path is replaced
  pub evicts : storing 1 (item a 2 ∷ []) 7 3 b 5 ≡ Some (Evicted 7 3 a)
  pub replaces : storing 1 (item a 2 ∷ []) 7 3 a 5 ≡ Some (Stored 7 3 a 5)
  pub has_room : storing 2 (item a 2 ∷ []) 7 3 b 5 ≡ Some (Stored 7 3 b 5)
  -- one of the same version stays
  pub keeps : storing 1 (item a 5 ∷ []) 7 3 a 5 ≡ None
  pub front : to_front b (item a 1 ∷ item b 2 ∷ []) ≡ item b 2 ∷ item a 1 ∷ []
  pub hit : is_hit [] (item a 1 ∷ []) a ≡ true
  pub miss : is_hit [] (item a 1 ∷ []) b ≡ false

pub record RecordExamples : Type 0 where
  -- a link request waits until its answer
  pub waits : unanswered (Missed 1 0 ∷ Asked 1 1 a 0 false ∷ Looked 2 2 Stats ∷ []) ≡ 1
  pub ends : unanswered (Asked 1 0 a 0 false ∷ Looked 2 1 Stats ∷ Answered 1 0 NoMemory ∷ []) ≡ 0
  -- a flush that found the path's image makes its leaving due, and nothing behind it
  pub flushes : due_behind 1 [] (Flushed 1 4 a true ∷ []) ≡ Some (Evicted 1 4 a)
  pub flushed : due_behind 1 [] (Evicted 1 4 a ∷ Flushed 1 4 a true ∷ []) ≡ None
  -- it asks, looks, and answers for want of memory
  pub short : IsLegal 1 16 (Asked 1 0 a 0 false ∷ Looked 2 1 Stats ∷ Answered 1 0 NoMemory ∷ [])

-- what no legal record has
pub record RefusedExamples : Type 0 where
  -- a number that isn't the next
  pub number : ¬ IsLegal 1 16 (Missed 1 1 ∷ [])
  -- a link request on a version that isn't there, or as a hit where nothing is held
  pub version : ¬ IsLegal 1 16 (Asked 1 0 a 1 false ∷ [])
  pub mark : ¬ IsLegal 1 16 (Asked 1 0 a 0 true ∷ [])
  -- an image that leaves though no step made that due
  pub order : ¬ IsLegal 1 16 (Evicted 1 0 a ∷ [])
  -- a second answer, or one of another seat
  pub twice : ¬ IsLegal 1 16
      (Asked 1 0 a 0 false ∷ Answered 1 0 NoMemory ∷ Answered 1 0 NoMemory ∷ [])
  pub seat : ¬ IsLegal 1 16 (Asked 1 0 a 0 false ∷ Answered 2 0 NoMemory ∷ [])
  -- a request for which there is no room
  pub room : ¬ IsLegal 1 4 (Missed 1 0 ∷ [])
