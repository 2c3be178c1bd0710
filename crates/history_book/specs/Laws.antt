-- Laws of records.
use Rattle.std.specs.Prelude.{◌≡◌, ◌↔◌, ℕ, ◌≤◌, ◌≢◌, false, List, [], ◌∷◌, ◌++◌, Some}
use Rattle.std.specs.List.{All}
use Rattle.link_model.specs.Plan.{Plan}
use Rattle.omos_model.specs.Places.{Grows}
use Rattle.omos_model.specs.declared.placement.Place.TheVariants as place
use Rattle.history_book.specs.Steps.{Ask, seat_of}
use Rattle.history_book.specs.Told.{version_after, book_of, note_of, IsOpen, is_placed}
use Rattle.history_book.specs.Owed.{IsNumbered}
use Rattle.history_book.specs.Cache.{CacheItem, is_held, cache_after}
use Rattle.history_book.specs.Legal.{Runs, IsLegal, HasPlace}
use Rattle.history_book.specs.declared.step.Note.{Note}
use Rattle.history_book.specs.declared.step.Step.{Step}
use Rattle.history_book.specs.declared.step.Step.TheVariants.{Answered}

-- the steps of a record follow one another exactly where those of both its parts do, wherever it
-- is cut
abbrev pub CutLaw : Type 0
CutLaw =
    (c r : ℕ) (P xs ys : List Step)
    → Runs c r P (xs ++ ys) ↔ (Runs c r P xs × Runs c r (P ++ xs) ys)

-- the numbers of a legal record are those of its requests, each of one link request at most
abbrev pub NumbersLaw : Type 0
NumbersLaw = (c r : ℕ) (P : List Step) → IsLegal c r P → IsNumbered P

-- an answer is the one that a whole record gives for its number
abbrev pub AnswerLaw : Type 0
AnswerLaw =
    (c r : ℕ) (P more : List Step) (seat n : ℕ) (note : Note)
    → Runs c r [] (P ++ Answered seat n note ∷ more)
    → note_of (P ++ Answered seat n note ∷ more) n ≡ Some note

-- each placement of a legal record stands at a page, and meets none before it
abbrev pub BookLaw : Type 0
BookLaw = (c r : ℕ) (P : List Step) → IsLegal c r P → Grows [] (book_of P)

-- as a record goes on, its book grows
abbrev pub BookGrowsLaw : Type 0
BookGrowsLaw = (c r : ℕ) (P more : List Step) → Runs c r P more → Grows (book_of P) (book_of more)

-- each item is of another path than all behind it
abbrev pub AreApart : List CacheItem → Type 0
AreApart [] = Unit {0}
AreApart (i ∷ items) = (is_held items i.path ≡ false) × AreApart items

-- a cache has one item of a path at most, whatever the steps
abbrev pub CacheLaw : Type 0
CacheLaw = (P : List Step) → AreApart (cache_after P)

-- a place that a link request holds stays its place as the record goes on, and so does want of room
abbrev pub PlaceStaysLaw : Type 0
PlaceStaysLaw =
    (c r : ℕ) (P more : List Step) (a : Ask) (plan : Plan) (base : ℕ) → Runs c r P more
    → a.version ≤ version_after P → HasPlace P a plan (place.Held base)
    → HasPlace (P ++ more) a plan (place.Held base)

abbrev pub NoRoomStaysLaw : Type 0
NoRoomStaysLaw =
    (c r : ℕ) (P more : List Step) (a : Ask) (plan : Plan) → Runs c r P more
    → a.version ≤ version_after P → HasPlace P a plan place.NoRoom
    → HasPlace (P ++ more) a plan place.NoRoom

-- a link request stays open, and gets no placement, while none of the steps is its seat's
abbrev pub OpenStaysLaw : Type 0
OpenStaysLaw =
    (c r : ℕ) (P more : List Step) (a : Ask) → IsLegal c r P → Runs c r P more → IsOpen P a
    → a.hit ≡ false → All (λ s. seat_of s ≢ a.seat) more
    → IsOpen (P ++ more) a × (is_placed (P ++ more) a.number ≡ is_placed P a.number)
