-- What the steps of a record say together: the namespace, the book, the requests.
use Rattle.std.specs.Prelude.{◌≡◌, ℕ, Bool, false, List, [], ◌∷◌, Option, Some, None}
use Rattle.std.specs.Prelude.{filter_map, count_by, sum_by}
use Rattle.std.specs.List.{list_any, before_first}
use Rattle.omos_model.specs.Names.{Name}
use Rattle.omos_model.specs.Namespace.{Space, namespace_at, version_of}
use Rattle.omos_model.specs.declared.entry.Entry.{Entry}
use Rattle.omos_model.specs.declared.placement.Placement.{Placement}
use Rattle.history_book.specs.Steps.{is_request, put_of, size_of, placement_of, Ask, ask_in}
use Rattle.history_book.specs.Steps.{note_in, is_ask_of, is_answer_of, is_placing_of}
use Rattle.history_book.specs.declared.step.Note.{Note}
use Rattle.history_book.specs.declared.step.Step.{Step}

-- how many requests there are: the next one's number
abbrev pub requests : List Step → ℕ
requests P = count_by is_request P

-- ---- the namespace

-- the paths and entries of the publishes, in order
abbrev pub puts_of : List Step → List (Name × Entry)
puts_of P = filter_map put_of P

abbrev pub version_after : List Step → ℕ
version_after P = version_of (puts_of P)

-- version v of the namespace
abbrev pub namespace_in : List Step → ℕ → Space
namespace_in P v = namespace_at (puts_of P) v

-- the present version
abbrev pub namespace_after : List Step → Space
namespace_after P = namespace_in P (version_after P)

-- the published bytes in all
abbrev pub kept_bytes : List Step → ℕ
kept_bytes P = sum_by size_of P

-- ---- the book

-- the placements, in order of placing
abbrev pub book_of : List Step → List Placement
book_of P = filter_map placement_of P

-- ---- link requests

abbrev pub first_of : {X : Type 0} → List X → Option X
first_of [] = None
first_of (x ∷ xs) = Some x

-- the link request with the number; there is one at most in a legal record
abbrev pub ask_of : List Step → ℕ → Option Ask
ask_of P n = first_of (filter_map (ask_in n) P)

-- how the link request with the number ended; there is one answer at most in a legal record
abbrev pub note_of : List Step → ℕ → Option Note
note_of P n = first_of (filter_map (note_in n) P)

abbrev pub is_answered : List Step → ℕ → Bool
is_answered P n = list_any (is_answer_of n) P

abbrev pub is_placed : List Step → ℕ → Bool
is_placed P n = list_any (is_placing_of n) P

-- a link request that missed the cache
abbrev pub missing : ℕ → ℕ → Name → ℕ → Ask
missing seat number path version =
    record { seat = seat; number = number; path = path; version = version; hit = false }

-- it was asked, and has no answer yet
pub record IsOpen (P : List Step) (a : Ask) : Type 0 where
  pub asked : ask_of P a.number ≡ Some a
  pub waits : is_answered P a.number ≡ false

-- the steps before the link request with the number
abbrev pub before_ask : List Step → ℕ → List Step
before_ask P n = before_first (is_ask_of n) P
