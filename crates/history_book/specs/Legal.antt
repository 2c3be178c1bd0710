-- Which records are legal.
use Rattle.std.specs.Prelude.{◌≡◌, ℕ, ◌+◌, ◌≤◌, ◌⊎◌, false, List, [], ◌∷◌, ◌++◌}
use Rattle.std.specs.Prelude.{Option, Some, None, Ok, Err}
use Rattle.omos_model.specs.Names.{Name}
use Rattle.omos_model.specs.declared.refusal.Refusal.{Refusal}
use Rattle.omos_model.specs.declared.refusal.Refusal.TheVariants as refusal
use Rattle.link_model.specs.Plan.{Plan}
use Rattle.omos_model.specs.Places.{place_for}
use Rattle.omos_model.specs.declared.placement.Place.{Place}
use Rattle.omos_model.specs.declared.placement.Place.TheVariants as place
use Rattle.history_book.specs.Steps.{Ask}
use Rattle.history_book.specs.Told.{requests, namespace_after, version_after, kept_bytes}
use Rattle.history_book.specs.Told.{book_of, IsOpen, missing, is_placed}
use Rattle.history_book.specs.Asked.{plan_for, answer_for}
use Rattle.history_book.specs.Room.{HasRoom}
use Rattle.history_book.specs.Cache.{cache_after, is_hit, is_held}
use Rattle.history_book.specs.Due.{due}
use Rattle.history_book.specs.declared.step.Note.{Note}
use Rattle.history_book.specs.declared.step.Note.TheVariants.{Image, Refused, NoMemory, Replayed}
use Rattle.history_book.specs.declared.step.Step.{Step}
use Rattle.history_book.specs.declared.step.Step.TheVariants.{Put, Missed, Looked, Asked, Placed}
use Rattle.history_book.specs.declared.step.Step.TheVariants.{Answered, Evicted, Stored, Flushed}

-- the published bytes in all that a record may have
abbrev pub max_kept : ℕ
max_kept = 268435456

-- a request draws the next number, and there is room for it
pub record IsRequest (r : ℕ) (P : List Step) (number : ℕ) : Type 0 where
  pub next : number ≡ requests P
  pub fits : HasRoom r P

-- the link request has a plan on its version, and this is the plan's place in the book
pub record HasPlace (P : List Step) (a : Ask) (plan : Plan) (at : Place) : Type 0 where
  pub planned : plan_for P a ≡ Ok plan
  pub place : place_for (book_of P) a.path plan.pages plan.lo plan.hi ≡ at

-- why a link request has no image: it has no plan, or its plan no place (L12), or its image at
-- that place a field that doesn't fit (L13)
abbrev pub IsRefusal : List Step → Ask → Refusal → Type 0
IsRefusal P a x =
    (plan_for P a ≡ Err x)
    ⊎ ((plan : Plan) × HasPlace P a plan place.NoRoom
    × (x ≡ refusal.NoRoom plan.pages plan.lo plan.hi))
    ⊎ ((plan : Plan) × (base : ℕ) × HasPlace P a plan (place.Held base)
    × (answer_for P a base ≡ Err x))

-- how a link request may end; seat 0 is no session's
abbrev pub MayEnd : List Step → Ask → Note → Type 0
MayEnd P a (Image base) =
    (plan : Plan) × (bytes : List ℕ) × HasPlace P a plan (place.Held base)
    × (answer_for P a base ≡ Ok bytes)
MayEnd P a (Refused x) = IsRefusal P a x
MayEnd P a NoMemory = Unit {0}
MayEnd P a Replayed =
    (a.seat ≡ 0) × (plan : Plan) × (base : ℕ) × HasPlace P a plan (place.Held base)

-- the step may follow those of P, where none is due
abbrev pub IsAllowed : ℕ → List Step → Step → Type 0
IsAllowed r P (Put seat number path entry size) =
    IsRequest r P number × (kept_bytes P + size ≤ max_kept)
IsAllowed r P (Missed seat number) = IsRequest r P number
IsAllowed r P (Looked seat number look) = IsRequest r P number
IsAllowed r P (Asked seat number path version hit) =
    IsRequest r P number × (version ≡ version_after P)
    × (hit ≡ is_hit (namespace_after P) (cache_after P) path)
IsAllowed r P (Flushed seat number path held) =
    IsRequest r P number × (held ≡ is_held (cache_after P) path)
IsAllowed r P (Placed seat number path base pages) =
    (version : ℕ) × (plan : Plan) × IsOpen P (missing seat number path version)
    × (is_placed P number ≡ false)
    × HasPlace P (missing seat number path version) plan (place.New base)
    × (plan.pages ≡ pages)
IsAllowed r P (Answered seat number note) =
    (path : Name) × (version : ℕ) × IsOpen P (missing seat number path version)
    × MayEnd P (missing seat number path version) note
IsAllowed r P (Evicted seat number path) = ⊥
IsAllowed r P (Stored seat number path version) = ⊥

-- the step is the one that is due, or else one that may follow
abbrev pub FollowsDue : ℕ → List Step → Step → Option Step → Type 0
FollowsDue r P s (Some d) = s ≡ d
FollowsDue r P s None = IsAllowed r P s

abbrev pub Follows : ℕ → ℕ → List Step → Step → Type 0
Follows c r P s = FollowsDue r P s (due c P)

-- more steps follow those of P, one after the other
abbrev pub Runs : ℕ → ℕ → List Step → List Step → Type 0
Runs c r P [] = Unit {0}
Runs c r P (s ∷ more) = Follows c r P s × Runs c r (P ++ s ∷ []) more

-- each step of the record follows those before it, and none is due at its end; the cache may hold
-- c items, and the record r steps
pub record IsLegal (c r : ℕ) (H : List Step) : Type 0 where
  pub runs : Runs c r [] H
  pub done : due c H ≡ None
