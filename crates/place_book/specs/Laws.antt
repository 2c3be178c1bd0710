-- Laws of placing.
use Rattle.std.specs.Prelude.{◌≡◌, ◌↔◌, ℕ, ◌%◌, ◌≤◌, List, [], ◌∷◌, ◌++◌, Some, None}
use Rattle.std.specs.List.{All}
use Rattle.omos_model.specs.Names.{Name}
use Rattle.omos_model.specs.Places.{past, IsApart, Grows, held, place_for}
use Rattle.omos_model.specs.declared.placement.Placement.{Placement}
use Rattle.omos_model.specs.declared.placement.Place.{Place}
use Rattle.omos_model.specs.declared.placement.Place.TheVariants.{Held, New, NoRoom}

-- ---- a place in words

-- so many pages at the base begin at a page, lie in lo to hi and meet no placement
pub record IsFreePlace (book : List Placement) (pages lo hi base : ℕ) : Type 0 where
  pub page : base % 4096 ≡ 0
  pub low : lo ≤ base
  pub high : past base pages ≤ hi
  pub apart : All (IsApart base (past base pages)) book

abbrev pub IsUnheld : List Placement → Name → ℕ → ℕ → ℕ → Type 0
IsUnheld book path pages lo hi = held book path pages lo hi ≡ None

-- held by the first placement that serves; or else new, and least of all that are free; or else
-- nothing is free
abbrev pub IsPlace : List Placement → Name → ℕ → ℕ → ℕ → Place → Type 0
IsPlace book path pages lo hi (Held base) =
    (p : Placement) × (held book path pages lo hi ≡ Some p) × (p.base ≡ base)
IsPlace book path pages lo hi (New base) =
    IsUnheld book path pages lo hi × IsFreePlace book pages lo hi base
    × ((other : ℕ) → IsFreePlace book pages lo hi other → base ≤ other)
IsPlace book path pages lo hi NoRoom =
    IsUnheld book path pages lo hi × ((base : ℕ) → IsFreePlace book pages lo hi base → ⊥)

abbrev pub PlaceLaw : Type 0
PlaceLaw =
    (book : List Placement) (path : Name) (pages lo hi : ℕ) (at : Place)
    → (place_for book path pages lo hi ≡ at) ↔ IsPlace book path pages lo hi at

-- ---- while a book grows

-- a place that is held stays that one, whatever comes
abbrev pub HeldStays : Type 0
HeldStays =
    (book more : List Placement) (path : Name) (pages lo hi base : ℕ)
    → place_for book path pages lo hi ≡ Held base
    → place_for (book ++ more) path pages lo hi ≡ Held base

-- want of room stays, since a later placement that serves would have been free room before
abbrev pub NoRoomStays : Type 0
NoRoomStays =
    (book more : List Placement) (path : Name) (pages lo hi : ℕ) → Grows book more
    → place_for book path pages lo hi ≡ NoRoom → place_for (book ++ more) path pages lo hi ≡ NoRoom

-- what was new is held, once it was placed
abbrev pub NewIsHeld : Type 0
NewIsHeld =
    (book : List Placement) (path : Name) (pages lo hi base : ℕ) (p : Placement)
    → place_for book path pages lo hi ≡ New base → p.base ≡ base → p.pages ≡ pages → p.path ≡ path
    → place_for (book ++ p ∷ []) path pages lo hi ≡ Held base
