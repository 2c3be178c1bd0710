-- Where an image may stand: the place that its path holds, or else the least that is free.
use Rattle.std.specs.Prelude.{◌≡◌, ℕ, ◌+◌, ◌*◌, ◌/◌, ◌%◌, ◌≤◌, ◌⊎◌, nat_le, Bool, ◌&&◌}
use Rattle.std.specs.Prelude.{◌||◌}
use Rattle.std.specs.Prelude.{List, [], ◌∷◌, ◌++◌, map, Option, Some, None}
use Rattle.std.specs.List.{find, list_all, All}
use Rattle.omos_model.specs.ImageParts.{top}
use Rattle.omos_model.specs.Names.{Name, same_name}
use Rattle.omos_model.specs.Numbers.{numbers_from}
use Rattle.omos_model.specs.declared.placement.Placement.{Placement}
use Rattle.omos_model.specs.declared.placement.Place.{Place}
use Rattle.omos_model.specs.declared.placement.Place.TheVariants.{Held, New, NoRoom}

-- the first address past so many pages of 4,096 bytes from a base on
abbrev pub past : ℕ → ℕ → ℕ
past base pages = base + 4096 * pages

abbrev pub past_of : Placement → ℕ
past_of p = past p.base p.pages

abbrev pub is_of : Name → Placement → Bool
is_of path p = same_name path p.path

-- the placement is the path's, has at least so many pages, and lies in lo to hi
abbrev pub serves : Name → ℕ → ℕ → ℕ → Placement → Bool
serves path pages lo hi p =
    is_of path p && nat_le pages p.pages && nat_le lo p.base && nat_le (past_of p) hi

-- the first placement that serves, in order of placing
abbrev pub held : List Placement → Name → ℕ → ℕ → ℕ → Option Placement
held book path pages lo hi = find (serves path pages lo hi) book

-- the placement has none of the bytes from one address up to another
abbrev pub is_apart : ℕ → ℕ → Placement → Bool
is_apart from to p = nat_le to p.base || nat_le (past_of p) from

-- so many pages from the base on lie in lo to hi and meet no placement
abbrev pub is_free : List Placement → ℕ → ℕ → ℕ → ℕ → Bool
is_free book pages lo hi base =
    nat_le lo base && nat_le (past base pages) hi
    && list_all (is_apart base (past base pages)) book

-- the multiples of 4,096 from lo's page on, in order, beyond hi
abbrev pub page_starts : ℕ → ℕ → List ℕ
page_starts lo hi = map (λ n. 4096 * n) (numbers_from (lo / 4096) (hi / 4096 + 1))

-- the least multiple of 4,096 at which so many pages are free
abbrev pub least_free : List Placement → ℕ → ℕ → ℕ → Option ℕ
least_free book pages lo hi = find (is_free book pages lo hi) (page_starts lo hi)

abbrev pub unless_held : Option Placement → Option ℕ → Place
unless_held (Some p) free = Held p.base
unless_held None (Some base) = New base
unless_held None None = NoRoom

-- where an image of the path may stand that has so many pages and is to lie in lo to hi: at the
-- first placement that serves, or else at the least free address, or else nowhere
unfoldable pub place_for : List Placement → Name → ℕ → ℕ → ℕ → Place
place_for book path pages lo hi =
    unless_held (held book path pages lo hi) (least_free book pages lo hi)

-- so many pages at the place begin at a page, and end in user space
abbrev pub Stands : Place → ℕ → Type 0
Stands (Held base) pages = (base % 4096 ≡ 0) × (past base pages ≤ top)
Stands (New base) pages = (base % 4096 ≡ 0) × (past base pages ≤ top)
Stands NoRoom pages = Unit {0}

-- ---- how a book grows

abbrev pub IsApart : ℕ → ℕ → Placement → Type 0
IsApart from to p = (to ≤ p.base) ⊎ (past_of p ≤ from)

-- the placement begins at a page, and meets none of the book
pub record CanJoin (book : List Placement) (p : Placement) : Type 0 where
  pub page : p.base % 4096 ≡ 0
  pub apart : All (IsApart p.base (past_of p)) book

-- more placements join the book, one after the other
abbrev pub Grows : List Placement → List Placement → Type 0
Grows book [] = Unit {0}
Grows book (p ∷ more) = CanJoin book p × Grows (book ++ p ∷ []) more
