-- What contracts see of a cache, and what its calls find and leave.
use Rattle.std.specs.Prelude.{◌≡◌, ℕ, ◌==◌, ◌<◌, nat_le, Bool, true, false, not, ◌&&◌}
use Rattle.std.specs.Prelude.{if◌then◌else◌, List, [], ◌∷◌, length, Option, Some, None}
use Rattle.std.specs.Prelude.{slice_index_or, drop}
use Rattle.std.specs.List.{All, find, list_any, list_all, last_or}
use Rattle.std.specs.Option.{option_map}
use Rattle.omos_model.specs.Names.{Name, same_name}
use Rattle.omos_model.specs.Namespace.{Space}
use Rattle.link_model.specs.Laws.{stamp_at}
use Rattle.place_book.specs.Keys.{is_listed}
use Rattle.image_cache.specs.declared.item.Item.{Item}

-- the items, the most recently used first, and how many there may be
pub record CacheParts : Type 0 where
  pub items : List Item
  pub capacity : ℕ

abbrev pub path_of : Item → Name
path_of i = i.image.path

abbrev pub is_at : Name → Item → Bool
is_at path i = same_name path (path_of i)

-- the path's item
abbrev pub item_at : Name → List Item → Option Item
item_at path items = find (is_at path) items

abbrev pub has_item : List Item → Name → Bool
has_item items path = list_any (is_at path) items

-- the items without the path's
abbrev pub without_path : Name → List Item → List Item
without_path path [] = []
without_path path (i ∷ items) = if is_at path i then items else i ∷ without_path path items

-- ---- an item is current where each path that was read has the same stamp

abbrev pub has_stamp : Option ℕ → ℕ → Bool
has_stamp (Some m) n = m == n
has_stamp None n = false

abbrev pub is_fresh : Space → Item → Bool
is_fresh ns i = list_all (λ s. has_stamp (stamp_at ns s.path) s.stamp) i.image.footprint

-- each path that was read has the same stamp, unless its key is one of what was published since the
-- item was last found current; `published` has a key of each publish, in order
abbrev pub IsKnown : Space → List ℕ → Item → Type 0
IsKnown ns published i =
    All
    (λ s. is_listed (drop i.current_at published) s.path ≡ false
    → has_stamp (stamp_at ns s.path) s.stamp ≡ true)
    i.image.footprint

-- a current item of the path stands at the position; or there is none
abbrev pub HasFound : List Item → Name → Space → Option ℕ → Type 0
HasFound items path ns (Some n) =
    (n < length items)
    × ((i : Item) → i ≡ slice_index_or items n i → (is_at path i && is_fresh ns i) ≡ true)
HasFound items path ns None = list_any (λ i. is_at path i && is_fresh ns i) items ≡ false

abbrev pub as_found : ℕ → Item → Item
as_found version i = record i { current_at = version }

-- ---- what leaves a full cache for an item of another path

abbrev pub last_path : List Item → Option Name
last_path items = option_map path_of (last_or None items)

abbrev pub leaving : CacheParts → Name → Option Name
leaving c path =
    if not (has_item c.items path) && nat_le c.capacity (length c.items)
    then last_path c.items
    else None

abbrev pub without_leaving : Option Name → List Item → List Item
without_leaving (Some path) items = without_path path items
without_leaving None items = items
