-- The cache after a record.
use Rattle.std.specs.Prelude.{ℕ, ◌==◌, nat_le, Bool, true, false, ◌&&◌, if◌then◌else◌}
use Rattle.std.specs.Prelude.{List, [], ◌∷◌, ◌++◌, Option, Some, None, unwrap_or}
use Rattle.std.specs.List.{find, list_any, list_all, cons_option}
use Rattle.omos_model.specs.Names.{Name, same_name}
use Rattle.omos_model.specs.Namespace.{Space}
use Rattle.omos_model.specs.declared.entry.Stamped.{Stamped}
use Rattle.link_model.specs.Laws.{stamp_at}
use Rattle.history_book.specs.Steps.{Ask}
use Rattle.history_book.specs.Told.{note_of, missing}
use Rattle.history_book.specs.Asked.{footprint_for}
use Rattle.history_book.specs.declared.step.Note.{Note}
use Rattle.history_book.specs.declared.step.Note.TheVariants.{Image}
use Rattle.history_book.specs.declared.step.Step.{Step}
use Rattle.history_book.specs.declared.step.Step.TheVariants.{Asked, Evicted, Stored}

-- an image that is held, with the number of its link request and the version at which it was asked
pub record CacheItem : Type 0 where
  pub number : ℕ
  pub path : Name
  pub version : ℕ
  pub footprint : List Stamped
  pub base : ℕ

abbrev pub is_cached_as : Name → CacheItem → Bool
is_cached_as path i = same_name path i.path

-- the path's item
abbrev pub item_of : Name → List CacheItem → Option CacheItem
item_of path items = find (is_cached_as path) items

abbrev pub is_held : List CacheItem → Name → Bool
is_held items path = list_any (is_cached_as path) items

-- the items without the path's
abbrev pub without : Name → List CacheItem → List CacheItem
without path [] = []
without path (i ∷ items) = if is_cached_as path i then items else i ∷ without path items

-- the path's item goes to the front
abbrev pub to_front : Name → List CacheItem → List CacheItem
to_front path items = cons_option (item_of path items) (without path items)

-- ---- an item is current where each path that was read has the same stamp

abbrev pub is_stamp : Option ℕ → ℕ → Bool
is_stamp (Some m) n = m == n
is_stamp None n = false

abbrev pub is_current : Space → CacheItem → Bool
is_current ns i = list_all (λ s. is_stamp (stamp_at ns s.path) s.stamp) i.footprint

-- a current item of the path is held
abbrev pub is_hit : Space → List CacheItem → Name → Bool
is_hit ns items path = list_any (λ i. is_cached_as path i && is_current ns i) items

-- an item of the path of the same or a newer version is held
abbrev pub has_as_new : List CacheItem → Name → ℕ → Bool
has_as_new items path version =
    list_any (λ i. is_cached_as path i && nat_le version i.version) items

-- ---- the cache, the most recently used first

-- the base of an image
abbrev pub base_in : Option Note → ℕ
base_in (Some (Image base)) = base
base_in _ = 0

-- the image that a link request was answered
abbrev pub stored_item : List Step → Ask → CacheItem
stored_item P a =
    record {
      number = a.number;
      path = a.path;
      version = a.version;
      footprint = unwrap_or (footprint_for P a) [];
      base = base_in (note_of P a.number);
    }

-- the items once a step follows those of P
abbrev pub cache_with : List Step → List CacheItem → Step → List CacheItem
cache_with P items (Asked seat number path version true) = to_front path items
cache_with P items (Evicted seat number path) = without path items
cache_with P items (Stored seat number path version) =
    stored_item P (missing seat number path version) ∷ without path items
cache_with P items _ = items

abbrev pub cache_from : List Step → List CacheItem → List Step → List CacheItem
cache_from P items [] = items
cache_from P items (s ∷ more) = cache_from (P ++ s ∷ []) (cache_with P items s) more

abbrev pub cache_after : List Step → List CacheItem
cache_after P = cache_from [] [] P
