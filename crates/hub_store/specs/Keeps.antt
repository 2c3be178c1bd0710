-- What a store keeps.
use Rattle.std.specs.Prelude.{◌≡◌, ◌≤◌, Bool, true, false, List, map, Option, Some, None}
use Rattle.std.specs.List.{All}
use Rattle.omos_base.specs.Limits.{Counts as Limits}
use Rattle.omos_model.specs.Footprint.{footprint}
use Rattle.omos_model.specs.Namespace.{Space}
use Rattle.omos_model.specs.declared.placement.Placement.{Placement}
use Rattle.image_cache.specs.Items.{path_of, is_fresh}
use Rattle.image_cache.specs.declared.item.Item.{Item}
use Rattle.history_book.specs.Told.{version_after, namespace_in, namespace_after, book_of}
use Rattle.history_book.specs.Owed.{IsNumbered, StepsFit}
use Rattle.history_book.specs.Cache.{CacheItem, cache_after}
use Rattle.history_book.specs.Legal.{IsLegal}
use Rattle.history_book.specs.declared.step.Step.{Step}

-- what an image that is held says to the record
abbrev pub fact_of : Item → CacheItem
fact_of i =
    record {
      number = i.number;
      path = path_of i;
      version = i.version;
      footprint = i.image.footprint;
      base = i.image.base;
    }

abbrev pub facts : List Item → List CacheItem
facts items = map fact_of items

-- the path's item passes the test
abbrev pub of_item : (Item → Bool) → Option Item → Bool
of_item test (Some i) = test i
of_item test None = false

-- its footprint is its path's at the version at which it was asked, and was current at the version
-- at which it was last found so
pub record IsKeptItem (P : List Step) (i : Item) : Type 0 where
  pub read : footprint (namespace_in P i.version) (path_of i) ≡ Some i.image.footprint
  pub asked : i.version ≤ version_after P
  pub current : is_fresh (namespace_in P i.current_at) i ≡ true
  pub found : i.current_at ≤ version_after P

-- the namespace, the book and the cache are what the steps say
pub record AreTold (P : List Step) (space : Space) (book : List Placement) (items : List Item)
    : Type 0 where
  pub space_is : space ≡ namespace_after P
  pub book_is : book ≡ book_of P
  pub cache_is : facts items ≡ cache_after P
  pub kept : All (IsKeptItem P) items
  pub numbered : IsNumbered P

-- the record is legal, the rest is what it says, and what it owes has room
pub record IsStore (limits : Limits) (P : List Step) (space : Space) (book : List Placement)
    (items : List Item) : Type 0 where
  pub legal : IsLegal limits.cache limits.steps P
  pub told : AreTold P space book items
  pub fits : StepsFit 0 limits.steps P
