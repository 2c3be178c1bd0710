-- The step that has to come next, where there is one.
use Rattle.std.specs.Prelude.{ℕ, nat_le, Bool, true, not, ◌&&◌, if◌then◌else◌}
use Rattle.std.specs.Prelude.{List, [], ◌∷◌, ◌++◌, length, reverse, Option, Some, None}
use Rattle.std.specs.List.{last_or}
use Rattle.std.specs.Option.{option_map}
use Rattle.omos_model.specs.Names.{Name}
use Rattle.history_book.specs.Steps.{Ask}
use Rattle.history_book.specs.Told.{ask_of}
use Rattle.history_book.specs.Cache.{CacheItem, cache_after, item_of, is_held, has_as_new}
use Rattle.history_book.specs.declared.step.Note.TheVariants.{Image}
use Rattle.history_book.specs.declared.step.Step.{Step}
use Rattle.history_book.specs.declared.step.Step.TheVariants.{Asked, Answered, Evicted}
use Rattle.history_book.specs.declared.step.Step.TheVariants.{Stored, Flushed}

abbrev pub eviction : ℕ → ℕ → Option CacheItem → Option Step
eviction seat number (Some i) = Some (Evicted seat number i.path)
eviction seat number None = None

-- c items are held, none of them the path's
abbrev pub is_crowded : ℕ → List CacheItem → Name → Bool
is_crowded c items path = not (is_held items path) && nat_le c (length items)

-- an image is stored, unless one as new is held; in a crowded cache the last item goes first
abbrev pub storing : ℕ → List CacheItem → ℕ → ℕ → Name → ℕ → Option Step
storing c items seat number path version =
    if has_as_new items path version then None
    else if is_crowded c items path then eviction seat number (last_or None items)
    else Some (Stored seat number path version)

-- an image that came from the cache isn't stored again
abbrev pub storing_for : ℕ → List CacheItem → ℕ → ℕ → Option Ask → Option Step
storing_for c items seat number None = None
storing_for c items seat number (Some a) =
    if a.hit then None else storing c items seat number a.path a.version

-- what the last steps make due, the last one first
abbrev pub due_behind : ℕ → List Step → List Step → Option Step
due_behind c P (Asked seat number path version true ∷ before) =
    option_map (λ i. Answered seat number (Image i.base)) (item_of path (cache_after P))
due_behind c P (Answered seat number (Image base) ∷ before) =
    storing_for c (cache_after P) seat number (ask_of P number)
due_behind c P (Evicted seat number path ∷ Answered s n note ∷ before) =
    option_map (λ a. Stored seat number a.path a.version) (ask_of P number)
due_behind c P (Flushed seat number path true ∷ before) = Some (Evicted seat number path)
due_behind c P _ = None

-- the step that is due behind those of P, in a server whose cache holds c items
unfoldable pub due : ℕ → List Step → Option Step
due c P = due_behind c P (reverse P)

-- ---- a step makes two more due at most

abbrev pub one_due : Option Step → List Step
one_due None = []
one_due (Some d) = d ∷ []

abbrev pub dues_from : ℕ → List Step → Option Step → List Step
dues_from c P None = []
dues_from c P (Some d) = d ∷ one_due (due c (P ++ d ∷ []))

-- the steps that are due behind those of P
abbrev pub dues : ℕ → List Step → List Step
dues c P = dues_from c P (due c P)
