-- The keys of what was published.
use Rattle.std.specs.Prelude.{ℕ, List, map}
use Rattle.place_book.specs.Keys.{key_of}
use Rattle.history_book.specs.Told.{puts_of}
use Rattle.history_book.specs.declared.step.Step.{Step}

-- the keys of the paths of the publishes, in order
abbrev pub published : List Step → List ℕ
published P = map (λ put. key_of put.0) (puts_of P)
