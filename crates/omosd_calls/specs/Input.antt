-- The file that a run reads.
use Rattle.std.specs.Prelude.{◌≡◌, ◌⊎◌, ℕ, ◌+◌, ◌<◌, ◌≤◌, List, ◌++◌, length, drop, ⊤, Option, None}
use Rattle.std.specs.Prelude.{Some}
use Rattle.omos_outside.specs.Stream.{Stream, Gives, IsAtEnd}
use Rattle.omos_outside.specs.declared.source.Got.{Got}
use Rattle.omos_outside.specs.declared.source.Got.TheVariants.{Bytes, End, Failed}

-- the source gave this file, to its end or to one byte more than an object may have
pub record IsInput (before now : Option Stream) (file : List ℕ) : Type 0 where
  pub given : Gives before now file
  pub few : length file ≤ 1048577
  pub ended : (length file ≡ 1048577) ⊎ IsAtEnd now

-- a file was read for which this holds
abbrev pub HasRead : Option Stream → Option Stream → (List ℕ → Type 0) → Type 0
HasRead before now P = (file : List ℕ) × IsInput before now file × P file

-- the source tells its bytes, and gave this file
abbrev pub ToldInput : Option Stream → Option Stream → List ℕ → Type 0
ToldInput None now file = ⊥
ToldInput (Some before) now file = IsInput (Some before) now file
