-- What one read adds to a list of bytes.
use Rattle.std.specs.Prelude.{◌≡◌, ℕ, ◌+◌, ◌<◌, ◌≤◌, List, ◌++◌, length, drop, Option}
use Rattle.omos_outside.specs.Stream.{Stream, Gives, IsAtEnd}
use Rattle.omos_outside.specs.declared.source.Got.{Got}
use Rattle.omos_outside.specs.declared.source.Got.TheVariants.{Bytes, End, Failed}

-- a read that answered so made the bytes more; or it found the end, or failed
abbrev pub Advances : Got → Option Stream → List ℕ → List ℕ → Type 0
Advances (Bytes count) now bytes grown = length bytes < length grown
Advances End now bytes grown = (length grown ≡ length bytes) × IsAtEnd now
Advances Failed now bytes grown = length grown ≡ length bytes

-- a read added what the source gave, at most so many bytes
pub record HasMore (before now : Option Stream) (bytes grown : List ℕ) (room : ℕ)
    (got : Got) : Type 0 where
  pub added : grown ≡ bytes ++ drop (length bytes) grown
  pub given : Gives before now (drop (length bytes) grown)
  pub few : length grown ≤ length bytes + room
  pub advances : Advances got now bytes grown
