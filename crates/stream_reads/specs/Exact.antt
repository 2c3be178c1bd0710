-- Reading so many bytes.
use Rattle.std.specs.Prelude.{◌≡◌, ℕ, ◌<◌, List, ◌++◌, length, ⊤, Option, Result, Ok, Err}
use Rattle.omos_outside.specs.Stream.{Stream, Gives, IsAtEnd}
use Rattle.stream_reads.specs.declared.exact.Unread.{Unread}
use Rattle.stream_reads.specs.declared.exact.Unread.TheVariants.{Ended, Failed, NoMemory}

-- the bytes are those before, and what the source gave
pub record Grew (before now : Option Stream) (bytes grown : List ℕ) : Type 0 where
  pub more : List ℕ
  pub added : grown ≡ bytes ++ more
  pub given : Gives before now more

-- There are so many bytes; or the source has ended or failed, and there are fewer. Nothing is said
-- where memory ran out.
abbrev pub Filled : Result Unit Unread → Option Stream → Option Stream → List ℕ → List ℕ → ℕ
    → Type 0
Filled (Ok done) before now bytes grown size =
    Grew before now bytes grown × (length grown ≡ size)
Filled (Err Ended) before now bytes grown size =
    Grew before now bytes grown × (length grown < size) × IsAtEnd now
Filled (Err Failed) before now bytes grown size =
    Grew before now bytes grown × (length grown < size)
Filled (Err NoMemory) before now bytes grown size = ⊤
