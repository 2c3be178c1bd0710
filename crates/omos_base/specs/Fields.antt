-- Numbers of a fixed width in a list of bytes, the lowest byte first.
use Rattle.std.specs.Prelude.{ℕ, List, ◌+◌, ◌++◌, take, drop, replicate}
use Rattle.byteorder.specs.Endian.{little_number, little_bytes}

-- the number of this many bytes that begins at this place
unfoldable pub number_at : ℕ → ℕ → List ℕ → ℕ
number_at width place bytes = little_number width (drop place bytes)

-- the bytes with a number of this many bytes written at this place
abbrev pub with_number : ℕ → ℕ → ℕ → List ℕ → List ℕ
with_number width place value bytes =
    take place bytes ++ little_bytes width value ++ drop (place + width) bytes

-- this many zero bytes
unfoldable pub zeros : ℕ → List ℕ
zeros count = replicate count 0
