-- What a `NameHasher` makes of the bytes that are written to it.
use Rattle.std.specs.Prelude.{ℕ, zero, suc, ◌+◌, ◌-◌, ◌*◌, ◌/◌, ◌%◌, ◌^◌, List, length}
use Rattle.std.specs.Prelude.{if◌then◌else◌, nat_le, bit_xor, slice_index}
use Rattle.std.specs.Int.{w64, rotate_left}
use Rattle.omos_base.specs.Fields.{number_at}
use Rattle.seeded_hash.specs.declared.hasher.NameHasher.{NameHasher}

-- the two halves of the 128 bits of a product, joined by xor
unfoldable pub folded : ℕ → ℕ → ℕ
folded a b = bit_xor (a * b % 2 ^ 64) (a * b / 2 ^ 64)

-- at most eight bytes as one number; bytes in the middle may count twice
unfoldable pub short_number : List ℕ → ℕ
short_number bytes =
    let n = length bytes in
    if nat_le 4 n then number_at 4 0 bytes + 2 ^ 32 * number_at 4 (n - 4) bytes
    else if nat_le 1 n
    then slice_index bytes 0 + 256 * slice_index bytes (n / 2) + 65536 * slice_index bytes (n - 1)
    else 0

-- the state after the numbers of eight bytes from two places on
abbrev pub mixed : ℕ → List ℕ → ℕ → ℕ → ℕ → ℕ
mixed key bytes state i j =
    folded (bit_xor state (number_at 8 i bytes)) (bit_xor key (number_at 8 j bytes))

-- the state after this many blocks of sixteen bytes
unfoldable pub after_blocks : ℕ → List ℕ → ℕ → ℕ → ℕ
after_blocks key bytes state zero = state
after_blocks key bytes state (suc n) =
    mixed key bytes (after_blocks key bytes state n) (16 * n) (16 * n + 8)

-- the state after at most eight bytes
unfoldable pub after_short : ℕ → List ℕ → ℕ → ℕ
after_short key bytes state =
    folded (bit_xor state (short_number bytes)) (bit_xor key (length bytes))

-- the state after more: the blocks but the last, and then the last sixteen bytes, which are fewer
-- where there are fewer
unfoldable pub after_long : ℕ → List ℕ → ℕ → ℕ
after_long key bytes state =
    let n = length bytes in
    let turned = rotate_left w64 state (n % 64) in
    mixed key bytes (after_blocks key bytes turned ((n - 1) / 16)) (n - 16) (n - 8)

-- the hasher after the bytes
unfoldable pub after : NameHasher → List ℕ → NameHasher
after h bytes = record {
  state = if nat_le (length bytes) 8 then after_short h.key bytes h.state
      else after_long h.key bytes h.state;
  key = h.key;
}
