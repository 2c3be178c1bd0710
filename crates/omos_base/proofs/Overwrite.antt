-- A number that is written over the bytes from a place on.
use Rattle.std.proofs.Common.{◌≡◌, ℕ, ◌-◌, ◌≤◌, List, [], ◌++◌, length, take, drop, refl}
use Rattle.std.proofs.Common.{append_assoc, arith, length-drop}
use Rattle.std.proofs.lemmas.List.{append-nil, drop_all, drop-drop, take_rest}
use borrow.Rule.Slice.PartMut.{put_mid}
use Rattle.byteorder.specs.Endian.{little_bytes}
use Rattle.omos_base.specs.Fields.{with_number}

-- what the bytes are once the part from the place to the end holds the number and then what it held
pub overwrite : (width at value : ℕ) (bytes part : List ℕ) → at ≤ length bytes
    → part ≡ little_bytes width value ++ drop width (take (length bytes - at) (drop at bytes))
    → put_mid at (length bytes - at) bytes part ≡ with_number width at value bytes
overwrite width at value bytes part fits h =
    let past : drop (length bytes - at) (drop at bytes) ≡ [] =
    drop_all (length bytes - at) (drop at bytes) (omega (arith, length-drop at bytes)) in
    rw (past, append-nil part, h, take_rest bytes at, drop-drop width at bytes)
    (rw append_assoc refl)
