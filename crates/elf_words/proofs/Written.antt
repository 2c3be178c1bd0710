-- Parts written one behind another over the first bytes.
use Rattle.std.proofs.Common.{◌≡◌, ℕ, ◌+◌, List, [], ◌++◌, length, take, drop, refl}
use Rattle.std.proofs.Common.{length-append}
use Rattle.std.proofs.lemmas.List.{drop-drop}
use Rattle.std.proofs.Math.Seq.{take-append_seam, drop-append-add}
use Rattle.byteorder.specs.Numbers.{length-bytes_low_first}
use Rattle.omos_base.specs.Endian.{little_bytes}
use Rattle.omos_base.specs.Fields.{with_number}

-- these bytes, up to this place, stand for the first ones of the base
pub record Written (place : ℕ) (done base now : List ℕ) : Type 0 where
  pub long : length done ≡ place
  pub is : now ≡ done ++ drop place base

-- nothing is written yet
pub unwritten : (base : List ℕ) → Written 0 [] base base
unwritten base = record { long = refl; is = refl }

one_more : (width : ℕ) (done part base : List ℕ)
    → take (length done) (done ++ drop (length done) base) ++ part
    ++ drop (length done + width) (done ++ drop (length done) base)
    ≡ (done ++ part) ++ drop (length done + width) base
one_more width done part base =
    let rest : List ℕ = drop (length done) base in
    rw (
      take-append_seam done rest,
      drop-append-add done rest width,
      drop-drop width (length done) base,
    )

-- a part is written behind the others
pub written_more : {place : ℕ} {done base now : List ℕ} (width : ℕ) (part next : List ℕ)
    → Written place done base now → length part ≡ width
    → next ≡ take place now ++ part ++ drop (place + width) now
    → Written (place + width) (done ++ part) base next
written_more {done = done} {base = base} width part next before wide after = record {
  long = rw (length-append done part, before.long, wide);
  is = rw (after, before.is, ← before.long) (one_more width done part base);
}

-- a number of this many bytes is written behind the others
pub number_more : {place : ℕ} {done base now next : List ℕ} (width value : ℕ)
    → Written place done base now → next ≡ with_number width place value now
    → Written (place + width) (done ++ little_bytes width value) base next
number_more width value before after =
    let long = length-bytes_low_first 0 width value in
    written_more width (little_bytes width value) _ before long after
