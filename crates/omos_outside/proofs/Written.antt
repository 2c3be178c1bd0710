-- Bytes that are written in pieces.
use Rattle.std.proofs.Common.{◌≡◌, ℕ, ◌+◌, List, ◌++◌, length, take, Option, sym, subst, arith}
use Rattle.std.proofs.Common.{length-append}
use Rattle.std.proofs.lemmas.List.{take-append-le}
use Rattle.std.proofs.Math.Seq.{take-append-add}
use Rattle.std.specs.Io.KnownBytes.{Appends}
use Rattle.omos_outside.specs.declared.writing.Sent.{Sent}
use Rattle.omos_outside.specs.declared.writing.Sent.TheVariants.{All, Failed}
use Rattle.omos_outside.specs.Sent.{Wrote, WrotePart}
use Rattle.omos_outside.proofs.Known.{Appends-then}

-- a part of the first piece is a part of both
pub part_front : (a b : Option (List ℕ)) (first second : List ℕ)
    → WrotePart a b first → WrotePart a b (first ++ second)
part_front a b first second part =
    let front : take part.0 (first ++ second) ≡ take part.0 first =
    take-append-le part.0 first second (omega (arith, part.1)) in (
      part.0,
      omega (arith, length-append first second, part.1),
      subst (Appends a b) (sym front) part.2,
    )

-- a part of the second piece, after the first
pub part_after : (a b c : Option (List ℕ)) (first second : List ℕ)
    → Appends a b first → WrotePart b c second → WrotePart a c (first ++ second)
part_after a b c first second all part =
    let front : take (length first + part.0) (first ++ second) ≡ first ++ take part.0 second =
    take-append-add first second part.0 in
    let both = Appends-then a b c first (take part.0 second) all part.2 in (
      length first + part.0,
      omega (arith, length-append first second, part.1),
      subst (Appends a c) (sym front) both,
    )

-- what was written of the second piece, after the first
pub wrote_after : (sent : Sent) (a b c : Option (List ℕ)) (first second : List ℕ)
    → Appends a b first → Wrote sent b c second → Wrote sent a c (first ++ second)
wrote_after All a b c first second all wrote = Appends-then a b c first second all wrote
wrote_after Failed a b c first second all wrote = part_after a b c first second all wrote
