-- What ends a path that has begun.
use Rattle.std.proofs.Common.{◌≡◌, ℕ, suc, ◌+◌, ◌<◌, ◌≤◌, List, [], ◌∷◌, ◌++◌, ◌⊎◌, inl, inr}
use Rattle.std.proofs.Common.{length, refl, subst, arith}
use Rattle.std.specs.Prelude.{All}
use Rattle.std.proofs.lemmas.List.Elements.{All-nil, All-cons, All-head, All-tail}
use Rattle.omos_base.specs.Paths.{IsPartByte, IsPart, AreParts, joined}

-- the rest ends a path of which so many parts have begun, the last of them with so many bytes
abbrev pub Follows : ℕ → ℕ → List ℕ → Type 0
Follows count size [] = 1 ≤ size
Follows count size (byte ∷ rest) =
    ((byte ≡ 47) × (1 ≤ size) × (count < 16) × Follows (count + 1) 0 rest)
    ⊎ (IsPartByte byte × (size < 64) × Follows count (size + 1) rest)

-- the bytes are those of parts, each after a `/`, however many bytes that makes
abbrev pub AreJoined : List ℕ → Type 0
AreJoined bytes = (parts : List (List ℕ)) × AreParts parts × (bytes ≡ joined parts)

-- a part has no `/`
pub slash_in_part : (byte : ℕ) → byte ≡ 47 → IsPartByte byte → ⊥
slash_in_part byte e h = grind arith

-- the rest of a part, and then parts, follow
follows_part : (part : List ℕ) (count size : ℕ) (rest : List ℕ) → All IsPartByte part
    → size + length part ≤ 64 → Follows count (size + length part) rest
    → Follows count size (part ++ rest)
follows_part [] count size rest all fits h = subst (λ n. Follows count n rest) (omega arith) h
follows_part (byte ∷ part) count size rest all fits h =
    let same : size + suc (length part) ≡ size + 1 + length part = omega arith in
    let P : ℕ → Type 0 = λ n. Follows count n rest in
    let letters = All-tail IsPartByte byte part all in
    let after = follows_part part count (size + 1) rest letters (omega arith) (subst P same h) in
    inr (All-head IsPartByte byte part all, omega arith, after)

follows_parts : (parts : List (List ℕ)) (count size : ℕ) → 1 ≤ size → count + length parts ≤ 16
    → All IsPart parts → Follows count size (joined parts)
follows_parts [] count size some fits all = some
follows_parts (part ∷ parts) count size some fits all =
    let this : IsPart part = All-head IsPart part parts all in
    let later = All-tail IsPart part parts all in
    let some' : 1 ≤ 0 + length part = omega arith in
    let next = follows_parts parts (count + 1) (0 + length part) some' (omega arith) later in
    let after = follows_part part (count + 1) 0 (joined parts) this.2 (omega arith) next in
    inl (refl, some, omega arith, after)

-- the end of a path: what the last part lacks, and the parts after it
record Ending (count size : ℕ) (rest : List ℕ) : Type 0 where
  part : List ℕ
  parts : List (List ℕ)
  some : 1 ≤ size + length part
  short : size + length part ≤ 64
  letters : All IsPartByte part
  few : count + length parts ≤ 16
  all : All IsPart parts
  is : rest ≡ part ++ joined parts

-- what follows is such an end
ending : (rest : List ℕ) (count size : ℕ) → count ≤ 16 → size ≤ 64 → Follows count size rest
    → Ending count size rest
ending [] count size few short h = record {
  part = [];
  parts = [];
  some = omega arith;
  short = omega arith;
  letters = All-nil IsPartByte;
  few = omega arith;
  all = All-nil IsPart;
  is = refl;
}
ending (byte ∷ rest) count size few short h =
    elim h [
      | inl s ↦
          let e = ending rest (count + 1) 0 (omega arith) (omega arith) s.3 in
          let this : IsPart e.part = (omega arith, omega arith, e.letters) in
          record {
            part = [];
            parts = e.part ∷ e.parts;
            some = omega arith;
            short = omega arith;
            letters = All-nil IsPartByte;
            few = omega arith;
            all = All-cons IsPart e.part e.parts this e.all;
            is = cc;
          }
      | inr s ↦
          let e = ending rest count (size + 1) few (omega arith) s.2 in
          record {
            part = byte ∷ e.part;
            parts = e.parts;
            some = omega arith;
            short = omega arith;
            letters = All-cons IsPartByte byte e.part s.0 e.letters;
            few = e.few;
            all = e.all;
            is = cc;
          }
    ]

-- after the first `/` follows what ends a path
pub after_slash : (parts : List (List ℕ)) (rest : List ℕ) → AreParts parts
    → 47 ∷ rest ≡ joined parts
    → Follows 1 0 rest
after_slash [] rest are is = absurd (omega arith)
after_slash (part ∷ parts) rest are is =
    let this : IsPart part = All-head IsPart part parts are.2 in
    let later = All-tail IsPart part parts are.2 in
    let same : rest ≡ part ++ joined parts = cc in
    let next = follows_parts parts 1 (0 + length part) (omega arith) (omega arith) later in
    rw same (follows_part part 1 0 (joined parts) this.2 (omega arith) next)

pub from_slash : (rest : List ℕ) → Follows 1 0 rest → AreJoined (47 ∷ rest)
from_slash rest h =
    let e = ending rest 1 0 (omega arith) (omega arith) h in
    let this : IsPart e.part = (omega arith, omega arith, e.letters) in
    let all = All-cons IsPart e.part e.parts this e.all in
    (e.part ∷ e.parts, (omega arith, omega arith, all), cc)
