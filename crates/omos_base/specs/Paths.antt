-- Paths of entries, as lists of bytes.
use Rattle.std.specs.Prelude.{ℕ, ◌≡◌, ◌+◌, ◌<◌, ◌≤◌, List, ◌∷◌, ◌++◌, ◌⊎◌, All, length, take}
use Rattle.std.specs.Char.{IsAsciiAlphanumeric}
use Rattle.std.specs.List.{flat_map}
use Rattle.omos_base.specs.declared.path_name.PathFault.{PathFault}
use Rattle.omos_base.specs.declared.path_name.PathFault.TheVariants.{Long, Shape}

-- an ASCII letter or digit, or one of `.`, `_`, `+` and `-`
abbrev pub IsPartByte : ℕ → Type 0
IsPartByte byte =
    IsAsciiAlphanumeric byte ⊎ (byte ≡ 46) ⊎ (byte ≡ 95) ⊎ (byte ≡ 43) ⊎ (byte ≡ 45)

-- a part of a path has 1 to 64 bytes
abbrev pub IsPart : List ℕ → Type 0
IsPart part = (1 ≤ length part) × (length part ≤ 64) × All IsPartByte part

-- a path has 1 to 16 parts
abbrev pub AreParts : List (List ℕ) → Type 0
AreParts parts = (1 ≤ length parts) × (length parts ≤ 16) × All IsPart parts

-- the bytes of the parts, each after a `/`
abbrev pub joined : List (List ℕ) → List ℕ
joined parts = flat_map (λ part. 47 ∷ part) parts

-- a path has at most 255 bytes: those of its parts, each after a `/`
abbrev pub IsPath : List ℕ → Type 0
IsPath bytes =
    (parts : List (List ℕ)) × AreParts parts × (bytes ≡ joined parts) × (length bytes ≤ 255)

-- some path begins with these bytes
abbrev pub BeginsPath : List ℕ → Type 0
BeginsPath bytes = (rest : List ℕ) × IsPath (bytes ++ rest)

-- the bytes up to and with the one at this place begin no path, and those up to an earlier one do
abbrev pub StopsAt : List ℕ → ℕ → Type 0
StopsAt bytes place =
    (place < length bytes) × ¬ BeginsPath (take (place + 1) bytes)
    × ((earlier : ℕ) → earlier < place → BeginsPath (take (earlier + 1) bytes))

-- the bytes begin a path and are none, and this is their length
abbrev pub EndsEarly : List ℕ → ℕ → Type 0
EndsEarly bytes place = (place ≡ length bytes) × BeginsPath bytes × ¬ IsPath bytes

-- why bytes are no path: there are more than 255, or else they stop being the beginning of one
abbrev pub HasPathFault : List ℕ → PathFault → Type 0
HasPathFault bytes Long = 255 < length bytes
HasPathFault bytes (Shape place) =
    (length bytes ≤ 255) × (StopsAt bytes place ⊎ EndsEarly bytes place)
