-- Texts and refusals in frames.
use Rattle.std.specs.Prelude.{ℕ, List, ◌∷◌, ◌++◌, length}
use Rattle.std.specs.List.{flat_map}
use Rattle.omos_base.specs.Endian.{little_bytes}
use Rattle.refusal_lines.specs.Codes.{Coded, Field, Number, Wide, Path, Symbol}

-- two bytes of length, and that many bytes
abbrev pub field : List ℕ → List ℕ
field bytes = little_bytes 2 (length bytes) ++ bytes

-- a field of a refusal
abbrev pub field_bytes : Field → List ℕ
field_bytes (Number n) = little_bytes 4 n
field_bytes (Wide n) = little_bytes 8 n
field_bytes (Path path) = field path
field_bytes (Symbol name) = field name

-- a refusal: its code and its fields
abbrev pub coded_bytes : Coded → List ℕ
coded_bytes row = row.code ∷ flat_map field_bytes row.fields
