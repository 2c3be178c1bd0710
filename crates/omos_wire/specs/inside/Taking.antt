-- What is taken from the front of bytes.
use Rattle.std.specs.Prelude.{◌≡◌, ℕ, ◌+◌, ◌<◌, ◌≤◌, ◌^◌, List, ◌++◌, length, drop, slice_range}
use Rattle.omos_base.specs.Endian.{little_bytes}
use Rattle.omos_base.specs.Fields.{number_at}
use Rattle.std.specs.List.{AllByRecursion, flat_map}
use Rattle.omos_base.specs.Paths.{IsPath}
use Rattle.omos_model.specs.declared.refusal.Site.{Site}
use Rattle.refusal_lines.specs.Codes.{IsField}
use Rattle.omos_wire.specs.Fielded.{field_bytes}
use Rattle.refusal_lines.specs.Codes.{Coded, Field}
use Rattle.omos_wire.specs.Fielded.{field}
use Rattle.omos_wire.specs.inside.Reading.{text_size}

-- a number of this width, and the rest
pub record TookNumber (width : ℕ) (bytes : List ℕ) (n : ℕ) (rest : List ℕ) : Type 0 where
  pub size : length bytes ≡ width + length rest
  pub small : n < 256 ^ width
  pub value : n ≡ number_at width 0 bytes
  pub rest_is : rest ≡ drop width bytes
  pub whole : bytes ≡ little_bytes width n ++ rest

-- no text stands there behind its length
abbrev pub NoText : List ℕ → Type 0
NoText bytes = (2 ≤ length bytes) → (2 + text_size bytes ≤ length bytes) → ⊥

-- a text and the rest
pub record TookText (bytes text rest : List ℕ) : Type 0 where
  pub sized : 2 ≤ length bytes
  pub there : 2 + text_size bytes ≤ length bytes
  pub text_is : text ≡ slice_range bytes 2 (2 + text_size bytes)
  pub rest_is : rest ≡ drop (2 + text_size bytes) bytes
  pub whole : bytes ≡ field text ++ rest
  pub short : length text < 2 ^ 16

-- a text of this kind was taken, with this value
pub record TookOf (Is : List ℕ → Type 0) (bytes text rest : List ℕ) : Type 0 where
  pub took : TookText bytes text rest
  pub is : Is text

-- no text of this kind stands there, whatever follows
abbrev pub NoTextOf : (List ℕ → Type 0) → List ℕ → Type 0
NoTextOf Is bytes =
    (2 ≤ length bytes) → (2 + text_size bytes ≤ length bytes)
    → Is (slice_range bytes 2 (2 + text_size bytes)) → ⊥

-- fields with these bytes, and nothing else
pub record AreFields (fields : List Field) (bytes : List ℕ) : Type 0 where
  pub whole : flat_map field_bytes fields ≡ bytes
  pub values : AllByRecursion IsField fields

-- a refusal with this row was read
pub record IsCoded (row : Coded) (code : ℕ) (bytes : List ℕ) : Type 0 where
  pub code_is : row.code ≡ code
  pub fields : AreFields row.fields bytes

-- no site stands there, whatever follows
abbrev pub NoSite : List ℕ → Type 0
NoSite bytes =
    (2 ≤ length bytes) → (2 + text_size bytes ≤ length bytes)
    → IsPath (slice_range bytes 2 (2 + text_size bytes))
    → 4 ≤ length (drop (2 + text_size bytes) bytes) → ⊥

-- a site and the rest
pub record TookSite (bytes : List ℕ) (site : Site) (rest : List ℕ) : Type 0 where
  pub behind : List ℕ
  pub path : TookOf IsPath bytes site.path behind
  pub node : TookNumber 4 behind site.node rest
  pub small : site.node < 2 ^ 32
