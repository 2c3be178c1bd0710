-- Which bytes are a reply: the kinds and the codes, by the forms of their fields.
use Rattle.std.specs.Prelude.{◌≡◌, ℕ, ◌+◌, ◌*◌, ◌-◌, ◌≤◌, ◌==◌, ◌⊎◌, if◌then◌else◌, List, [], ◌∷◌}
use Rattle.std.specs.Prelude.{length, drop, slice_index, slice_range, Option, None, Some}
use Rattle.omos_base.specs.Fields.{number_at}
use Rattle.omos_base.specs.Paths.{IsPath}
use Rattle.omos_base.specs.SymNames.{IsSymName}
use Rattle.omos_wire.specs.Answer.{longest_reply}
use Rattle.refusal_lines.specs.Codes.{Field}
use Rattle.refusal_lines.specs.Codes as codes

-- what a field is, without its value
pub data Form : Type 0 where
  Number : Form
  Wide : Form
  Path : Form
  Symbol : Form

abbrev pub form_of : Field → Form
form_of (codes.Number n) = Number
form_of (codes.Wide n) = Wide
form_of (codes.Path path) = Path
form_of (codes.Symbol name) = Symbol

-- how long the text is that begins the bytes
abbrev pub text_size : List ℕ → ℕ
text_size bytes = number_at 2 0 bytes

-- a text of this kind stands behind its length, and what follows it is so
pub record IsTextField (Is : List ℕ → Type 0) (Rest : List ℕ → Type 0)
    (bytes : List ℕ) : Type 0 where
  pub sized : 2 ≤ length bytes
  pub there : 2 + text_size bytes ≤ length bytes
  pub text : Is (slice_range bytes 2 (2 + text_size bytes))
  pub rest : Rest (drop (2 + text_size bytes) bytes)

-- the bytes are fields of these forms, and nothing else
abbrev pub FitsForms : List Form → List ℕ → Type 0
FitsForms [] bytes = bytes ≡ []
FitsForms (Number ∷ forms) bytes = (4 ≤ length bytes) × FitsForms forms (drop 4 bytes)
FitsForms (Wide ∷ forms) bytes = (8 ≤ length bytes) × FitsForms forms (drop 8 bytes)
FitsForms (Path ∷ forms) bytes = IsTextField IsPath (FitsForms forms) bytes
FitsForms (Symbol ∷ forms) bytes = IsTextField IsSymName (FitsForms forms) bytes

abbrev pub FitsAny : Option (List Form) → List ℕ → Type 0
FitsAny None bytes = ⊥
FitsAny (Some forms) bytes = FitsForms forms bytes

-- ---- the forms by code, for each kind of refusal

abbrev pub path_forms : ℕ → Option (List Form)
path_forms code = if code == 1 then Some [] else if code == 2 then Some (Number ∷ []) else None

abbrev pub text_forms : ℕ → Option (List Form)
text_forms code =
    if code == 31 then Some []
    else if code == 32 then Some (Number ∷ [])
    else if code == 33 then Some (Number ∷ [])
    else if code == 34 then Some (Number ∷ [])
    else if code == 35 then Some (Number ∷ [])
    else if code == 36 then Some (Number ∷ [])
    else None

abbrev pub object_forms : ℕ → Option (List Form)
object_forms code =
    if code == 11 then Some []
    else if code == 12 then Some []
    else if code == 13 then Some []
    else if code == 14 then Some []
    else if code == 15 then Some (Number ∷ [])
    else if code == 16 then Some (Number ∷ [])
    else if code == 17 then Some []
    else if code == 18 then Some (Number ∷ [])
    else if code == 19 then Some (Symbol ∷ [])
    else if code == 20 then Some (Number ∷ [])
    else if code == 21 then Some (Number ∷ Number ∷ [])
    else None

abbrev pub link_forms : ℕ → Option (List Form)
link_forms code =
    if code == 41 then Some (Path ∷ Number ∷ Path ∷ [])
    else if code == 42 then Some (Path ∷ Number ∷ Path ∷ [])
    else if code == 43 then Some (Path ∷ Number ∷ Path ∷ [])
    else if code == 44 then Some (Path ∷ Number ∷ [])
    else if code == 45 then Some (Path ∷ Number ∷ Symbol ∷ [])
    else if code == 46 then Some (Path ∷ Number ∷ Symbol ∷ [])
    else if code == 47 then Some (Path ∷ Number ∷ Symbol ∷ [])
    else if code == 48 then Some (Path ∷ Number ∷ Symbol ∷ [])
    else if code == 49 then Some (Wide ∷ [])
    else if code == 50 then Some (Symbol ∷ [])
    else if code == 51 then Some (Number ∷ Number ∷ Symbol ∷ [])
    else if code == 52 then Some (Number ∷ Wide ∷ Wide ∷ [])
    else if code == 53 then Some (Number ∷ Number ∷ [])
    else None

-- ---- the shapes by kind

-- what stands behind a kind byte: fields; an image, after two numbers; placements, after their
-- count; nine counts; a flag; or a refusal's code and its fields
pub data Shape : Type 0 where
  Plain : List Form → Shape
  AnImage : Shape
  AList : Shape
  ACount : Shape
  AFlag : Shape
  ARefusal : Shape
  NoShape : Shape

abbrev pub shape_at : ℕ → Shape
shape_at kind =
    if kind == 129 then Plain (Wide ∷ [])
    else if kind == 130 then AnImage
    else if kind == 131 then ARefusal
    else if kind == 132 then AList
    else if kind == 133 then ACount
    else if kind == 134 then AFlag
    else if kind == 135 then Plain []
    else if kind == 136 then Plain []
    else if kind == 137 then Plain []
    else if kind == 138 then Plain []
    else NoShape

-- the code is one of the kinds of refusal, and its fields follow
pub record FitsCode (code : ℕ) (bytes : List ℕ) : Type 0 where
  pub fits : FitsAny (path_forms code) bytes ⊎ FitsAny (object_forms code) bytes
      ⊎ FitsAny (text_forms code) bytes ⊎ FitsAny (link_forms code) bytes

abbrev pub FitsShape : Shape → List ℕ → Type 0
FitsShape (Plain forms) bytes = FitsForms forms bytes
FitsShape AnImage bytes = 16 ≤ length bytes
FitsShape AList bytes = (4 ≤ length bytes) × (length bytes ≡ 4 + 12 * number_at 4 0 bytes)
FitsShape ACount bytes = length bytes ≡ 72
FitsShape AFlag bytes = (length bytes ≡ 1) × (slice_index bytes 0 ≤ 1)
FitsShape ARefusal bytes = (1 ≤ length bytes) × FitsCode (slice_index bytes 0) (drop 1 bytes)
FitsShape NoShape bytes = ⊥

-- the bytes are a whole frame of a reply
pub record IsReply (bytes : List ℕ) : Type 0 where
  pub long : 5 ≤ length bytes
  pub size : number_at 4 0 bytes ≡ length bytes - 4
  pub few : length bytes - 4 ≤ longest_reply
  pub shape : FitsShape (shape_at (slice_index bytes 4)) (drop 5 bytes)
