-- The table of refusals: the name that a line prints, the code that a frame has, and the fields.
use Rattle.std.specs.Prelude.{ℕ, ◌^◌, ◌<◌, List, [], ◌∷◌, ◌++◌, codes, decimal}
use Rattle.std.specs.List.{flat_map}
use Rattle.omos_base.specs.Paths.{IsPath}
use Rattle.omos_base.specs.SymNames.{IsSymName}
use Rattle.omos_base.specs.declared.path_name.PathFault.{PathFault}
use Rattle.omos_base.specs.declared.path_name.PathFault.TheVariants as path
use Rattle.omos_model.specs.declared.refusal.Site.{Site}
use Rattle.omos_model.specs.declared.refusal.ObjectFault.{ObjectFault}
use Rattle.omos_model.specs.declared.refusal.ObjectFault.TheVariants as object
use Rattle.omos_model.specs.declared.refusal.BpFault.{BpFault}
use Rattle.omos_model.specs.declared.refusal.BpFault.TheVariants as text
use Rattle.omos_model.specs.declared.refusal.Refusal.{Refusal}
use Rattle.omos_model.specs.declared.refusal.Refusal.TheVariants as link
use Rattle.refusal_lines.specs.declared.refused.Refused.{Refused}
use Rattle.refusal_lines.specs.declared.refused.Refused.TheVariants as code

-- a field of a refusal: a number of 32 bits, a number of 64 bits, a path, or the name of a symbol
pub data Field : Type 0 where
  Number : ℕ → Field
  Wide : ℕ → Field
  Path : List ℕ → Field
  Symbol : List ℕ → Field

-- a number has its bits; a path is one, and so is a name
abbrev pub IsField : Field → Type 0
IsField (Number n) = n < 2 ^ 32
IsField (Wide n) = n < 2 ^ 64
IsField (Path path) = IsPath path
IsField (Symbol name) = IsSymName name

-- a row of the table
pub record Coded : Type 0 where
  pub name : List ℕ
  pub code : ℕ
  pub fields : List Field

abbrev pub coded : List ℕ → ℕ → List Field → Coded
coded name code fields = record { name = name; code = code; fields = fields }

-- a site, and a field behind it
abbrev pub sited : Site → List Field → List Field
sited s more = Path s.path ∷ Number s.node ∷ more

-- ---- the table

abbrev pub path_row : PathFault → Coded
path_row path.Long = coded (codes "P1") 1 []
path_row (path.Shape place) = coded (codes "P2") 2 (Number place ∷ [])

abbrev pub object_row : ObjectFault → Coded
object_row object.Length = coded (codes "O1") 11 []
object_row object.NotElf = coded (codes "O2") 12 []
object_row object.Kind = coded (codes "O3") 13 []
object_row object.Headers = coded (codes "O4") 14 []
object_row (object.Section i) = coded (codes "O5") 15 (Number i ∷ [])
object_row (object.Unsupported i) = coded (codes "O6") 16 (Number i ∷ [])
object_row object.Symbols = coded (codes "O7") 17 []
object_row (object.Symbol k) = coded (codes "O8") 18 (Number k ∷ [])
object_row (object.Twice name) = coded (codes "O9") 19 (Symbol name ∷ [])
object_row (object.Relas i) = coded (codes "O10") 20 (Number i ∷ [])
object_row (object.Rela i j) = coded (codes "O11") 21 (Number i ∷ Number j ∷ [])

abbrev pub text_row : BpFault → Coded
text_row text.Long = coded (codes "B1") 31 []
text_row (text.Byte place) = coded (codes "B2") 32 (Number place ∷ [])
text_row (text.Shape place) = coded (codes "B3") 33 (Number place ∷ [])
text_row (text.Deep place) = coded (codes "B4") 34 (Number place ∷ [])
text_row (text.Number place) = coded (codes "B5") 35 (Number place ∷ [])
text_row (text.Range place) = coded (codes "B6") 36 (Number place ∷ [])

abbrev pub link_row : Refusal → Coded
link_row (link.NoEntry site path) = coded (codes "L1") 41 (sited site (Path path ∷ []))
link_row (link.Cycle site path) = coded (codes "L2") 42 (sited site (Path path ∷ []))
link_row (link.TooDeep site path) = coded (codes "L3") 43 (sited site (Path path ∷ []))
link_row (link.TooLarge site) = coded (codes "L4") 44 (sited site [])
link_row (link.Conflict site name) = coded (codes "L5") 45 (sited site (Symbol name ∷ []))
link_row (link.NoName site name) = coded (codes "L6") 46 (sited site (Symbol name ∷ []))
link_row (link.NoDefinition site name) = coded (codes "L7") 47 (sited site (Symbol name ∷ []))
link_row (link.Taken site name) = coded (codes "L8") 48 (sited site (Symbol name ∷ []))
link_row (link.ImageTooLarge pages) = coded (codes "L9") 49 (Wide pages ∷ [])
link_row (link.NoStart name) = coded (codes "L10") 50 (Symbol name ∷ [])
link_row (link.Unresolved leaf fixup name) =
    coded (codes "L11") 51 (Number leaf ∷ Number fixup ∷ Symbol name ∷ [])
link_row (link.NoRoom pages lo hi) = coded (codes "L12") 52 (Number pages ∷ Wide lo ∷ Wide hi ∷ [])
link_row (link.Overflow leaf fixup) = coded (codes "L13") 53 (Number leaf ∷ Number fixup ∷ [])

abbrev pub row_of : Refused → Coded
row_of (code.Path x) = path_row x
row_of (code.Object x) = object_row x
row_of (code.Text x) = text_row x
row_of (code.Link x) = link_row x

-- ---- the line

-- how a line prints a field: a number in decimal, a path or a name as its bytes
abbrev pub field_text : Field → List ℕ
field_text (Number n) = decimal n
field_text (Wide n) = decimal n
field_text (Path path) = path
field_text (Symbol name) = name

-- `refused`, the name and the fields, each after one space, and a newline
abbrev pub coded_line : Coded → List ℕ
coded_line row =
    codes "refused " ++ row.name ++ flat_map (λ f. 32 ∷ field_text f) row.fields ++ 10 ∷ []
