-- A row of the table of refusals, as the code has it.
use Rattle.std.specs.Prelude.{◌≤◌, List, [], ◌∷◌, length}
use Rattle.std.specs.List.{AllByRecursion}
use Rattle.refusal_lines.specs.Codes as codes
use Rattle.refusal_lines.specs.Codes.{Coded, IsField, coded}
use Rattle.refusal_lines.specs.declared.row.Field.{Field}
use Rattle.refusal_lines.specs.declared.row.Field.TheVariants as field
use Rattle.refusal_lines.specs.declared.row.Fields.{Fields}
use Rattle.refusal_lines.specs.declared.row.Fields.TheVariants as fields
use Rattle.refusal_lines.specs.declared.row.Row.{Row}

abbrev pub field_in : Field → codes.Field
field_in (field.Number n) = codes.Number n
field_in (field.Wide n) = codes.Wide n
field_in (field.Path path) = codes.Path path.now
field_in (field.Symbol name) = codes.Symbol name.now

abbrev pub fields_in : Fields → List codes.Field
fields_in fields.None = []
fields_in (fields.One a) = field_in a ∷ []
fields_in (fields.Two a b) = field_in a ∷ field_in b ∷ []
fields_in (fields.Three a b c) = field_in a ∷ field_in b ∷ field_in c ∷ []

abbrev pub coded_in : Row → Coded
coded_in r = coded r.name.now r.code (fields_in r.fields)

-- a row fits what it is put into: its name is short, and its fields are what they are said to be
pub record IsShortRow (r : Row) : Type 0 where
  pub name : length r.name.now ≤ 3
  pub fields : AllByRecursion IsField (fields_in r.fields)
