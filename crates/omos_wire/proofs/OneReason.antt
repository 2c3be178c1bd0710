-- The reason of a refusal is made of the bytes of its fields, so it is one.
use Rattle.std.proofs.Common.{◌≡◌, ℕ, ◌+◌, ◌^◌, ◌<◌, ◌==◌}
use Rattle.std.proofs.Common.{if◌then◌else◌, List, [], ◌∷◌, ◌++◌, length, drop, refl, ap, ◌∙◌}
use Rattle.std.proofs.Common.{arith, Option, None, Some}
use Rattle.std.specs.Prelude.{map, slice_range}
use Rattle.std.specs.List.{AllByRecursion, flat_map}
use Rattle.byteorder.specs.Numbers.{little_number-reads_back}
use Rattle.omos_base.specs.Endian.{little_bytes}
use Rattle.omos_base.specs.Fields.{number_at}
use Rattle.omos_base.specs.declared.path_name.PathFault.{PathFault}
use Rattle.omos_base.specs.declared.path_name.PathFault.TheVariants as path
use Rattle.omos_model.specs.declared.refusal.BpFault.{BpFault}
use Rattle.omos_model.specs.declared.refusal.BpFault.TheVariants as text
use Rattle.omos_model.specs.declared.refusal.ObjectFault.{ObjectFault}
use Rattle.omos_model.specs.declared.refusal.ObjectFault.TheVariants as object
use Rattle.omos_model.specs.declared.refusal.Refusal.{Refusal}
use Rattle.omos_model.specs.declared.refusal.Refusal.TheVariants as link
use Rattle.omos_model.specs.declared.refusal.Site.{Site}
use Rattle.refusal_lines.specs.Codes.{Field, Number, Wide, Path, Symbol, link_row, object_row}
use Rattle.refusal_lines.specs.Codes.{path_row, row_of, text_row}
use Rattle.refusal_lines.specs.declared.refused.Refused.{Refused as Reason}
use Rattle.refusal_lines.specs.declared.refused.Refused.TheVariants as code
use Rattle.refusal_lines.specs.Codes.{IsField}
use Rattle.omos_wire.specs.Fielded.{field, field_bytes}
use Rattle.omos_wire.specs.inside.Reading.{Form, form_of, link_forms, object_forms, path_forms}
use Rattle.omos_wire.specs.inside.Reading.{text_forms, text_size}
use Rattle.omos_wire.specs.inside.Reading as form
use Rattle.omos_wire.proofs.Fitting.{text_behind}
use Rattle.omos_wire.proofs.Fitting.{text_front}

-- ---- fields, by their forms

abbrev pub parse : List Form → List ℕ → List Field
parse [] bytes = []
parse (form.Number ∷ forms) bytes = Number (number_at 4 0 bytes) ∷ parse forms (drop 4 bytes)
parse (form.Wide ∷ forms) bytes = Wide (number_at 8 0 bytes) ∷ parse forms (drop 8 bytes)
parse (form.Path ∷ forms) bytes =
    Path (slice_range bytes 2 (2 + text_size bytes))
    ∷ parse forms (drop (2 + text_size bytes) bytes)
parse (form.Symbol ∷ forms) bytes =
    Symbol (slice_range bytes 2 (2 + text_size bytes))
    ∷ parse forms (drop (2 + text_size bytes) bytes)

pub four_back : (n : ℕ) (rest : List ℕ) → n < 2 ^ 32 → number_at 4 0 (little_bytes 4 n ++ rest) ≡ n
unfolding number_at
four_back n rest h = little_number-reads_back 4 n rest (omega (arith, h))

pub eight_back : (n : ℕ) (rest : List ℕ) → n < 2 ^ 64 → number_at 8 0 (little_bytes 8 n ++ rest) ≡ n
unfolding number_at
eight_back n rest h = little_number-reads_back 8 n rest (omega (arith, h))

pub parse_back : (fs : List Field) → AllByRecursion IsField fs
    → parse (map form_of fs) (flat_map field_bytes fs) ≡ fs
parse_back [] h = refl
parse_back (Number n ∷ fs) h =
    ap (λ (k : ℕ). Number k ∷ parse (map form_of fs) (flat_map field_bytes fs))
    (four_back n (flat_map field_bytes fs) h.0)
    ∙ ap (λ (gs : List Field). Number n ∷ gs) (parse_back fs h.1)
parse_back (Wide n ∷ fs) h =
    ap (λ (k : ℕ). Wide k ∷ parse (map form_of fs) (flat_map field_bytes fs))
    (eight_back n (flat_map field_bytes fs) h.0)
    ∙ ap (λ (gs : List Field). Wide n ∷ gs) (parse_back fs h.1)
parse_back (Path s ∷ fs) h =
    let rest : List ℕ = flat_map field_bytes fs in
    let short : length s < 2 ^ 16 = omega (arith, h.0) in
    ap (λ (t : List ℕ). Path t
    ∷ parse (map form_of fs) (drop (2 + text_size (field s ++ rest)) (field s ++ rest)))
    (text_front s rest short)
    ∙ ap (λ (t : List ℕ). Path s ∷ parse (map form_of fs) t) (text_behind s rest short)
    ∙ ap (λ (gs : List Field). Path s ∷ gs) (parse_back fs h.1)
parse_back (Symbol s ∷ fs) h =
    let rest : List ℕ = flat_map field_bytes fs in
    let short : length s < 2 ^ 16 = omega (arith, h.0) in
    ap (λ (t : List ℕ). Symbol t
    ∷ parse (map form_of fs) (drop (2 + text_size (field s ++ rest)) (field s ++ rest)))
    (text_front s rest short)
    ∙ ap (λ (t : List ℕ). Symbol s ∷ parse (map form_of fs) t) (text_behind s rest short)
    ∙ ap (λ (gs : List Field). Symbol s ∷ gs) (parse_back fs h.1)

-- ---- what is refused, by its code and its fields

abbrev num : List Field → ℕ
num (Number n ∷ fs) = n
num (Wide n ∷ fs) = n
num _ = 0

abbrev txt : List Field → List ℕ
txt (Path s ∷ fs) = s
txt (Symbol s ∷ fs) = s
txt _ = []

abbrev rest_of : List Field → List Field
rest_of (f ∷ fs) = fs
rest_of [] = []

abbrev second : List Field → List Field
second fs = rest_of fs

abbrev third : List Field → List Field
third fs = rest_of (rest_of fs)

abbrev site_in : List Field → Site
site_in fs = record { path = txt fs; node = num (second fs) }

abbrev some_or : Option (List Form) → List Form → List Form
some_or (Some forms) other = forms
some_or None other = other

abbrev forms_of : ℕ → List Form
forms_of n =
    some_or (path_forms n)
    (some_or (object_forms n) (some_or (text_forms n) (some_or (link_forms n) [])))

abbrev reason_of : ℕ → List Field → Reason
reason_of n fs =
    if n == 1 then code.Path path.Long
    else if n == 2 then code.Path (path.Shape (num fs))
    else if n == 11 then code.Object object.Length
    else if n == 12 then code.Object object.NotElf
    else if n == 13 then code.Object object.Kind
    else if n == 14 then code.Object object.Headers
    else if n == 15 then code.Object (object.Section (num fs))
    else if n == 16 then code.Object (object.Unsupported (num fs))
    else if n == 17 then code.Object object.Symbols
    else if n == 18 then code.Object (object.Symbol (num fs))
    else if n == 19 then code.Object (object.Twice (txt fs))
    else if n == 20 then code.Object (object.Relas (num fs))
    else if n == 21 then code.Object (object.Rela (num fs) (num (second fs)))
    else if n == 31 then code.Text text.Long
    else if n == 32 then code.Text (text.Byte (num fs))
    else if n == 33 then code.Text (text.Shape (num fs))
    else if n == 34 then code.Text (text.Deep (num fs))
    else if n == 35 then code.Text (text.Number (num fs))
    else if n == 36 then code.Text (text.Range (num fs))
    else if n == 41 then code.Link (link.NoEntry (site_in fs) (txt (third fs)))
    else if n == 42 then code.Link (link.Cycle (site_in fs) (txt (third fs)))
    else if n == 43 then code.Link (link.TooDeep (site_in fs) (txt (third fs)))
    else if n == 44 then code.Link (link.TooLarge (site_in fs))
    else if n == 45 then code.Link (link.Conflict (site_in fs) (txt (third fs)))
    else if n == 46 then code.Link (link.NoName (site_in fs) (txt (third fs)))
    else if n == 47 then code.Link (link.NoDefinition (site_in fs) (txt (third fs)))
    else if n == 48 then code.Link (link.Taken (site_in fs) (txt (third fs)))
    else if n == 49 then code.Link (link.ImageTooLarge (num fs))
    else if n == 50 then code.Link (link.NoStart (txt fs))
    else if n == 51 then code.Link (link.Unresolved (num fs) (num (second fs)) (txt (third fs)))
    else if n == 52 then code.Link (link.NoRoom (num fs) (num (second fs)) (num (third fs)))
    else code.Link (link.Overflow (num fs) (num (second fs)))

abbrev pub reason_at : ℕ → List ℕ → Reason
reason_at n bytes = reason_of n (parse (forms_of n) bytes)

-- from the bytes of its fields
abbrev IsBack : Reason → Type 0
IsBack x =
    AllByRecursion IsField (row_of x).fields
    → reason_at (row_of x).code (flat_map field_bytes (row_of x).fields) ≡ x

path_back : (x : PathFault) → IsBack (code.Path x)
path_back path.Long h = refl
path_back (path.Shape n) h = ap (reason_of 2) (parse_back (path_row (path.Shape n)).fields h)

text_back : (x : BpFault) → IsBack (code.Text x)
text_back text.Long h = refl
text_back (text.Byte n) h = ap (reason_of 32) (parse_back (text_row (text.Byte n)).fields h)
text_back (text.Shape n) h = ap (reason_of 33) (parse_back (text_row (text.Shape n)).fields h)
text_back (text.Deep n) h = ap (reason_of 34) (parse_back (text_row (text.Deep n)).fields h)
text_back (text.Number n) h = ap (reason_of 35) (parse_back (text_row (text.Number n)).fields h)
text_back (text.Range n) h = ap (reason_of 36) (parse_back (text_row (text.Range n)).fields h)

object_back : (x : ObjectFault) → IsBack (code.Object x)
object_back object.Length h = refl
object_back object.NotElf h = refl
object_back object.Kind h = refl
object_back object.Headers h = refl
object_back (object.Section i) h =
    ap (reason_of 15) (parse_back (object_row (object.Section i)).fields h)
object_back (object.Unsupported i) h =
    ap (reason_of 16) (parse_back (object_row (object.Unsupported i)).fields h)
object_back object.Symbols h = refl
object_back (object.Symbol k) h =
    ap (reason_of 18) (parse_back (object_row (object.Symbol k)).fields h)
object_back (object.Twice s) h =
    ap (reason_of 19) (parse_back (object_row (object.Twice s)).fields h)
object_back (object.Relas i) h =
    ap (reason_of 20) (parse_back (object_row (object.Relas i)).fields h)
object_back (object.Rela i j) h =
    ap (reason_of 21) (parse_back (object_row (object.Rela i j)).fields h)

link_back : (x : Refusal) → IsBack (code.Link x)
link_back (link.NoEntry s p) h =
    ap (reason_of 41) (parse_back (link_row (link.NoEntry s p)).fields h)
link_back (link.Cycle s p) h = ap (reason_of 42) (parse_back (link_row (link.Cycle s p)).fields h)
link_back (link.TooDeep s p) h =
    ap (reason_of 43) (parse_back (link_row (link.TooDeep s p)).fields h)
link_back (link.TooLarge s) h = ap (reason_of 44) (parse_back (link_row (link.TooLarge s)).fields h)
link_back (link.Conflict s n) h =
    ap (reason_of 45) (parse_back (link_row (link.Conflict s n)).fields h)
link_back (link.NoName s n) h = ap (reason_of 46) (parse_back (link_row (link.NoName s n)).fields h)
link_back (link.NoDefinition s n) h =
    ap (reason_of 47) (parse_back (link_row (link.NoDefinition s n)).fields h)
link_back (link.Taken s n) h = ap (reason_of 48) (parse_back (link_row (link.Taken s n)).fields h)
link_back (link.ImageTooLarge n) h =
    ap (reason_of 49) (parse_back (link_row (link.ImageTooLarge n)).fields h)
link_back (link.NoStart n) h = ap (reason_of 50) (parse_back (link_row (link.NoStart n)).fields h)
link_back (link.Unresolved l f n) h =
    ap (reason_of 51) (parse_back (link_row (link.Unresolved l f n)).fields h)
link_back (link.NoRoom n a b) h =
    ap (reason_of 52) (parse_back (link_row (link.NoRoom n a b)).fields h)
link_back (link.Overflow l f) h =
    ap (reason_of 53) (parse_back (link_row (link.Overflow l f)).fields h)

pub reason_back : (x : Reason) → IsBack x
reason_back (code.Path x) h = path_back x h
reason_back (code.Object x) h = object_back x h
reason_back (code.Text x) h = text_back x h
reason_back (code.Link x) h = link_back x h
