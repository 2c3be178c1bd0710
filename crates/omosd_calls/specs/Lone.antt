-- The answer for one object that stands alone.
use Rattle.std.specs.Prelude.{◌≡◌, ℕ, List, Result, Ok, Err, codes}
use Rattle.omos_model.specs.Names.{Name}
use Rattle.omos_model.specs.FragmentParts.{FragmentParts}
use Rattle.omos_model.specs.FragmentOf.{fragment_of}
use Rattle.omos_model.specs.declared.entry.Entry.TheVariants as entry
use Rattle.omos_model.specs.declared.refusal.ObjectFault.{ObjectFault}
use Rattle.omos_model.specs.declared.refusal.Refusal.{Refusal}
use Rattle.link_model.specs.Answer.{answer}
use Rattle.link_model.specs.Module.{alone}
use Rattle.refusal_lines.specs.Codes.{coded_line, link_row, object_row}
use Rattle.omosd_calls.specs.declared.cause.Cause.{Cause}
use Rattle.omosd_calls.specs.declared.cause.Cause.TheVariants.{Object, Link}

-- the path under which the object stands
abbrev pub lone_path : Name
lone_path = codes "/o"

abbrev pub lone_base : ℕ
lone_base = 0x400000

abbrev pub unless_link : Result (List ℕ) Refusal → Result (List ℕ) Cause
unless_link (Ok image) = Ok image
unless_link (Err x) = Err (Link x)

abbrev pub unless_object : Result FragmentParts ObjectFault → Result (List ℕ) Cause
unless_object (Ok f) = unless_link (answer (alone lone_path (entry.Object f)) lone_path lone_base)
unless_object (Err x) = Err (Object x)

-- the image of a file's object at 0x00400000, or why it has none: the file's first fault, or the
-- first refusal of a link on the namespace that holds the object alone
abbrev pub lone_answer : List ℕ → Result (List ℕ) Cause
lone_answer file = unless_object (fragment_of file)

abbrev pub cause_line : Cause → List ℕ
cause_line (Object x) = coded_line (object_row x)
cause_line (Link x) = coded_line (link_row x)

-- this is the file's image
abbrev pub IsLoneImage : List ℕ → List ℕ → Type 0
IsLoneImage file output = lone_answer file ≡ Ok output

-- this is the line that says why the file has none
abbrev pub IsRefusalLine : List ℕ → List ℕ → Type 0
IsRefusalLine file output = (cause : Cause) × (lone_answer file ≡ Err cause)
    × (output ≡ cause_line cause)
