-- A whole program: the objects of an evaluated module, with what each reference lands on.
use Rattle.std.specs.Prelude.{ℕ, List, [], ◌∷◌, map, codes}
use Rattle.std.specs.List.{zip, enumerate_from, flat_map}
use Rattle.omos_model.specs.Names.{Name}
use Rattle.omos_model.specs.FragmentParts.{FragmentParts}
use Rattle.omos_model.specs.Term.{Term}
use Rattle.omos_model.specs.Definition.{definition}
use Rattle.omos_model.specs.State.{states, landed}
use Rattle.omos_model.specs.declared.entry.Entry.{Entry}
use Rattle.omos_model.specs.declared.entry.Entry.TheVariants.{Object, Blueprint}
use Rattle.omos_model.specs.declared.entry.Start.{Start}
use Rattle.omos_model.specs.declared.entry.Start.TheVariants.{Named}
use Rattle.omos_model.specs.declared.fragment.Fixup.{Fixup}
use Rattle.omos_model.specs.declared.mark.Landing.{Landing}
use Rattle.omos_model.specs.declared.mark.MarkRow.{MarkRow}

-- an object, and what each of its fixups lands on, in order
pub record Part : Type 0 where
  pub object : FragmentParts
  pub landings : List Landing

abbrev pub Parts : Type 0
Parts = List Part

-- a leaf is an object, so the second case doesn't come
abbrev pub object_of : Entry → FragmentParts
object_of (Object f) = f
object_of (Blueprint i) = record { pieces = []; exports = []; fixups = [] }

-- what all references of a leaf land on at the root of the term
abbrev pub landings_of : Term → MarkRow → List Landing
landings_of t row = map (landed (definition t)) row.marks

abbrev pub part_of : Term → MarkRow → Part
part_of t row = record { object = object_of row.entry; landings = landings_of t row }

-- the parts of a term, from left to right
abbrev pub parts_of_term : Term → Parts
parts_of_term t = map (part_of t) (states t)

-- a reference: its leaf and its number there, its fixup, and what it lands on
pub record Reference : Type 0 where
  pub leaf : ℕ
  pub number : ℕ
  pub fixup : Fixup
  pub landing : Landing

abbrev pub reference_of : ℕ → ℕ × (Fixup × Landing) → Reference
reference_of leaf x = record { leaf = leaf; number = x.0; fixup = x.1.0; landing = x.1.1 }

abbrev pub references_in : ℕ × Part → List Reference
references_in x =
    map (reference_of x.0) (enumerate_from 0 (zip x.1.object.fixups x.1.landings))

-- all references, by leaf and number
abbrev pub references : Parts → List Reference
references parts = flat_map references_in (enumerate_from 0 parts)

-- where a program may stand, and how it starts
pub record Terms : Type 0 where
  pub start : Start
  pub lo : ℕ
  pub hi : ℕ

-- those of an object's path, and of a blueprint without its own
abbrev pub start_name : Name
start_name = codes "_start"

abbrev pub terms_of : Entry → Terms
terms_of (Object f) = record { start = Named start_name; lo = 0x400000; hi = 0x40000000 }
terms_of (Blueprint i) = record { start = i.start; lo = i.lo; hi = i.hi }
