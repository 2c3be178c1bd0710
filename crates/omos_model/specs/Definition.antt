-- What a name is defined as in a module, found by descent at each use.
use Rattle.std.specs.Prelude.{ℕ, Bool, if◌then◌else◌, List, [], ◌∷◌, ◌++◌, map, Option, None}
use Rattle.std.specs.Prelude.{is_some}
use Rattle.std.specs.List.{find}
use Rattle.std.specs.Option.{option_map, option_or}
use Rattle.omos_model.specs.Names.{Name, same_name}
use Rattle.omos_model.specs.NameLists.{is_among}
use Rattle.omos_model.specs.Op.{Op, Rename, Restrict, Freeze, Hide, Show, CopyAs}
use Rattle.omos_model.specs.Term.{Term, Leaf, Merge, Override, Apply}
use Rattle.omos_model.specs.declared.fragment.Export.{Export}
use Rattle.omos_model.specs.declared.fragment.Spot.{Spot}
use Rattle.omos_model.specs.declared.fragment.Spot.TheVariants as spot
use Rattle.omos_model.specs.declared.mark.Target.{Target}
use Rattle.omos_model.specs.declared.mark.Target.TheVariants as target

-- what each name is defined as
abbrev pub Meaning : Type 0
Meaning = Name → Option Target

abbrev pub target_of : ℕ → Spot → Target
target_of leaf (spot.Inside piece offset) = target.Inside leaf piece offset
target_of leaf (spot.Fixed value) = target.Fixed value

-- the target of a leaf's export of this name
abbrev pub exported : ℕ → List Export → Meaning
exported leaf exports n =
    option_map (λ x. target_of leaf x.spot) (find (λ x. same_name n x.name) exports)

-- b as a was, and a no more; where a and b are the same, a as it was
abbrev pub renamed : Name → Name → Meaning → Meaning
renamed a b u n = if same_name b n then u a else (if same_name a n then None else u n)

-- what an operator makes of the definitions of its operand
abbrev pub defined_by : Op → Meaning → Meaning
defined_by (Rename a b) u n = if is_some (u a) then renamed a b u n else u n
defined_by (Restrict a) u n = if same_name a n then None else u n
defined_by (Freeze a) u n = u n
defined_by (Hide a) u n = if same_name a n then None else u n
defined_by (Show names) u n = if is_among names n then u n else None
defined_by (CopyAs a b) u n = if same_name b n then u a else u n

-- what a name is defined as in a module, or nothing
abbrev pub definition : Term → Meaning
definition (Leaf s leaf f) n = exported leaf f.exports n
definition (Merge s l r) n = option_or (definition l n) (definition r n)
definition (Override s l r) n = option_or (definition r n) (definition l n)
definition (Apply s op u) n = defined_by op (definition u) n

abbrev pub is_defined : Term → Name → Bool
is_defined t n = is_some (definition t n)

-- the name that an operator gives to a definition
abbrev pub given_by : Op → List Name
given_by (Rename a b) = b ∷ []
given_by (Restrict a) = []
given_by (Freeze a) = []
given_by (Hide a) = []
given_by (Show names) = []
given_by (CopyAs a b) = b ∷ []

-- every name that may be defined: those of the leaves, and those that operators give
abbrev pub written : Term → List Name
written (Leaf s leaf f) = map (λ x. x.name) f.exports
written (Merge s l r) = written l ++ written r
written (Override s l r) = written l ++ written r
written (Apply s op u) = given_by op ++ written u
