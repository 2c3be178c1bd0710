-- The first operator of a module that is refused, in post-order, left to right.
use Rattle.std.specs.Prelude.{Bool, not, ◌&&◌, if◌then◌else◌, Option, Some, None, is_some}
use Rattle.std.specs.List.{find}
use Rattle.std.specs.Option.{option_or, option_map}
use Rattle.omos_model.specs.Names.{Name, same_name}
use Rattle.omos_model.specs.NameLists.{least}
use Rattle.omos_model.specs.Op.{Op, Rename, Restrict, Freeze, Hide, Show, CopyAs}
use Rattle.omos_model.specs.Term.{Term, Leaf, Merge, Override, Apply}
use Rattle.omos_model.specs.Definition.{Meaning, definition, is_defined, written}
use Rattle.omos_model.specs.State.{is_open}
use Rattle.omos_model.specs.declared.refusal.Site.{Site}
use Rattle.omos_model.specs.declared.refusal.Refusal.{Refusal}
use Rattle.omos_model.specs.declared.refusal.Refusal.TheVariants.{Conflict, NoName, NoDefinition}
use Rattle.omos_model.specs.declared.refusal.Refusal.TheVariants.{Taken}

abbrev pub both_define : Term → Term → Name → Bool
both_define l r n = is_defined l n && is_defined r n

-- the least name that both define
abbrev pub conflict : Term → Term → Option Name
conflict l r = least (both_define l r) (written l)

abbrev pub refused_where : Bool → Refusal → Option Refusal
refused_where wrong x = if wrong then Some x else None

-- why an operator is refused, by what is defined and what is open in its operand
abbrev pub refused_by : Site → Op → Meaning → (Name → Bool) → Option Refusal
refused_by s (Rename a b) u is_open_in =
    option_or (refused_where (not (is_some (u a)) && not (is_open_in a)) (NoName s a))
    (refused_where (not (same_name a b) && is_some (u a) && is_some (u b)) (Taken s b))
refused_by s (Restrict a) u is_open_in = refused_where (not (is_some (u a))) (NoDefinition s a)
refused_by s (Freeze a) u is_open_in = refused_where (not (is_some (u a))) (NoDefinition s a)
refused_by s (Hide a) u is_open_in = refused_where (not (is_some (u a))) (NoDefinition s a)
refused_by s (Show names) u is_open_in =
    option_map (NoDefinition s) (find (λ n. not (is_some (u n))) names)
refused_by s (CopyAs a b) u is_open_in =
    option_or (refused_where (not (is_some (u a))) (NoDefinition s a))
    (refused_where (is_some (u b)) (Taken s b))

-- the refusal of the first node that is refused, or none; leaf and override never are
abbrev pub first_refusal : Term → Option Refusal
first_refusal (Leaf s leaf f) = None
first_refusal (Merge s l r) =
    option_or (first_refusal l)
    (option_or (first_refusal r) (option_map (Conflict s) (conflict l r)))
first_refusal (Override s l r) = option_or (first_refusal l) (first_refusal r)
first_refusal (Apply s op u) =
    option_or (first_refusal u) (refused_by s op (definition u) (is_open u))
