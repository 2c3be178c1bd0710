-- References that are bound to nothing.
use Rattle.std.specs.Prelude.{◌≡◌, ℕ, List, [], ◌∷◌, Option, Some, None, Result, map}
use Rattle.std.specs.Prelude.{Bool, true, false, if◌then◌else◌}
use Rattle.std.specs.List.{enumerate_from, zip}
use Rattle.std.specs.Option.{option_or}
use Rattle.omos_base.specs.Fault.{MatchFault}
use Rattle.omos_base.specs.declared.fault.Fault.{Fault}
use Rattle.omos_model.specs.Names.{Name}
use Rattle.omos_model.specs.declared.entry.Entry.{Entry}
use Rattle.omos_model.specs.declared.fragment.Aim.{Aim}
use Rattle.omos_model.specs.declared.fragment.Fixup.{Fixup}
use Rattle.omos_model.specs.declared.mark.Landing.{Landing}
use Rattle.omos_model.specs.declared.mark.Landing.TheVariants.{On, Nothing}
use Rattle.omos_model.specs.declared.refusal.Refusal.{Refusal}
use Rattle.link_model.specs.Program.{Reference, reference_of}
use Rattle.link_model.specs.Plan.{first_in, is_weak, unresolved_at}
use Rattle.link_layout.specs.Slots.{fixups_in}

-- the call refuses for this reason, or there is none
abbrev pub RefusesFor : {T : Type 0} → Option Refusal → Result T (Fault Refusal) → Type 0
RefusesFor refusal result = MatchFault result (λ _. refusal ≡ None) (λ x. refusal ≡ Some x)

-- L11 for a reference
abbrev pub refusal_for : Reference → Option Refusal
refusal_for r = unresolved_at r r.landing

-- the name under which a reference with this aim is open, where it has to be bound
abbrev pub open_under : Aim → Landing → Option Name
open_under aim (On target) = None
open_under aim (Nothing name) = if is_weak aim then None else Some name

-- whether a reference that lands there is bound
abbrev pub is_bound : Landing → Bool
is_bound (On target) = true
is_bound (Nothing name) = false

-- L11 for the first of a leaf's numbered references
abbrev pub refusal_in : ℕ → List (ℕ × (Fixup × Landing)) → Option Refusal
refusal_in leaf rs = first_in refusal_for (map (reference_of leaf) rs)

-- L11 for the first reference of a numbered leaf
abbrev pub refusal_of_leaf : ℕ × (Entry × List Landing) → Option Refusal
refusal_of_leaf x = refusal_in x.0 (enumerate_from 0 (zip (fixups_in x.1.0) x.1.1))

-- L11 for the first reference of the first of these leaves
abbrev pub refusal_among : List (ℕ × (Entry × List Landing)) → Option Refusal
refusal_among [] = None
refusal_among (x ∷ xs) = option_or (refusal_of_leaf x) (refusal_among xs)
