-- The plan of a program: all of it but its base.
use Rattle.std.specs.Prelude.{ℕ, nat_lt, Bool, false, List, [], ◌∷◌, Option, Some}
use Rattle.std.specs.Prelude.{None, Result, Ok, Err, is_some, if◌then◌else◌}
use Rattle.std.specs.Option.{option_map, option_or}
use Rattle.omos_model.specs.Names.{Name}
use Rattle.omos_model.specs.Namespace.{Space, look_up}
use Rattle.omos_model.specs.Term.{Term}
use Rattle.omos_model.specs.Definition.{Meaning, definition}
use Rattle.omos_model.specs.FirstRefusal.{first_refusal}
use Rattle.omos_model.specs.Expansion.{Visited, expansion}
use Rattle.omos_model.specs.declared.entry.Start.{Start}
use Rattle.omos_model.specs.declared.entry.Start.TheVariants.{Named, NoEntry}
use Rattle.omos_model.specs.declared.fragment.Aim.{Aim}
use Rattle.omos_model.specs.declared.fragment.Aim.TheVariants as aim
use Rattle.omos_model.specs.declared.mark.Landing.{Landing}
use Rattle.omos_model.specs.declared.mark.Landing.TheVariants.{On, Nothing}
use Rattle.omos_model.specs.declared.mark.Target.{Target}
use Rattle.omos_model.specs.declared.refusal.Refusal.{Refusal}
use Rattle.omos_model.specs.declared.refusal.Refusal.TheVariants.{ImageTooLarge, NoStart}
use Rattle.omos_model.specs.declared.refusal.Refusal.TheVariants.{Unresolved}
use Rattle.link_model.specs.Program.{Parts, Reference, Terms, references, parts_of_term, terms_of}
use Rattle.link_model.specs.Layout.{all_pages, pages_in_all, places_of, slots_of}

-- the parts, what the start is defined as, if there is one, and the layout
pub record Plan : Type 0 where
  pub parts : Parts
  pub entry : Option Target
  pub lo : ℕ
  pub hi : ℕ
  pub pages : ℕ
  pub places : List (List ℕ)
  pub slots : List Target

-- 2,047 pages and the header page are 8,388,608 bytes
abbrev pub max_pages : ℕ
max_pages = 2047

-- L9
abbrev pub too_large : Parts → Option Refusal
too_large parts =
    if nat_lt max_pages (all_pages parts) then Some (ImageTooLarge (all_pages parts)) else None

-- L10: the start's name isn't defined
abbrev pub no_start : Meaning → Start → Option Refusal
no_start meaning (Named name) = if is_some (meaning name) then None else Some (NoStart name)
no_start meaning NoEntry = None

abbrev pub is_weak : Aim → Bool
is_weak (aim.At spot) = false
is_weak (aim.Name name weak) = weak

-- L11 for a reference that is bound to nothing and isn't weak, with the name as it is open
abbrev pub unresolved_at : Reference → Landing → Option Refusal
unresolved_at r (On target) = None
unresolved_at r (Nothing name) =
    if is_weak r.fixup.aim then None else Some (Unresolved r.leaf r.number name)

abbrev pub first_in : {X : Type 0} → (X → Option Refusal) → List X → Option Refusal
first_in refusal [] = None
first_in refusal (x ∷ xs) = option_or (refusal x) (first_in refusal xs)

abbrev pub unresolved : Parts → Option Refusal
unresolved parts = first_in (λ r. unresolved_at r r.landing) (references parts)

-- the first of L9, L10 and L11
abbrev pub plan_refusal : Parts → Meaning → Start → Option Refusal
plan_refusal parts meaning start =
    option_or (too_large parts) (option_or (no_start meaning start) (unresolved parts))

abbrev pub entry_of : Meaning → Start → Option Target
entry_of meaning (Named name) = meaning name
entry_of meaning NoEntry = None

abbrev pub planned : Parts → Meaning → Terms → Plan
planned parts meaning terms =
    record {
      parts = parts;
      entry = entry_of meaning terms.start;
      lo = terms.lo;
      hi = terms.hi;
      pages = pages_in_all parts;
      places = places_of parts;
      slots = slots_of parts;
    }

abbrev pub unless_refused : Option Refusal → Plan → Result Plan Refusal
unless_refused None plan = Ok plan
unless_refused (Some x) plan = Err x

-- the plan of a program, or the first of L9 to L11
abbrev pub plan_of_parts : Parts → Meaning → Terms → Result Plan Refusal
plan_of_parts parts meaning terms =
    unless_refused (plan_refusal parts meaning terms.start) (planned parts meaning terms)

abbrev pub plan_of_term : Option Refusal → Term → Terms → Result Plan Refusal
plan_of_term None t terms = plan_of_parts (parts_of_term t) (definition t) terms
plan_of_term (Some x) t terms = Err x

abbrev pub plan_of_expansion : Visited Term → Terms → Result Plan Refusal
plan_of_expansion (Ok r) terms = plan_of_term (first_refusal r.0) r.0 terms
plan_of_expansion (Err x) terms = Err x

abbrev pub terms_at : Option Terms → Terms
terms_at (Some terms) = terms
terms_at None = record { start = NoEntry; lo = 0; hi = 0 }

-- the plan of a path: its first refusal, L1 to L11, or what its image is but for the base
abbrev pub plan_of : Space → Name → Result Plan Refusal
plan_of ns path =
    plan_of_expansion (expansion ns path)
    (terms_at (option_map (λ s. terms_of s.entry) (look_up ns path)))
