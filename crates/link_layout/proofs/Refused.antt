-- A call that hands on a refusal.
use Rattle.std.proofs.Common.{◌≡◌, ℕ, ◌+◌, Bool, true, false, if◌then◌else◌, List, [], ◌∷◌}
use Rattle.std.proofs.Common.{Option, Some, None, Result, Err, refl, sym, ap, subst, ◌∙◌}
use Rattle.std.specs.List.{enumerate_from, list_all, zip}
use Rattle.std.specs.Option.{option_map, option_or}
use Rattle.std.proofs.lemmas.Bool.{false≢true}
use Rattle.omos_base.specs.declared.fault.Fault.{Fault}
use Rattle.omos_base.specs.declared.fault.Fault.TheVariants.{Refused, NoMemory}
use Rattle.omos_model.specs.Names.{Name}
use Rattle.omos_model.specs.declared.fragment.Aim.{Aim}
use Rattle.omos_model.specs.declared.fragment.Fixup.{Fixup}
use Rattle.omos_model.specs.declared.mark.Landing.{Landing}
use Rattle.omos_model.specs.declared.mark.Landing.TheVariants.{On, Nothing}
use Rattle.omos_model.specs.declared.refusal.Refusal.{Refusal}
use Rattle.omos_model.specs.declared.refusal.Refusal.TheVariants.{Unresolved}
use Rattle.link_model.specs.Plan.{is_weak, unresolved_at}
use Rattle.link_model.specs.Program.{reference_of}
use Rattle.link_layout.specs.inside.References.{RefusesFor, is_bound, open_under, refusal_for}
use Rattle.link_layout.specs.inside.References.{refusal_in}

pub handed_on : (T U : Type 0) (e : Fault Refusal) (told head rest whole : Option Refusal)
    → RefusesFor {T = T} told (Err e) → head ≡ told → whole ≡ option_or head rest
    → RefusesFor {T = U} whole (Err e)
handed_on T U (Refused x) told head rest whole h same is =
    is ∙ ap (λ o. option_or o rest) (same ∙ h)
handed_on T U NoMemory told head rest whole h same is = tt

pub refused_first : (T : Type 0) (result : Result T (Fault Refusal)) (x : Refusal)
    (head rest whole : Option Refusal) → RefusesFor {T = T} (Some x) result → head ≡ Some x
    → whole ≡ option_or head rest → RefusesFor {T = T} whole result
refused_first T result x head rest whole h same is =
    subst (λ o. RefusesFor {T = T} o result) (sym (is ∙ ap (λ o. option_or o rest) same)) h

-- L11 for a reference, from its aim and what it lands on
pub refusal-at : (leaf number : ℕ) (x : Fixup) (aim : Aim) (landing : Landing) (o : Option Name)
    → x.aim ≡ aim → o ≡ open_under aim landing
    → refusal_for (reference_of leaf (number, (x, landing)))
    ≡ option_map (Unresolved leaf number) o
refusal-at leaf number x aim landing o same is =
    under landing ∙ ap (option_map (Unresolved leaf number))
    (ap (λ a. open_under a landing) same ∙ sym is)
  where
    weak : (b : Bool) (name : Name) → (if b then None else Some (Unresolved leaf number name))
        ≡ option_map (Unresolved leaf number) (if b then None else Some name)
    weak true name = refl
    weak false name = refl

    under : (l : Landing) → unresolved_at (reference_of leaf (number, (x, l))) l
        ≡ option_map (Unresolved leaf number) (open_under x.aim l)
    under (On target) = refl
    under (Nothing name) = weak (is_weak x.aim) name

numbered-bound : (leaf n : ℕ) (fixups : List Fixup) (landings : List Landing)
    → list_all is_bound landings ≡ true
    → refusal_in leaf (enumerate_from n (zip fixups landings)) ≡ None
numbered-bound leaf n [] ys h = refl
numbered-bound leaf n (x ∷ xs) [] h = refl
numbered-bound leaf n (x ∷ xs) (On target ∷ ys) h = numbered-bound leaf (n + 1) xs ys h
numbered-bound leaf n (x ∷ xs) (Nothing name ∷ ys) h = absurd (false≢true h)

-- where all landings are bound, nothing is refused
pub none-refused : (leaf : ℕ) (fixups : List Fixup) (landings : List Landing)
    → list_all is_bound landings ≡ true
    → refusal_in leaf (enumerate_from 0 (zip fixups landings)) ≡ None
none-refused leaf = numbered-bound leaf 0
