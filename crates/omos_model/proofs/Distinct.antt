-- Exports that share no name, read from the last to the first.
use Rattle.std.proofs.Common.{◌≡◌, ℕ, zero, suc, Bool, true, false, not, ◌&&◌, ◌||◌, List, [], ◌∷◌}
use Rattle.std.proofs.Common.{drop, refl, sym, ap, ◌∙◌, cond}
use Rattle.std.specs.Ordering.{is_eq}
use Rattle.omos_model.specs.Names.{Name, same_name, name_cmp}
use Rattle.omos_model.specs.declared.fragment.Export.{Export}
use Rattle.omos_model.specs.FragmentParts.{is_exported, are_distinct}
use Rattle.omos_model.proofs.Names.{same_name-swap, is_eq-name_cmp}

false_behind : (b c : Bool) → c ≡ false → (b && c) ≡ false
false_behind true c h = h
false_behind false c h = refl

-- two that share a name behind some place do so in the whole
pub are_distinct-drop : (k : ℕ) (xs : List Export) → are_distinct (drop k xs) ≡ false
    → are_distinct xs ≡ false
are_distinct-drop zero xs h = h
are_distinct-drop (suc k) [] h = h
are_distinct-drop (suc k) (x ∷ xs) h =
    false_behind (not (is_exported xs x.name)) _ (are_distinct-drop k xs h)

or_cond : (b c : Bool) → cond b true c ≡ (b || c)
or_cond true c = refl
or_cond false c = refl

-- a set that has one name more has those of one export more
pub with_name : (e : Export) (rest : List Export) (key n : Name) (old new : Bool) → key ≡ e.name
    → old ≡ is_exported rest n
    → new ≡ cond (is_eq (name_cmp key n)) true old → new ≡ is_exported (e ∷ rest) n
with_name e rest key n old new same before after =
    after ∙ rw (same, is_eq-name_cmp e.name n, same_name-swap e.name n, before)
    (or_cond (same_name n e.name) (is_exported rest n))

-- the first is there again, or is new
pub has_again : (e : Export) (rest : List Export) (key : Name) (old : Bool) → key ≡ e.name
    → old ≡ is_exported rest key → old ≡ true
    → are_distinct (e ∷ rest) ≡ false
has_again e rest key old same before h = rw (sym (ap (is_exported rest) same) ∙ sym before ∙ h) refl

pub is_new : (e : Export) (rest : List Export) (key : Name) (old : Bool) → key ≡ e.name
    → old ≡ is_exported rest key → old ≡ false
    → are_distinct rest ≡ true → are_distinct (e ∷ rest) ≡ true
is_new e rest key old same before h apart =
    rw (sym (ap (is_exported rest) same) ∙ sym before ∙ h) apart
