-- The row of one object.
use Rattle.std.proofs.Common.{◌≡◌, ◌∙◌, ℕ, List, [], ◌∷◌, map, sym, ap}
use Rattle.std.proofs.lemmas.Simd.{map-map}
use Rattle.omos_model.specs.FragmentParts.{FragmentParts}
use Rattle.omos_model.specs.State.{mark_of, states}
use Rattle.omos_model.specs.Term.{Leaf}
use Rattle.omos_model.specs.declared.entry.Entry.{Entry}
use Rattle.omos_model.specs.declared.entry.Entry.TheVariants.{Object, Blueprint}
use Rattle.omos_model.specs.declared.fragment.Aim.{Aim}
use Rattle.omos_model.specs.declared.fragment.Fixup.{Fixup}
use Rattle.omos_model.specs.declared.mark.Mark.{Mark}
use Rattle.omos_model.specs.declared.mark.MarkRow.{MarkRow}
use Rattle.omos_model.specs.declared.refusal.Site.{Site}

abbrev fragment_in : Entry → FragmentParts → FragmentParts
fragment_in (Object f) other = f
fragment_in (Blueprint i) other = other

-- the marks of the aims are those of the fixups
marks_are : (number : ℕ) (fixups : List Fixup) (aims : List Aim) (marks : List Mark)
    → aims ≡ map (λ x. x.aim) fixups → marks ≡ map (mark_of number) aims
    → marks ≡ map (λ x. mark_of number x.aim) fixups
marks_are number fixups aims marks aimed marked =
    marked ∙ ap (map (mark_of number)) aimed ∙ map-map (mark_of number) (λ x. x.aim) fixups

pub leaf_row : (number : ℕ) (s : Site) (e lent : Entry) (held f : FragmentParts)
    → (fixups : List Fixup) (aims : List Aim) (marks : List Mark)
    → lent ≡ e → lent ≡ Object held → fixups ≡ held.fixups → aims ≡ map (λ x. x.aim) fixups
    → marks ≡ map (mark_of number) aims → e ≡ Object f
    → record { number = number; entry = e; marks = marks } ∷ [] ≡ states (Leaf s number f)
leaf_row number s e lent held f fixups aims marks same object fixed aimed marked is =
    let one : held ≡ f = ap (λ x. fragment_in x held) (sym object ∙ same ∙ is) in
    let made = marks_are number fixups aims marks aimed marked in
    let fixups_are = fixed ∙ ap (λ (g : FragmentParts). g.fixups) one in
    let whole = made ∙ ap (map (λ (x : Fixup). mark_of number x.aim)) fixups_are in
    let row : Entry → List Mark → List MarkRow =
    λ entry ms. record { number = number; entry = entry; marks = ms } ∷ [] in
    ap (λ entry. row entry marks) is ∙ ap (row (Object f)) whole
