-- What fixups are by their fields and aims.
use Rattle.std.proofs.Common.{◌≡◌, List, [], ◌∷◌, ◌++◌, length, map, suc, ap, refl, arith}
use Rattle.omos_model.specs.declared.fragment.Aim.{Aim}
use Rattle.omos_model.specs.declared.fragment.Fixup.{Fixup}
use Rattle.omos_model.specs.declared.fixups.Field.{Field}
use Rattle.omos_model.specs.FixupParts.{field_of, fixup_at, fixups_of}

pub fields_in : (fields : List Field) (aims : List Aim) → length aims ≡ length fields
    → map field_of (fixups_of fields aims) ≡ fields
unfolding fixups_of
fields_in [] aims is = refl
fields_in (x ∷ fields) [] is = absurd (omega (arith, is))
fields_in (x ∷ fields) (a ∷ aims) is =
    ap (λ xs. x ∷ xs) (fields_in fields aims (omega (arith, is)))

pub aims_in : (fields : List Field) (aims : List Aim) → length aims ≡ length fields
    → map (λ x. x.aim) (fixups_of fields aims) ≡ aims
unfolding fixups_of
aims_in [] [] is = refl
aims_in [] (a ∷ aims) is = absurd (omega (arith, is))
aims_in (x ∷ fields) [] is = absurd (omega (arith, is))
aims_in (x ∷ fields) (a ∷ aims) is =
    ap (λ xs. a ∷ xs) (aims_in fields aims (omega (arith, is)))

pub count_of : (fields : List Field) (aims : List Aim) → length aims ≡ length fields
    → length (fixups_of fields aims) ≡ length fields
unfolding fixups_of
count_of [] aims is = refl
count_of (x ∷ fields) [] is = absurd (omega (arith, is))
count_of (x ∷ fields) (a ∷ aims) is = ap suc (count_of fields aims (omega (arith, is)))

-- fixups taken apart and put together
pub fixups_again : (fixups : List Fixup)
    → fixups_of (map field_of fixups) (map (λ x. x.aim) fixups) ≡ fixups
unfolding fixups_of
fixups_again [] = refl
fixups_again (x ∷ fixups) = ap (λ xs. x ∷ xs) (fixups_again fixups)

pub one_more : (fields : List Field) (aims : List Aim) (field : Field) (aim : Aim)
    → length aims ≡ length fields
    → fixups_of (fields ++ field ∷ []) (aims ++ aim ∷ [])
    ≡ fixups_of fields aims ++ fixup_at (field, aim) ∷ []
unfolding fixups_of
one_more [] [] field aim is = refl
one_more [] (a ∷ aims) field aim is = absurd (omega (arith, is))
one_more (x ∷ fields) [] field aim is = absurd (omega (arith, is))
one_more (x ∷ fields) (a ∷ aims) field aim is =
    ap (λ xs. fixup_at (x, a) ∷ xs) (one_more fields aims field aim (omega (arith, is)))
