-- The names that the symbols below one define, as a search for a name defined twice comes to it.
use Rattle.std.proofs.Common.{◌≡◌, ℕ, zero, suc, ◌+◌, ◌-◌, ◌≤◌, Bool, true, false, ◌&&◌, ◌||◌}
use Rattle.std.proofs.Common.{List, [], ◌∷◌, ◌++◌, refl, sym, ap, ◌∙◌, arith}
use Rattle.std.specs.List.{list_any}
use Rattle.std.proofs.lemmas.List.Folds.{list_any-append}
use Rattle.omos_model.specs.Names.{Name, same_name}
use Rattle.omos_model.specs.Numbers.{numbers_from}
use Rattle.omos_model.specs.ElfFields.{name_of}
use Rattle.omos_model.specs.ElfFaults.{is_again, is_export}
use Rattle.elf_object.specs.inside.Seen.{is_defined_below}

pub numbers_push : (s c : ℕ) → numbers_from s (suc c) ≡ numbers_from s c ++ (s + c) ∷ []
numbers_push s zero = ap (λ (n : ℕ). n ∷ []) (omega arith)
numbers_push s (suc c) =
    let same : s + 1 + c ≡ s + suc c = omega arith in
    ap (λ ns. s ∷ ns)
    (numbers_push (s + 1) c ∙ ap (λ (n : ℕ). numbers_from (s + 1) c ++ n ∷ []) same)

-- the numbers from 1 to one
pub one_more : (k : ℕ) → 1 ≤ k → numbers_from 1 k ≡ numbers_from 1 (k - 1) ++ k ∷ []
one_more k h =
    let next : k ≡ suc (k - 1) = omega (arith, h) in
    let last : 1 + (k - 1) ≡ k = omega (arith, h) in
    ap (numbers_from 1) next
    ∙ numbers_push 1 (k - 1)
    ∙ ap (λ (n : ℕ). numbers_from 1 (k - 1) ++ n ∷ []) last

or_false : (b : Bool) → (b || false) ≡ b
or_false true = refl
or_false false = refl

below_more : (file : List ℕ) (k : ℕ) (n : Name) → 1 ≤ k
    → is_defined_below file (k + 1) n
    ≡ (is_defined_below file k n || (is_export file k && same_name n (name_of file k)))
below_more file k n h =
    let p = λ (j : ℕ). is_export file j && same_name n (name_of file j) in
    let same : k + 1 - 1 ≡ k = omega arith in
    ap (λ m. list_any p (numbers_from 1 m)) same
    ∙ ap (list_any p) (one_more k h) ∙ list_any-append p (numbers_from 1 (k - 1)) (k ∷ [])
    ∙ ap (λ b. is_defined_below file k n || b) (or_false (p k))

-- whether the name is defined below decides whether it is there again
pub again_as : (file : List ℕ) (k : ℕ) (name : Name) (found : Bool) → is_export file k ≡ true
    → name ≡ name_of file k → is_defined_below file k name ≡ found → is_again file k ≡ found
again_as file k name found export same is =
    ap (λ b. b && is_defined_below file k (name_of file k)) export
    ∙ ap (is_defined_below file k) (sym same) ∙ is

pub never_again : (file : List ℕ) (k : ℕ) → is_export file k ≡ false → is_again file k ≡ false
never_again file k none = ap (λ b. b && is_defined_below file k (name_of file k)) none

-- an export's name is defined below the next number, and those that were
pub below_export : (file : List ℕ) (k : ℕ) (name n : Name) → 1 ≤ k → is_export file k ≡ true
    → name ≡ name_of file k
    → is_defined_below file (k + 1) n ≡ (is_defined_below file k n || same_name n name)
below_export file k name n low export same =
    below_more file k n low
    ∙ ap (λ b. is_defined_below file k n || (b && same_name n (name_of file k))) export
    ∙ ap (λ m. is_defined_below file k n || same_name n m) (sym same)

pub below_other : (file : List ℕ) (k : ℕ) (n : Name) → 1 ≤ k → is_export file k ≡ false
    → is_defined_below file (k + 1) n ≡ is_defined_below file k n
below_other file k n low none =
    below_more file k n low
    ∙ ap (λ b. is_defined_below file k n || (b && same_name n (name_of file k))) none
    ∙ or_false (is_defined_below file k n)
