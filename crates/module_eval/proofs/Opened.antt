-- The blueprints that are open, where one more is or the last is closed.
use Rattle.std.proofs.Common.{◌≡◌, ◌∙◌, Bool, true, false, ◌||◌, List, [], ◌∷◌, ◌++◌, Option, Some}
use Rattle.std.proofs.Common.{None, refl, sym, ap, arith, true≢false, length, length-append, take}
use Rattle.std.specs.Prelude.{MatchOption}
use Rattle.std.specs.List.{list_any}
use Rattle.std.proofs.Math.Seq.{take-append_seam}
use Rattle.std.proofs.lemmas.Bool.{or_left, or_right}
use Rattle.std.proofs.lemmas.List.Folds.{list_any-append}
use Rattle.omos_model.specs.Names.{Name, same_name}
use Rattle.omos_model.specs.NameLists.{is_among}
use Rattle.omos_model.proofs.Names.{same_name-refl}

pub last_among : (all above : List Name) (p : Name) → all ≡ above ++ p ∷ [] → is_among all p ≡ true
last_among all above p is =
    ap (λ ps. is_among ps p) is
    ∙ list_any-append (same_name p) above (p ∷ [])
    ∙ or_right (is_among above p) (list_any (same_name p) (p ∷ []))
    (or_left (same_name p p) false (same_name-refl p p refl))

either : (a b : Bool) → (a || (b || false)) ≡ false → (a ≡ false) × (b ≡ false)
either true b h = absurd (true≢false h)
either false true h = absurd (true≢false h)
either false false h = (refl, refl)

neither : (a b : Bool) → a ≡ false → b ≡ false → (a || (b || false)) ≡ false
neither true b h k = absurd (true≢false h)
neither false true h k = absurd (true≢false k)
neither false false h k = refl

pub not_last : (above : List Name) (p q : Name) → is_among above q ≡ false → same_name q p ≡ false
    → is_among (above ++ p ∷ []) q ≡ false
not_last above p q out e =
    list_any-append (same_name q) above (p ∷ []) ∙ neither (is_among above q) (same_name q p) out e

-- the last is closed
pub popped_so : (o : Option Name) (old new above : List Name) (p : Name) → old ≡ above ++ p ∷ []
    → MatchOption o ((old ≡ []) × (new ≡ [])) (λ last. old ≡ new ++ last ∷ []) → new ≡ above
popped_so None old new above p is h =
    let none = ap length (sym h.0 ∙ is) in
    let many = length-append above (p ∷ []) in
    absurd (omega (arith, none, many))
popped_so (Some last) old new above p is h =
    let whole : new ++ last ∷ [] ≡ above ++ p ∷ [] = sym h ∙ is in
    let count = ap length whole in
    let here = length-append new (last ∷ []) in
    let there = length-append above (p ∷ []) in
    let same : length new ≡ length above = omega (arith, count, here, there) in
    sym (take-append_seam new (last ∷ []))
    ∙ (λ i. take (same i) (whole i))
    ∙ take-append_seam above (p ∷ [])

pub inside : (above more : List Name) (p q : Name) → more ≡ above ++ p ∷ []
    → is_among above q ≡ true
    → is_among more q ≡ true
inside above more p q is h =
    ap (λ ps. is_among ps q) is
    ∙ list_any-append (same_name q) above (p ∷ [])
    ∙ or_left (is_among above q) (list_any (same_name q) (p ∷ [])) h

pub outside : (above more : List Name) (p q : Name) → more ≡ above ++ p ∷ []
    → is_among more q ≡ false → (is_among above q ≡ false) × (same_name q p ≡ false)
outside above more p q is out =
    either (is_among above q) (same_name q p)
    (sym (list_any-append (same_name q) above (p ∷ [])) ∙ sym (ap (λ ps. is_among ps q) is) ∙ out)

pub beyond : (above more : List Name) (p q : Name) → more ≡ above ++ p ∷ []
    → is_among above q ≡ false
    → same_name q p ≡ false → is_among more q ≡ false
beyond above more p q is out e =
    ap (λ ps. is_among ps q) is ∙ not_last above p q out e
