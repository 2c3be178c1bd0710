-- The test on targets decides whether they are the same.
use Rattle.std.proofs.Common.{◌≡◌, Bool, true, false, cond, ◌==◌, refl, ap, subst, ◌∙◌}
use Rattle.std.specs.Bool.{Decides}
use Rattle.std.proofs.lemmas.Bool.{false≢true}
use Rattle.std.proofs.lemmas.Bool.Decides.{Decides-eqb}
use Rattle.std.specs.Cmp.{IsEquivalence, IsPartialEquivalence, decided, partial_equiv_from_equiv}
use Rattle.std.specs.Hash.{HashWrites}
use Rattle.omos_model.specs.declared.mark.Target.{Target}
use Rattle.omos_model.specs.declared.mark.Target.TheVariants.{Inside, Fixed}
use Rattle.link_model.specs.Layout.{same_target}

both : (p q : Bool) → p ≡ true → q ≡ true → cond p q false ≡ true
both p q h k = ap (λ b. cond b q false) h ∙ k

first : (p q : Bool) → cond p q false ≡ true → p ≡ true
first true q h = refl
first false q h = h

second : (p q : Bool) → cond p q false ≡ true → q ≡ true
second true q h = h
second false q h = absurd (false≢true h)

same_target-refl : (x : Target) → same_target x x ≡ true
same_target-refl (Inside a b c) =
    both _ _ ((Decides-eqb a a).1 refl)
    (both _ _ ((Decides-eqb b b).1 refl) ((Decides-eqb c c).1 refl))
same_target-refl (Fixed a) = (Decides-eqb a a).1 refl

same : (x y : Target) → same_target x y ≡ true → x ≡ y
same (Inside a b c) (Inside x y z) h =
    let others = cond (b == y) (c == z) false in
    let inner : others ≡ true = second (a == x) others h in
    let leaf = (Decides-eqb a x).0 (first (a == x) others h) in
    let piece = (Decides-eqb b y).0 (first (b == y) (c == z) inner) in
    let offset = (Decides-eqb c z).0 (second (b == y) (c == z) inner) in
    λ i. Inside (leaf i) (piece i) (offset i)
same (Inside a b c) (Fixed v) h = absurd (false≢true h)
same (Fixed v) (Inside a b c) h = absurd (false≢true h)
same (Fixed a) (Fixed x) h = ap Fixed ((Decides-eqb a x).0 h)

pub same_target-decides : (x y : Target) → Decides (same_target x y) (x ≡ y)
same_target-decides x y =
    (same x y, λ e. subst (λ t. same_target x t ≡ true) e (same_target-refl x))

pub same_target-equivalence : IsEquivalence same_target
same_target-equivalence = decided same_target same_target-decides

pub same_target-partial : IsPartialEquivalence same_target
same_target-partial = partial_equiv_from_equiv same_target-equivalence

-- of the same targets the same is hashed
pub alike : (writes : Target → HashWrites) (x y : Target)
    → same_target x y ≡ true → writes x ≡ writes y
alike writes x y h = ap writes (same x y h)
