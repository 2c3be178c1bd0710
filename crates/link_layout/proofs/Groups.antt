-- Numbers by group: bounds, ends, sizes and begins.
use Rattle.std.proofs.Common.{◌≡◌, ℕ, ◌+◌, ◌*◌, List, ◌++◌, fold, refl, sym, ap, ◌∙◌}
use Rattle.std.proofs.lemmas.List.Sums.{fold-append}
use Rattle.omos_model.specs.declared.fragment.Group.{Group}
use Rattle.omos_model.specs.declared.fragment.Group.TheVariants.{Code, Consts, Vars, Zeros}
use Rattle.omos_model.specs.declared.fragment.Piece.{Piece}
use Rattle.link_model.specs.Program.{Parts}
use Rattle.link_model.specs.Layout.{aligned, all_pages, end_with, group_begin, group_size}
use Rattle.link_model.specs.Layout.{page, pages_of, program_pieces}
use Rattle.link_model.specs.declared.groups.ByGroup.{ByGroup}
use Rattle.link_model.specs.declared.groups.Groups.{Groups}
use Rattle.link_model.specs.Groups.{by_group, bytes_of, groups_of}
use Rattle.link_layout.specs.Layout.{AreBegins, AreEnds, AreSizes}

-- the groups end where they ended, and the further pieces behind
pub AreEnds-append : (old new : ByGroup) (before xs : List Piece) → AreEnds old before
    → ((g : Group) → bytes_of new g ≡ fold (end_with g) (bytes_of old g) xs)
    → AreEnds new (before ++ xs)
AreEnds-append old new before xs ends step g =
    step g ∙ ap (λ end. fold (end_with g) end xs) (ends g)
    ∙ sym (fold-append (end_with g) 0 before xs)

pub AreBegins-from_sizes : (sizes begins : ByGroup) (parts : Parts) → AreSizes sizes parts
    → begins.code ≡ 0 → begins.consts ≡ page * pages_of sizes.code
    → begins.vars ≡ page * (pages_of sizes.code + pages_of sizes.consts)
    → begins.zeros ≡ page * (pages_of sizes.code + pages_of sizes.consts + pages_of sizes.vars)
    → AreBegins begins parts
AreBegins-from_sizes sizes begins parts h code consts vars zeros Code = code
AreBegins-from_sizes sizes begins parts h code consts vars zeros Consts =
    consts ∙ (λ i. page * pages_of (h Code i))
AreBegins-from_sizes sizes begins parts h code consts vars zeros Vars =
    vars ∙ (λ i. page * (pages_of (h Code i) + pages_of (h Consts i)))
AreBegins-from_sizes sizes begins parts h code consts vars zeros Zeros =
    zeros ∙ (λ i. page * (pages_of (h Code i) + pages_of (h Consts i) + pages_of (h Vars i)))

pub all_pages-from_sizes : (sizes : ByGroup) (parts : Parts) → AreSizes sizes parts
    → pages_of sizes.code + pages_of sizes.consts + pages_of sizes.vars + pages_of sizes.zeros
    ≡ all_pages parts
all_pages-from_sizes sizes parts h =
    λ i. pages_of (h Code i) + pages_of (h Consts i) + pages_of (h Vars i) + pages_of (h Zeros i)

-- ---- all of them together

by_group-same : (x : ByGroup) (f : Group → ℕ) → ((g : Group) → bytes_of x g ≡ f g) → x ≡ by_group f
by_group-same x f h =
    λ i. record { code = h Code i; consts = h Consts i; vars = h Vars i; zeros = h Zeros i }

bytes_of-by_group : (f : Group → ℕ) (g : Group) → bytes_of (by_group f) g ≡ f g
bytes_of-by_group f Code = refl
bytes_of-by_group f Consts = refl
bytes_of-by_group f Vars = refl
bytes_of-by_group f Zeros = refl

-- what the groups of a program are says how large each is and where it begins
pub sizes-of_groups : (x : Groups) (parts : Parts) → x ≡ groups_of parts → AreSizes x.sizes parts
sizes-of_groups x parts h g =
    ap (λ (y : Groups). bytes_of y.sizes g) h ∙ bytes_of-by_group (λ k. group_size k parts) g

pub begins-of_groups : (x : Groups) (parts : Parts) → x ≡ groups_of parts → AreBegins x.begins parts
begins-of_groups x parts h g =
    ap (λ (y : Groups). bytes_of y.begins g) h ∙ bytes_of-by_group (λ k. group_begin k parts) g

pub groups-same : (ends sizes begins : ByGroup) (up slots : ℕ) (parts : Parts)
    → AreEnds ends (program_pieces parts) → AreSizes sizes parts → AreBegins begins parts
    → up ≡ aligned 8 ends.vars → slots ≡ begins.vars + up
    → record { sizes = sizes; begins = begins; slots = slots } ≡ groups_of parts
groups-same ends sizes begins up slots parts end sized begun u s =
    let sizes_are = by_group-same sizes (λ g. group_size g parts) sized in
    let begins_are = by_group-same begins (λ g. group_begin g parts) begun in
    let slots_are = s ∙ (λ i. begun Vars i + (u ∙ ap (aligned 8) (end Vars)) i) in
    λ i. record { sizes = sizes_are i; begins = begins_are i; slots = slots_are i }
