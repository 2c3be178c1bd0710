-- What wasn't published since an item was found current need not be looked up.
use Rattle.std.proofs.Common.{◌≡◌, ℕ, Bool, true, false, not, ◌&&◌, ◌||◌, List, [], ◌∷◌, length}
use Rattle.std.proofs.Common.{refl, ap, ◌∙◌, arith}
use Rattle.std.specs.List.{All, list_all}
use Rattle.std.proofs.lemmas.List.Elements.{All-head, All-tail}
use Rattle.omos_model.specs.Names.{Name}
use Rattle.omos_model.specs.Namespace.{Space}
use Rattle.omos_model.specs.declared.entry.Stamped.{Stamped}
use Rattle.link_model.specs.Laws.{stamp_at}
use Rattle.place_book.specs.Keys.{is_listed}
use Rattle.image_cache.specs.Items.{has_stamp}

-- it has its stamp, unless its key is one of these
abbrev Stays : List ℕ → Space → Stamped → Type 0
Stays since ns s = is_listed since s.path ≡ false → has_stamp (stamp_at ns s.path) s.stamp ≡ true

pub stay_is_stand : (since : List ℕ) (ns : Space) (xs : List Stamped) → All (Stays since ns) xs
    → list_all (λ s. not (is_listed since s.path) || has_stamp (stamp_at ns s.path) s.stamp) xs
    ≡ list_all (λ s. has_stamp (stamp_at ns s.path) s.stamp) xs
stay_is_stand since ns [] a = refl
stay_is_stand since ns (x ∷ xs) a =
    go (is_listed since x.path) (has_stamp (stamp_at ns x.path) x.stamp)
    (All-head (Stays since ns) x xs a)
    (stay_is_stand since ns xs (All-tail (Stays since ns) x xs a))
  where
    go : (b d : Bool) → (b ≡ false → d ≡ true)
        → list_all (λ s. not (is_listed since s.path) || has_stamp (stamp_at ns s.path) s.stamp) xs
        ≡ list_all (λ s. has_stamp (stamp_at ns s.path) s.stamp) xs
        → ((not b || d)
        && list_all (λ s. not (is_listed since s.path) || has_stamp (stamp_at ns s.path) s.stamp)
        xs)
        ≡ (d && list_all (λ s. has_stamp (stamp_at ns s.path) s.stamp) xs)
    go true d h i = ap (λ b. d && b) i
    go false true h i = i
    go false false h i = let no = h refl in cc

none_listed : (since : List ℕ) (path : Name) → length since ≡ 0 → is_listed since path ≡ false
none_listed [] path e = refl
none_listed (k ∷ ks) path e = absurd (omega (arith, e))

pub nothing_since : (since : List ℕ) (ns : Space) (xs : List Stamped) → length since ≡ 0
    → All (Stays since ns) xs
    → list_all (λ s. has_stamp (stamp_at ns s.path) s.stamp) xs ≡ true
nothing_since since ns [] e a = refl
nothing_since since ns (x ∷ xs) e a =
    let here = All-head (Stays since ns) x xs a (none_listed since x.path e) in
    ap (λ b. b && list_all (λ s. has_stamp (stamp_at ns s.path) s.stamp) xs) here
    ∙ nothing_since since ns xs e (All-tail (Stays since ns) x xs a)
