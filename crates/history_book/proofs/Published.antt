-- What wasn't published since a version stands as it did there.
use Rattle.std.proofs.Common.{◌≡◌, ℕ, zero, suc, ◌+◌, Bool, true, false, ◌||◌, List, [], ◌∷◌, ◌++◌}
use Rattle.std.proofs.Common.{map, take, drop, fold, cond, Some}
use Rattle.std.proofs.Common.{refl, ap, ◌∙◌, arith, nat_eq, true≢false}
use Rattle.std.proofs.lemmas.Bool.Decides.{nat_tests}
use Rattle.std.proofs.lemmas.List.{map-append, take_all}
use Rattle.omos_model.specs.Names.{Name, same_name}
use Rattle.omos_model.specs.Namespace.{Space, look_up, with_entry, stamped_from}
use Rattle.omos_model.specs.declared.entry.Entry.{Entry}
use Rattle.omos_model.specs.declared.entry.Stamped.{Stamped}
use Rattle.omos_model.proofs.Names.{same_name-true}
use Rattle.omos_model.proofs.Spaces.{look_up-with_entry}
use Rattle.place_book.specs.Keys.{key_of, is_listed}
use Rattle.history_book.specs.Told.{puts_of, version_after, namespace_in, namespace_after}
use Rattle.history_book.specs.Published.{published}
use Rattle.history_book.specs.declared.step.Step.{Step}
use Rattle.history_book.proofs.Grow.{puts_push}

pub published_push : (P : List Step) (s : Step)
    → published (P ++ s ∷ []) ≡ published P ++ published (s ∷ [])
published_push P s =
    ap (map (λ (put : Name × Entry). key_of put.0)) (puts_push P s)
    ∙ map-append (λ (put : Name × Entry). key_of put.0) (puts_of P) (puts_of (s ∷ []))

-- the keys of publishes
abbrev keys : List (Name × Entry) → List ℕ
keys puts = map (λ put. key_of put.0) puts

-- a path of another key is another path
other_path : (p q : Name) → nat_eq (key_of p) (key_of q) ≡ false → same_name p q ≡ false
other_path p q e = go (same_name p q) refl
  where
    go : (b : Bool) → same_name p q ≡ b → b ≡ false
    go true d =
        let same = ap key_of (same_name-true p q d) in
        absurd (grind (arith, nat_tests, e, same))
    go false d = refl

-- publishes whose keys are others leave what stands under the path
unchanged : (n : ℕ) (ns : Space) (puts : List (Name × Entry)) (p : Name)
    → is_listed (keys puts) p ≡ false
    → look_up (fold with_entry ns (stamped_from n puts)) p ≡ look_up ns p
unchanged n ns [] p e = refl
unchanged n ns (put ∷ puts) p e =
    let s : Stamped = record { path = put.0; stamp = n; entry = put.1 } in
    go s (nat_eq (key_of p) (key_of put.0)) refl e (unchanged (n + 1) (with_entry ns s) puts p)
  where
    go : (s : Stamped) (b : Bool) → nat_eq (key_of p) (key_of s.path) ≡ b
        → (b || is_listed (keys puts) p) ≡ false
        → (is_listed (keys puts) p ≡ false
        → look_up (fold with_entry (with_entry ns s) (stamped_from (n + 1) puts)) p
        ≡ look_up (with_entry ns s) p)
        → look_up (fold with_entry (with_entry ns s) (stamped_from (n + 1) puts)) p ≡ look_up ns p
    go s true d k i = absurd (true≢false k)
    go s false d k i =
        i k ∙ look_up-with_entry ns s p
        ∙ ap (λ b. cond b (Some s) (look_up ns p)) (other_path p s.path d)

-- the same for those behind the first c
unchanged_since : (n : ℕ) (ns : Space) (puts : List (Name × Entry)) (c : ℕ) (p : Name)
    → is_listed (drop c (keys puts)) p ≡ false
    → look_up (fold with_entry ns (stamped_from n puts)) p
    ≡ look_up (fold with_entry ns (stamped_from n (take c puts))) p
unchanged_since n ns puts zero p e = unchanged n ns puts p e
unchanged_since n ns [] (suc c) p e = refl
unchanged_since n ns (put ∷ puts) (suc c) p e =
    unchanged_since (n + 1) (with_entry ns (record { path = put.0; stamp = n; entry = put.1 })) puts
    c p e

-- under a path whose key wasn't published since a version stands what stood there
pub unpublished : (P : List Step) (c : ℕ) (p : Name) → is_listed (drop c (published P)) p ≡ false
    → look_up (namespace_after P) p ≡ look_up (namespace_in P c) p
unpublished P c p e =
    ap (λ puts. look_up (fold with_entry [] (stamped_from 1 puts)) p)
    (take_all (version_after P) (puts_of P) (omega arith))
    ∙ unchanged_since 1 [] (puts_of P) c p e
