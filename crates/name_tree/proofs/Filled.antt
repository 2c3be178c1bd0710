-- Pages and branches that are filled stay so when an entry is put.
use Rattle.std.proofs.Common.{ℕ, zero, suc, ◌+◌, ◌-◌, ◌<◌, ◌≤◌, length, get_or, arith, ◌≡◌}
use Rattle.std.proofs.Common.{Bool, true, false, List, [], ◌∷◌, ◌++◌, Some, None}
use Rattle.std.proofs.Common.{refl, sym, subst, take, drop, map, min}
use Rattle.std.proofs.Common.{is_some, not, is_none, Option, Bor, length-append, true≢false}
use Rattle.std.specs.Option.{option_copied}
use Rattle.std.proofs.lemmas.List.{length-take, length-drop}
use Rattle.omos_model.specs.Names.{Name}
use Rattle.omos_model.specs.Namespace.{Space, with_entry}
use Rattle.omos_model.specs.declared.entry.Stamped.{Stamped}
use Rattle.omos_model.proofs.Ranges.{length-map}
use Rattle.omos_model.proofs.Spaces.{IsStrictlySortedBy-with_entry}
use Rattle.name_tree.specs.Order.{IsInOrder}
use Rattle.name_tree.specs.Tree.{joined_pages, AreFilled, IsFilled, entries_of, IsTree}
use Rattle.name_tree.specs.Tree.{branches_with, begun, part_at, parted, pages_with}
use Rattle.name_tree.proofs.Parts.{begun-length}
use Rattle.name_tree.proofs.Alone.{branch-filled}
use Rattle.name_tree.proofs.Grown.{entries-with, all-append, all-take, all-drop, parted-filled}
use Rattle.name_tree.proofs.Grown.{parted-all, parted-length, parted-some, with-length}

pub page-short : (ps : List Space) (k : ℕ) → AreFilled ps → length (get_or ps k []) ≤ 64
page-short [] k f = omega arith
page-short (p ∷ ps) zero f = f.0.1
page-short (p ∷ ps) (suc k) f = page-short ps k f.1

pub branch-short : (bs : List (List Space)) (k : ℕ) → AreFilled bs → length (get_or bs k []) ≤ 64
branch-short [] k f = omega arith
branch-short (b ∷ bs) zero f = f.0.1
branch-short (b ∷ bs) (suc k) f = branch-short bs k f.1

page-parted : (ps : List Space) (k : ℕ) (s : Stamped) → AreFilled ps
    → AreFilled (parted (with_entry (get_or ps k []) s))
page-parted ps k s f =
    let h = with-length (get_or ps k []) s in
    let n : length (get_or ps k []) ≤ 64 = page-short ps k f in
    let m : length (with_entry (get_or ps k []) s) ≤ length (get_or ps k []) + 1 = h.1 in
    parted-filled (with_entry (get_or ps k []) s) h.0 (omega (arith, n, m))

pub pages-with-filled : (ps : List Space) (s : Stamped) → AreFilled ps → AreFilled (pages_with ps s)
pages-with-filled ps s f =
    let k = part_at ps s.path in
    all-append (λ p. IsFilled p) (take k ps ++ parted (with_entry (get_or ps k []) s))
    (drop (suc k) ps)
    (all-append (λ p. IsFilled p) (take k ps) (parted (with_entry (get_or ps k []) s))
    (all-take (λ p. IsFilled p) k ps f) (page-parted ps k s f))
    (all-drop (λ p. IsFilled p) (suc k) ps f)

around-length : {X : Type 0} (xs ys : List X) (k : ℕ) → (length xs ≡ 0 → length ys ≤ 1)
    → length ys ≤ 2
    → (0 < length xs → k < length xs) → length (take k xs ++ ys ++ drop (suc k) xs) ≤ length xs + 1
around-length xs ys k one two within =
    let a : length (take k xs ++ ys ++ drop (suc k) xs)
    ≡ length (take k xs ++ ys) + length (drop (suc k) xs) =
    length-append (take k xs ++ ys) (drop (suc k) xs) in
    let b : length (take k xs ++ ys) ≡ length (take k xs) + length ys =
    length-append (take k xs) ys in
    let t : length (take k xs) ≡ min k (length xs) = length-take k xs in
    let d : length (drop (suc k) xs) ≡ length xs - suc k = length-drop (suc k) xs in
    grind (arith, a, b, t, d, one, two, within)

pub at-within : (ps : List Space) (p : Name) → 0 < length ps → part_at ps p < length ps
at-within ps p lt = let h : begun ps p ≤ length ps = begun-length ps p in omega (arith, h, lt)

pub branch-within : (bs : List (List Space)) (p : Name) → 0 < length bs
    → part_at (map joined_pages bs) p < length bs
branch-within bs p lt =
    let size : length (map joined_pages bs) ≡ length bs = length-map joined_pages bs in
    let within : part_at (map joined_pages bs) p < length (map joined_pages bs) =
    at-within (map joined_pages bs) p (omega (arith, lt, size)) in
    omega (arith, within, size)

pub pages-with-length : (ps : List Space) (s : Stamped)
    → (0 < length (pages_with ps s)) × (length (pages_with ps s) ≤ length ps + 1)
pages-with-length ps s = (
  some,
  around-length ps made k (one ps) (parted-length (with_entry (get_or ps k []) s))
      (at-within ps s.path),
)
  where
    k : ℕ
    k = part_at ps s.path

    made : List Space
    made = parted (with_entry (get_or ps (part_at ps s.path) []) s)

    one : (ps : List Space) → length ps ≡ 0
        → length (parted (with_entry (get_or ps (part_at ps s.path) []) s)) ≤ 1
    one [] e = omega arith
    one (p ∷ ps) e = absurd (omega (arith, e))

    some : 0 < length (pages_with ps s)
    some =
        let a : length (take k ps ++ made ++ drop (suc k) ps)
        ≡ length (take k ps ++ made) + length (drop (suc k) ps) =
        length-append (take k ps ++ made) (drop (suc k) ps) in
        let b : length (take k ps ++ made) ≡ length (take k ps) + length made =
        length-append (take k ps) made in
        let c : 0 < length made = parted-some (with_entry (get_or ps k []) s) in
        omega (arith, a, b, c)

pub tree-with : (bs : List (List Space)) (s : Stamped) → IsTree bs → IsTree (branches_with bs s)
tree-with bs s t =
    let k = part_at (map joined_pages bs) s.path in
    let new = pages_with (get_or bs k []) s in
    let h = pages-with-length (get_or bs k []) s in
    let n : length (get_or bs k []) ≤ 64 = branch-short bs k t.filled in
    let m : length new ≤ length (get_or bs k []) + 1 = h.1 in
    record {
      in_order =
          subst IsInOrder (sym (entries-with bs s t))
          (IsStrictlySortedBy-with_entry (entries_of bs) s t.in_order);
      filled =
          all-append (λ b. IsFilled b) (take k bs ++ parted new) (drop (suc k) bs)
          (all-append (λ b. IsFilled b) (take k bs) (parted new)
          (all-take (λ b. IsFilled b) k bs t.filled)
          (parted-filled new h.0 (omega (arith, n, m))))
          (all-drop (λ b. IsFilled b) (suc k) bs t.filled);
      pages_filled =
          all-append (λ b. AreFilled b) (take k bs ++ parted new) (drop (suc k) bs)
          (all-append (λ b. AreFilled b) (take k bs) (parted new)
          (all-take (λ b. AreFilled b) k bs t.pages_filled)
          (parted-all (λ p. IsFilled p) new
          (pages-with-filled (get_or bs k []) s (branch-filled bs k t.pages_filled))))
          (all-drop (λ b. AreFilled b) (suc k) bs t.pages_filled);
    }

pub is_none-copied : {X : Type 0} (o : Option (Bor X)) → is_none o ≡ is_none (option_copied o)
is_none-copied None = refl
is_none-copied (Some x) = refl

pub not-is_some : {X : Type 0} (o : Option X) (b : Bool) → is_some o ≡ not b → b ≡ is_none o
not-is_some None true e = refl
not-is_some None false e = absurd (true≢false (sym e))
not-is_some (Some x) true e = absurd (true≢false e)
not-is_some (Some x) false e = refl
