-- The counts of a tree when an entry is put under a path, whether or not one was there.
use Rattle.std.proofs.Common.{ℕ, suc, ◌+◌, ◌<◌, ◌≤◌, ◌==◌, length, get_or}
use Rattle.std.proofs.Common.{arith, ◌≡◌, Bool, true, false}
use Rattle.std.proofs.Common.{List, [], ◌∷◌, ◌++◌, Some, None, refl, sym, ap, ◌∙◌}
use Rattle.std.proofs.Common.{cond, is_some, is_none}
use Rattle.std.proofs.Common.{take, drop, map, true≢false, Option}
use Rattle.std.proofs.lemmas.Bool.{eqb-true}
use Rattle.std.proofs.lemmas.List.{map-append}
use Rattle.omos_model.specs.Namespace.{Space, look_up, with_entry}
use Rattle.omos_model.specs.declared.entry.Stamped.{Stamped}
use Rattle.omos_model.proofs.Ranges.{length-map}
use Rattle.name_tree.specs.Order.{IsInOrder, place}
use Rattle.name_tree.specs.Tree.{joined_pages, entries_of, page_counts, IsTree, part_at}
use Rattle.name_tree.specs.Tree.{parted}
use Rattle.name_tree.specs.Tree.{pages_with, branches_with, with_pages, AreFilled}
use Rattle.name_tree.specs.Tree.{branches_grown}
use Rattle.name_tree.proofs.Parts.{filled-some}
use Rattle.name_tree.proofs.Alone.{look_up-branch}
use Rattle.name_tree.proofs.Alone.{branch-filled, branch-in_order, look_up-part}
use Rattle.name_tree.proofs.Alone.{in_order-part}
use Rattle.name_tree.proofs.Filled.{at-within, branch-short, branch-within, page-short}
use Rattle.name_tree.proofs.Grown.{length-with}
use Rattle.name_tree.proofs.Counts.{split-at, map-around, branches-counts}

-- ---- a path that is there

parted-one : {X : Type 0} (xs : List X) → length xs ≤ 64 → parted xs ≡ xs ∷ []
parted-one xs le = go (length xs == 65) refl
  where
    go : (b : Bool) → (length xs == 65) ≡ b → cond b (take 32 xs ∷ drop 32 xs ∷ []) (xs ∷ [])
        ≡ xs ∷ []
    go true e = let n : length xs ≡ 65 = eqb-true (length xs) 65 e in absurd (omega (arith, n, le))
    go false e = refl

none-old : (o : Option Stamped) (n : ℕ) → is_some o ≡ true → n + cond (is_none o) 1 0 ≡ n
none-old None n e = absurd (true≢false (sym e))
none-old (Some x) n e = omega arith

pub pages-kept : (ps : List Space) (s : Stamped) → AreFilled ps → IsInOrder (joined_pages ps)
    → is_some (look_up (joined_pages ps) s.path) ≡ true
    → map (λ p. length p) (pages_with ps s) ≡ map (λ p. length p) ps
pages-kept [] s f o n = absurd (true≢false (sym n))
pages-kept (q ∷ qs) s f o n = all (q ∷ qs) (omega arith) f o n
  where
    all : (ps : List Space) → 0 < length ps → AreFilled ps → IsInOrder (joined_pages ps)
        → is_some (look_up (joined_pages ps) s.path) ≡ true
        → map (λ p. length p) (pages_with ps s) ≡ map (λ p. length p) ps
    all ps lt f o n =
        let k = part_at ps s.path in
        let page = get_or ps k [] in
        let before = take k ps in
        let rest = drop (suc k) ps in
        let there : is_some (look_up page s.path) ≡ true =
        ap is_some (sym (look_up-part ps s.path (filled-some ps f) o)) ∙ n in
        let same : length (with_entry page s) ≡ length page =
        length-with page s (in_order-part ps k o)
        ∙ none-old (look_up page s.path) (length page) there in
        let short : length page ≤ 64 = page-short ps k f in
        let one : parted (with_entry page s) ≡ with_entry page s ∷ [] =
        parted-one (with_entry page s) (omega (arith, same, short)) in
        map-around (λ p. length p) before (parted (with_entry page s)) rest
        ∙ ap (λ l. map (λ p. length p) before
        ++ (map (λ p. length p) l ++ map (λ p. length p) rest)) one
        ∙ ap (λ n. map (λ p. length p) before ++ n ∷ map (λ p. length p) rest) same
        ∙ sym (ap (map (λ p. length p)) (split-at ps k [] (at-within ps s.path lt))
        ∙ map-append (λ p. length p) before (page ∷ rest))

pub branches-kept : (bs : List (List Space)) (s : Stamped) → IsTree bs
    → is_some (look_up (entries_of bs) s.path) ≡ true
    → page_counts (branches_with bs s) ≡ page_counts bs
branches-kept [] s t n = absurd (true≢false (sym n))
branches-kept (q ∷ qs) s t n = all (q ∷ qs) (omega arith) t n
  where
    all : (bs : List (List Space)) → 0 < length bs → IsTree bs
        → is_some (look_up (entries_of bs) s.path) ≡ true
        → page_counts (branches_with bs s) ≡ page_counts bs
    all bs lt t n =
        let k = part_at (map joined_pages bs) s.path in
        let branch = get_or bs k [] in
        let before = take k bs in
        let rest = drop (suc k) bs in
        let there : is_some (look_up (joined_pages branch) s.path) ≡ true =
        ap is_some (sym (look_up-branch bs s.path t)) ∙ n in
        let same : map (λ p. length p) (pages_with branch s) ≡ map (λ p. length p) branch =
        pages-kept branch s (branch-filled bs k t.pages_filled) (branch-in_order bs k t.in_order)
        there in
        let long : length (pages_with branch s) ≡ length branch =
        sym (length-map (λ p. length p) (pages_with branch s)) ∙ ap (λ l. length l) same
        ∙ length-map (λ p. length p) branch in
        let short : length branch ≤ 64 = branch-short bs k t.filled in
        let one : parted (pages_with branch s) ≡ pages_with branch s ∷ [] =
        parted-one (pages_with branch s) (omega (arith, long, short)) in
        map-around (λ ps. map (λ p. length p) ps) before (parted (pages_with branch s)) rest
        ∙ ap (λ l. page_counts before ++ (page_counts l ++ page_counts rest)) one
        ∙ ap (λ c. page_counts before ++ c ∷ page_counts rest) same
        ∙ sym (ap page_counts (split-at bs k [] (branch-within bs s.path lt))
        ∙ map-append (λ ps. map (λ p. length p) ps) before (branch ∷ rest))

-- what an entry makes of the counts
pub counts-with : (bs : List (List Space)) (s : Stamped) → IsTree bs
    → page_counts (branches_with bs s)
    ≡ with_pages (record { entries = entries_of bs; pages = page_counts bs }) s.path
counts-with bs s t = go (look_up (entries_of bs) s.path) refl
  where
    go : (o : Option Stamped) → look_up (entries_of bs) s.path ≡ o
        → page_counts (branches_with bs s)
        ≡ cond (is_some (look_up (entries_of bs) s.path)) (page_counts bs)
        (branches_grown (page_counts bs) (place (entries_of bs) s.path))
    go None e =
        branches-counts bs s t e
        ∙ sym (ap
        (λ o. cond (is_some o) (page_counts bs)
        (branches_grown (page_counts bs) (place (entries_of bs) s.path))) e)
    go (Some x) e =
        branches-kept bs s t (ap is_some e)
        ∙ sym (ap
        (λ o. cond (is_some o) (page_counts bs)
        (branches_grown (page_counts bs) (place (entries_of bs) s.path))) e)
