-- What a search and a new entry do in a part is what they do in the whole version.
use Rattle.std.proofs.Common.{ℕ, zero, suc, ◌+◌, ◌<◌, ◌≤◌, ◌==◌, length, get_or, arith, ◌≡◌}
use Rattle.std.proofs.Common.{Bool, true, false, List, [], ◌∷◌, ◌++◌, append_assoc, Some, None}
use Rattle.std.proofs.Common.{refl, sym, ap, ◌∙◌, cond, subst, take, drop, map}
use Rattle.std.proofs.lemmas.List.{append-nil, take-append-drop}
use Rattle.std.specs.List.{AllByRecursion}
use Rattle.std.specs.Ordering.{match_ordering, is_eq}
use Rattle.std.specs.declared.cmp.Ordering.{Ordering}
use Rattle.std.specs.declared.cmp.Ordering.TheVariants.{Less, Equal, Greater}
use Rattle.omos_model.specs.Names.{Name, same_name, name_cmp}
use Rattle.omos_model.specs.Namespace.{Space, look_up, with_entry}
use Rattle.omos_model.specs.declared.entry.Stamped.{Stamped}
use Rattle.omos_model.proofs.Names.{is_eq-name_cmp}
use Rattle.omos_model.proofs.Spaces.{Above, paths}
use Rattle.name_tree.specs.Order.{IsInOrder, place}
use Rattle.name_tree.specs.Tree.{joined_pages, AreFilled, entries_of, IsTree, begun, part_at}
use Rattle.name_tree.specs.Tree.{parted}
use Rattle.name_tree.specs.Tree.{pages_with}
use Rattle.name_tree.proofs.Places.{turned}
use Rattle.name_tree.proofs.Parts.{Below, AreSome, filled-some, in_order-right, in_order-left}
use Rattle.name_tree.proofs.Parts.{begun-length, before-part, after-part, joined-split}

-- ---- between what is below and what is above

abbrev Greaters : Name → Space → Type 0
Greaters p ns = AllByRecursion (λ s. name_cmp p s.path ≡ Greater) ns

pub none_in : (p : Name) (ns : Space) → Above p (paths ns) → look_up ns p ≡ None
none_in p [] h = refl
none_in p (x ∷ xs) h =
    let e : same_name p x.path ≡ false = sym (is_eq-name_cmp p x.path) ∙ ap is_eq h.0 in
    rw e (none_in p xs h.1)

look_up-front : (p : Name) (ys zs : Space) → Above p (paths zs)
    → look_up (ys ++ zs) p ≡ look_up ys p
look_up-front p [] zs h = none_in p zs h
look_up-front p (y ∷ ys) zs h =
    ap (λ o. cond (same_name p y.path) (Some y) o) (look_up-front p ys zs h)

pub look_up-between : (p : Name) (xs ys zs : Space) → Below p xs → Above p (paths zs)
    → look_up (xs ++ (ys ++ zs)) p ≡ look_up ys p
look_up-between p [] ys zs b a = look_up-front p ys zs a
look_up-between p (x ∷ xs) ys zs b a =
    let e : same_name p x.path ≡ false = sym (is_eq-name_cmp p x.path)
    ∙ ap is_eq (turned x.path p Less b.0) in
    rw e (look_up-between p xs ys zs b.1 a)

with_entry-first : (s : Stamped) (zs : Space) → Above s.path (paths zs) → with_entry zs s ≡ s ∷ zs
with_entry-first s [] a = refl
with_entry-first s (z ∷ zs) a = rw a.0 refl

with_entry-front : (s : Stamped) (ys zs : Space) → Above s.path (paths zs)
    → with_entry (ys ++ zs) s ≡ with_entry ys s ++ zs
with_entry-front s [] zs a = with_entry-first s zs a
with_entry-front s (y ∷ ys) zs a = go (name_cmp s.path y.path) (with_entry-front s ys zs a)
  where
    go : (o : Ordering) → with_entry (ys ++ zs) s ≡ with_entry ys s ++ zs
        → match_ordering o (s ∷ y ∷ (ys ++ zs)) (s ∷ (ys ++ zs)) (y ∷ with_entry (ys ++ zs) s)
        ≡ match_ordering o (s ∷ y ∷ ys) (s ∷ ys) (y ∷ with_entry ys s) ++ zs
    go Less i = refl
    go Equal i = refl
    go Greater i = ap (λ l. y ∷ l) i

pub with_entry-between : (s : Stamped) (xs ys zs : Space) → Below s.path xs
    → Above s.path (paths zs)
    → with_entry (xs ++ (ys ++ zs)) s ≡ xs ++ (with_entry ys s ++ zs)
with_entry-between s [] ys zs b a = with_entry-front s ys zs a
with_entry-between s (x ∷ xs) ys zs b a =
    let e : name_cmp s.path x.path ≡ Greater = turned x.path s.path Less b.0 in
    rw e (ap (λ l. x ∷ l) (with_entry-between s xs ys zs b.1 a))

place-front : (p : Name) (ys zs : Space) → Above p (paths zs) → place (ys ++ zs) p ≡ place ys p
place-front p [] [] a = refl
place-front p [] (z ∷ zs) a = rw a.0 refl
place-front p (y ∷ ys) zs a =
    ap (λ n. match_ordering (name_cmp p y.path) 0 0 (suc n)) (place-front p ys zs a)

pub place-between : (p : Name) (xs ys zs : Space) → Below p xs → Above p (paths zs)
    → place (xs ++ (ys ++ zs)) p ≡ length xs + place ys p
place-between p [] ys zs b a = let i : place (ys ++ zs) p ≡ place ys p =
    place-front p ys zs a in omega (arith, i)
place-between p (x ∷ xs) ys zs b a =
    let e : name_cmp p x.path ≡ Greater = turned x.path p Less b.0 in
    let i : place (xs ++ (ys ++ zs)) p ≡ length xs + place ys p = place-between p xs ys zs b.1 a in
    rw e (omega (arith, i))

-- ---- the part alone

pub look_up-part : (ps : List Space) (p : Name) → AreSome ps → IsInOrder (joined_pages ps)
    → look_up (joined_pages ps) p ≡ look_up (get_or ps (part_at ps p) []) p
look_up-part ps p f o =
    ap (λ l. look_up l p) (joined-split ps (part_at ps p))
    ∙ look_up-between p (joined_pages (take (part_at ps p) ps)) (get_or ps (part_at ps p) [])
    (joined_pages (drop (suc (part_at ps p)) ps)) (before-part p ps f o) (after-part p ps f o)

pub in_order-part : (ps : List Space) (k : ℕ) → IsInOrder (joined_pages ps)
    → IsInOrder (get_or ps k [])
in_order-part ps k o =
    in_order-left (get_or ps k []) (joined_pages (drop (suc k) ps))
    (in_order-right (joined_pages (take k ps)) (get_or ps k [] ++ joined_pages (drop (suc k) ps))
    (subst IsInOrder (joined-split ps k) o))

pub joined-append : (ps qs : List Space)
    → joined_pages (ps ++ qs) ≡ joined_pages ps ++ joined_pages qs
joined-append [] qs = refl
joined-append (p ∷ ps) qs = ap (λ l. p ++ l) (joined-append ps qs)
    ∙ sym (append_assoc p (joined_pages ps) (joined_pages qs))

pub joined-parted : (xs : Space) → joined_pages (parted xs) ≡ xs
joined-parted xs = go (length xs == 65)
  where
    go : (b : Bool) → joined_pages (cond b (take 32 xs ∷ drop 32 xs ∷ []) (xs ∷ [])) ≡ xs
    go true = ap (λ l. take 32 xs ++ l) (append-nil (drop 32 xs)) ∙ take-append-drop 32 xs
    go false = append-nil xs

pub joined-with : (ps : List Space) (s : Stamped) → AreSome ps → IsInOrder (joined_pages ps)
    → joined_pages (pages_with ps s) ≡ with_entry (joined_pages ps) s
joined-with ps s f o =
    let at = part_at ps s.path in
    let page = get_or ps at [] in
    let rest = drop (suc at) ps in
    joined-append (take at ps ++ parted (with_entry page s)) rest
    ∙ ap (λ l. l ++ joined_pages rest) (joined-append (take at ps) (parted (with_entry page s))
    ∙ ap (λ l. joined_pages (take at ps) ++ l) (joined-parted (with_entry page s)))
    ∙ append_assoc (joined_pages (take at ps)) (with_entry page s) (joined_pages rest)
    ∙ sym (with_entry-between s (joined_pages (take at ps)) page (joined_pages rest)
    (before-part s.path ps f o)
    (after-part s.path ps f o))
    ∙ ap (λ l. with_entry l s) (sym (joined-split ps at))

pub joined-past : (ps : List Space) (p : Name) → length ps ≤ part_at ps p → joined_pages ps ≡ []
joined-past [] p h = refl
joined-past (x ∷ xs) p h =
    let i : begun (x ∷ xs) p ≤ suc (length xs) = begun-length (x ∷ xs) p in
    absurd (omega (arith, h, i))

-- ---- branches

pub map-take : {X Y : Type 0} (f : X → Y) (k : ℕ) (xs : List X)
    → take k (map f xs) ≡ map f (take k xs)
map-take f zero xs = refl
map-take f (suc k) [] = refl
map-take f (suc k) (x ∷ xs) = ap (λ l. f x ∷ l) (map-take f k xs)

pub map-drop : {X Y : Type 0} (f : X → Y) (k : ℕ) (xs : List X)
    → drop k (map f xs) ≡ map f (drop k xs)
map-drop f zero xs = refl
map-drop f (suc k) [] = refl
map-drop f (suc k) (x ∷ xs) = map-drop f k xs

pub get-joined : (bs : List (List Space)) (k : ℕ)
    → get_or (map joined_pages bs) k [] ≡ joined_pages (get_or bs k [])
get-joined [] k = refl
get-joined (b ∷ bs) zero = refl
get-joined (b ∷ bs) (suc k) = get-joined bs k

joined-some : (ps : List Space) → 0 < length ps → AreSome ps → 0 < length (joined_pages ps)
joined-some [] lt f = absurd (omega arith)
joined-some ([] ∷ ps) lt f = let z : 0 < 0 = f.0 in absurd (omega (arith, z))
joined-some ((x ∷ xs) ∷ ps) lt f = omega arith

pub branches-some : (bs : List (List Space)) → AreFilled bs → AllByRecursion (λ ps. AreFilled ps) bs
    → AreSome (map joined_pages bs)
branches-some [] f g = tt
branches-some (b ∷ bs) f g = (joined-some b f.0.0 (filled-some b g.0), branches-some bs f.1 g.1)

pub tree-some : (bs : List (List Space)) → IsTree bs → AreSome (map joined_pages bs)
tree-some bs t = branches-some bs t.filled t.pages_filled

pub branch-filled : (bs : List (List Space)) (k : ℕ) → AllByRecursion (λ ps. AreFilled ps) bs
    → AreFilled (get_or bs k [])
branch-filled [] k g = tt
branch-filled (b ∷ bs) zero g = g.0
branch-filled (b ∷ bs) (suc k) g = branch-filled bs k g.1

pub branch-in_order : (bs : List (List Space)) (k : ℕ) → IsInOrder (entries_of bs)
    → IsInOrder (joined_pages (get_or bs k []))
branch-in_order bs k o = subst IsInOrder (get-joined bs k) (in_order-part (map joined_pages bs) k o)

pub look_up-branch : (bs : List (List Space)) (p : Name) → IsTree bs
    → look_up (entries_of bs) p
    ≡ look_up (joined_pages (get_or bs (part_at (map joined_pages bs) p) [])) p
look_up-branch bs p t =
    look_up-part (map joined_pages bs) p (tree-some bs t) t.in_order
    ∙ ap (λ l. look_up l p) (get-joined bs (part_at (map joined_pages bs) p))

pub get-default : {X : Type 0} (xs : List X) (k : ℕ) (d e : X) → k < length xs
    → get_or xs k d ≡ get_or xs k e
get-default [] k d e lt = absurd (omega arith)
get-default (x ∷ xs) zero d e lt = refl
get-default (x ∷ xs) (suc k) d e lt = let below : k < length xs =
    omega arith in get-default xs k d e below

pub joined-more : (ps : List Space) (k : ℕ) (d : Space) → k < length ps
    → joined_pages (take (k + 1) ps) ≡ joined_pages (take k ps) ++ get_or ps k d
joined-more [] k d lt = absurd (omega arith)
joined-more (x ∷ xs) zero d lt = append-nil x
joined-more (x ∷ xs) (suc k) d lt =
    let below : k < length xs = omega arith in
    let e : suc k + 1 ≡ suc (k + 1) = omega arith in
    rw e (ap (λ l. x ++ l) (joined-more xs k d below)
    ∙ sym (append_assoc x (joined_pages (take k xs)) (get_or xs k d)))

pub entries-more : (bs : List (List Space)) (k : ℕ) (d : List Space) → k < length bs
    → entries_of (take (k + 1) bs) ≡ entries_of (take k bs) ++ joined_pages (get_or bs k d)
entries-more [] k d lt = absurd (omega arith)
entries-more (x ∷ xs) zero d lt = append-nil (joined_pages x)
entries-more (x ∷ xs) (suc k) d lt =
    let below : k < length xs = omega arith in
    let e : suc k + 1 ≡ suc (k + 1) = omega arith in
    rw e (ap (λ l. joined_pages x ++ l) (entries-more xs k d below)
    ∙ sym (append_assoc (joined_pages x) (entries_of (take k xs)) (joined_pages (get_or xs k d))))
