-- Pieces that are copied from the last to the first.
use Rattle.std.proofs.Common.{◌≡◌, ℕ, ◌+◌, ◌<◌, List, [], ◌∷◌, ◌++◌, All, length, get_or, drop}
use Rattle.std.proofs.Common.{Option, Some, None, Bool, true, false, refl, sym, ap, subst, ◌∙◌}
use Rattle.std.proofs.Common.{arith}
use Rattle.std.specs.Prelude.{if◌then◌else◌}
use Rattle.std.specs.List.{find, flat_map, zip}
use Rattle.std.specs.Option.{option_map, option_or}
use Rattle.std.proofs.lemmas.List.{drop_more, drop_all}
use Rattle.std.proofs.lemmas.List.Elements.{All-same}
use Rattle.std.proofs.lemmas.List.Folds.{find-append}
use Rattle.std.proofs.lemmas.Slice.Zip.{length-zip, get_or-zip}
use Rattle.omos_model.specs.declared.entry.Entry.{Entry}
use Rattle.omos_model.specs.declared.fragment.Piece.{Piece}
use Rattle.link_model.specs.ImageBytes.{covers}
use Rattle.image_write.specs.inside.Painted.{Painted, run_at}
use Rattle.link_layout.specs.Pieces.{all_pieces, pieces_in}
use Rattle.image_write.specs.inside.Sections.{AreInside, IsInside, IsLeafInside, PlacedPiece}
use Rattle.image_write.specs.inside.Sections.{byte_at, first_byte, placed_in}
use Rattle.image_write.proofs.Painting.{either, painted-as, painted-nothing, painted-then}

-- ---- two lists side by side

pub pair-at : {A B : Type 0} (ks : List A) (vs : List B) (k : ℕ) (x : A) (y : B)
    → length ks ≡ length vs → k < length vs
    → x ≡ get_or ks k x → y ≡ get_or vs k y → get_or (zip ks vs) k (x, y) ≡ (x, y)
pair-at ks vs k x y same lt ex ey =
    get_or-zip ks vs k (x, y) (omega arith) lt ∙ (λ i. (sym ex i, sym ey i))

pub zip-from : {A B : Type 0} (ks : List A) (vs : List B) (k : ℕ) (x : A) (y : B)
    → length ks ≡ length vs → k < length vs
    → x ≡ get_or ks k x → y ≡ get_or vs k y → drop k (zip ks vs) ≡ (x, y) ∷ drop (k + 1) (zip ks vs)
zip-from ks vs k x y same lt ex ey =
    drop_more (zip ks vs) k (x, y) (omega (arith, length-zip ks vs))
    ∙ ap (λ p. p ∷ drop (k + 1) (zip ks vs)) (pair-at ks vs k x y same lt ex ey)

zip-append : {A B : Type 0} (js ks : List A) (bs vs : List B) → length js ≡ length bs
    → zip (js ++ ks) (bs ++ vs) ≡ zip js bs ++ zip ks vs
zip-append [] ks [] vs h = refl
zip-append [] ks (b ∷ bs) vs h = absurd (omega arith)
zip-append (a ∷ js) ks [] vs h = absurd (omega arith)
zip-append (a ∷ js) ks (b ∷ bs) vs h = ap (λ xs. (a, b) ∷ xs) (zip-append js ks bs vs (omega arith))

-- ---- the first of some pieces

pick : {X Y : Type 0} (b : Bool) (f : X → Y) (y : X) (r : Option X)
    → option_or (if b then Some (f y) else None) (option_map f r)
    ≡ option_map f (if b then Some y else r)
pick true f y r = refl
pick false f y r = refl

first_byte-next : (y : PlacedPiece) (ys : List PlacedPiece) (x : ℕ)
    → option_or (run_at y.0 y.1.bytes x) (first_byte ys x) ≡ first_byte (y ∷ ys) x
first_byte-next y ys x =
    pick (covers y.0 (length y.1.bytes) x) (byte_at x) y
    (find (λ z. covers z.0 (length z.1.bytes) x) ys)

first_byte-append : (ys zs : List PlacedPiece) (x : ℕ)
    → option_or (first_byte ys x) (first_byte zs x) ≡ first_byte (ys ++ zs) x
first_byte-append ys zs x =
    either (byte_at x) (find (λ z. covers z.0 (length z.1.bytes) x) ys)
    (find (λ z. covers z.0 (length z.1.bytes) x) zs)
    ∙ ap (option_map (byte_at x)) (sym (find-append (λ z. covers z.0 (length z.1.bytes) x) ys zs))

-- ---- a leaf

pub leaf-begins : (body : List ℕ) (places : List ℕ) (pieces : List Piece)
    → length places ≡ length pieces
    → Painted body (first_byte (drop (length pieces) (zip places pieces))) body
leaf-begins body places pieces same =
    painted-as (first_byte (drop (length pieces) (zip places pieces))) (painted-nothing body)
    (λ x lt. ap (λ ys. first_byte ys x)
    (sym (drop_all (length pieces) (zip places pieces)
    (omega (arith, length-zip places pieces)))))

pub inside-at : (n m : ℕ) (places : List ℕ) (pieces : List Piece) (k : ℕ) (place : ℕ) (p : Piece)
    → All (IsInside n) (zip places pieces) → length places ≡ length pieces → k < length pieces
    → place ≡ get_or places k place → p ≡ get_or pieces k p → m ≡ n → IsInside m (place, p)
inside-at n m places pieces k place p each same lt ex ep e =
    subst (λ (s : ℕ). IsInside s (place, p)) (sym e)
    (subst (IsInside n) (pair-at places pieces k place p same lt ex ep)
    (each k (place, p) (omega (arith, length-zip places pieces))))

pub leaf-goes : (places : List ℕ) (pieces : List Piece) (k at place : ℕ) (p : Piece)
    (new mid old : List ℕ)
    → length places ≡ length pieces → k < length pieces → place ≡ get_or places k place
    → p ≡ get_or pieces k p
    → at ≡ k + 1 → Painted new (run_at place p.bytes) mid
    → Painted mid (first_byte (drop at (zip places pieces))) old
    → Painted new (first_byte (drop k (zip places pieces))) old
leaf-goes places pieces k at place p new mid old same lt ex ep next later before =
    painted-as (first_byte (drop k (zip places pieces))) (painted-then later before)
    (λ x _.
    ap (λ n. option_or (run_at place p.bytes x) (first_byte (drop n (zip places pieces)) x)) next
    ∙ first_byte-next (place, p) (drop (k + 1) (zip places pieces)) x
    ∙ ap (λ ys. first_byte ys x) (sym (zip-from places pieces k place p same lt ex ep)))

-- ---- all leaves

pub leaf-inside : (n m : ℕ) (places : List (List ℕ)) (leaves : List Entry) (k : ℕ) (row : List ℕ)
    (leaf : Entry)
    → AreInside n places leaves → k < length leaves → row ≡ get_or places k row
    → leaf ≡ get_or leaves k leaf → m ≡ n
    → IsLeafInside m (row, leaf)
leaf-inside n m places leaves k row leaf h lt ex ey e =
    subst (λ (s : ℕ). IsLeafInside s (row, leaf)) (sym e)
    (subst (IsLeafInside n) (pair-at places leaves k row leaf h.count lt ex ey)
    (h.each k (row, leaf) (let same = h.count in omega (arith, length-zip places leaves))))

pub placed-more : (places : List (List ℕ)) (leaves : List Entry) (row : List ℕ) (leaf : Entry)
    → length row ≡ length (pieces_in leaf)
    → placed_in (row ∷ places) (leaf ∷ leaves) ≡ zip row (pieces_in leaf) ++ placed_in places leaves
placed-more places leaves row leaf same =
    zip-append row (flat_map (λ (r : List ℕ). r) places) (pieces_in leaf) (all_pieces leaves) same

pub leaves-go : (places : List (List ℕ)) (leaves : List Entry) (k at : ℕ) (row row' : List ℕ)
    (leaf : Entry) (ps : List Piece) (new mid old : List ℕ)
    → length places ≡ length leaves → k < length leaves → row ≡ get_or places k row
    → leaf ≡ get_or leaves k leaf
    → length row ≡ length (pieces_in leaf) → row' ≡ row → ps ≡ pieces_in leaf → at ≡ k + 1
    → Painted new (first_byte (zip row' ps)) mid
    → Painted mid (first_byte (placed_in (drop at places) (drop at leaves))) old
    → Painted new (first_byte (placed_in (drop k places) (drop k leaves))) old
leaves-go places leaves k at row row' leaf ps new mid old same lt ex ey count er ep next later
    before =
    painted-as (first_byte (placed_in (drop k places) (drop k leaves))) (painted-then later before)
    (λ x _.
    (λ i. option_or (first_byte (zip (er i) (ep i)) x)
    (first_byte (placed_in (drop (next i) places) (drop (next i) leaves)) x))
    ∙ first_byte-append (zip row (pieces_in leaf))
    (placed_in (drop (k + 1) places) (drop (k + 1) leaves)) x
    ∙ ap (λ ys. first_byte ys x)
    (sym (placed-more (drop (k + 1) places) (drop (k + 1) leaves) row leaf count))
    ∙ (λ i. first_byte
    (placed_in (sym (from places row (omega arith) ex) i) (sym (from leaves leaf lt ey) i)) x))
  where
    from : {X : Type 0} (xs : List X) (y : X) → k < length xs → y ≡ get_or xs k y
        → drop k xs ≡ y ∷ drop (k + 1) xs
    from xs y h e = drop_more xs k y h ∙ (λ i. sym e i ∷ drop (k + 1) xs)

pub leaf-each : (m : ℕ) (row row' : List ℕ) (leaf : Entry) (ps : List Piece)
    → IsLeafInside m (row, leaf)
    → row' ≡ row → ps ≡ pieces_in leaf → All (IsInside m) (zip row' ps)
leaf-each m row row' leaf ps h er ep =
    All-same (IsInside m) (zip row' ps) (zip row (pieces_in leaf)) (λ i. zip (er i) (ep i)) h.each
