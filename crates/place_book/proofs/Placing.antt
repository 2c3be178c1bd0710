-- What the spans of a book say of its placements.
use Rattle.std.proofs.Common.{◌≡◌, ℕ, ◌*◌, ◌%◌, ◌<◌, ◌≤◌, Bool, true, false}
use Rattle.std.proofs.Common.{List, [], ◌∷◌, ◌++◌, map, refl, arith, ap, Option, Some, None, sym}
use Rattle.std.proofs.Common.{◌∙◌}
use Rattle.std.proofs.Common.{subst, cond, IsTrue, ◌==◌, nat_le, nat_lt}
use Rattle.std.specs.List.{All, fold, position_or_len, insert}
use Rattle.std.specs.Option.{option_map}
use Rattle.std.proofs.lemmas.Bool.Decides.{nat_tests}
use Rattle.std.proofs.lemmas.List.{map_push}
use Rattle.std.proofs.lemmas.List.Elements.{All-cons, All-head, All-tail, All-nil, All-weaker}
use Rattle.std.proofs.lemmas.List.Elements.{All-push, All-map}
use Rattle.std.proofs.lemmas.List.Sorted.{All-permutation, IsPermutation-sym, IsPermutation-trans}
use Rattle.std.proofs.lemmas.List.Sorted.{IsPermutation-to_front, IsPermutation-cons}
use Rattle.std.proofs.lemmas.List.Sorted.{IsPermutation-insert}
use Rattle.omos_model.specs.ImageParts.{is_range, top}
use Rattle.omos_model.specs.Names.{Name}
use Rattle.omos_model.specs.Places.{past, past_of, serves, held, place_for, Stands, CanJoin}
use Rattle.place_book.specs.Laws.{IsFreePlace, IsPlace}
use Rattle.place_book.specs.Books.{AreSpansOf, IsPlacement}
use Rattle.place_book.specs.Spans.{span_of, next_base, begins_after, IsSpan}
use Rattle.omos_model.specs.declared.placement.Placement.{Placement}
use Rattle.omos_model.specs.declared.placement.Place.TheVariants.{Held, New, NoRoom}
use Rattle.place_book.specs.declared.span.Span.{Span}
use Rattle.place_book.proofs.Least.{IsClear, IsProper, fold_least, fold_clear, fold_page}
use Rattle.place_book.proofs.Least.{fold_rises}
use Rattle.place_book.proofs.Order.{AreApart, insert_order}
use Rattle.place_book.proofs.Words.{from_words, to_words}

-- a range in words
pub record IsRange (lo hi : ℕ) : Type 0 where
  pub low_page : lo % 4096 ≡ 0
  pub high_page : hi % 4096 ≡ 0
  pub low : 65536 ≤ lo
  pub some : lo < hi
  pub high : hi ≤ 140737488351232

pub range_is : (lo hi : ℕ) → IsTrue (is_range lo hi) → IsRange lo hi
range_is lo hi t = record {
  low_page = grind (arith, nat_tests, t);
  high_page = grind (arith, nat_tests, t);
  low = grind (arith, nat_tests, t);
  some = grind (arith, nat_tests, t);
  high = grind (arith, nat_tests, t);
}

pub range_from : (lo hi : ℕ) → IsRange lo hi → IsTrue (is_range lo hi)
range_from lo hi r =
    let a : (lo % 4096 == 0) ≡ true = grind (arith, nat_tests, r.low_page) in
    let b : (hi % 4096 == 0) ≡ true = grind (arith, nat_tests, r.high_page) in
    let c : nat_le 65536 lo ≡ true = grind (arith, nat_tests, r.low) in
    let d : nat_lt lo hi ≡ true = grind (arith, nat_tests, r.some) in
    let e : nat_le hi top ≡ true = grind (arith, nat_tests, r.high) in
    rw (a, b, c, d, e) refl

-- ---- each placement has its span

All-unmap : {X Y : Type 0} (P : Y → Type 0) (f : X → Y) (xs : List X) → All P (map f xs)
    → All (λ x. P (f x)) xs
All-unmap P f [] a = All-nil (λ x. P (f x))
All-unmap P f (x ∷ xs) a =
    All-cons (λ y. P (f y)) x xs (All-head P (f x) (map f xs) a)
    (All-unmap P f xs (All-tail P (f x) (map f xs) a))

spans_all : (P : Span → Type 0) (ps : List Placement) (ss : List Span) → AreSpansOf ps ss
    → All (λ p. P (span_of p)) ps → All P ss
spans_all P ps ss k a = All-permutation P (map span_of ps) ss k.same (All-map P span_of ps a)

placed_all : (P : Span → Type 0) (ps : List Placement) (ss : List Span) → AreSpansOf ps ss
    → All P ss
    → All (λ p. P (span_of p)) ps
placed_all P ps ss k a =
    All-unmap P span_of ps
    (All-permutation P ss (map span_of ps) (IsPermutation-sym (map span_of ps) ss k.same) a)

range_of : (p : Placement) → IsPlacement p → IsRange p.base (past_of p)
range_of p h = range_is p.base (past_of p) h.range

pub spans : (ps : List Placement) (ss : List Span) → AreSpansOf ps ss → All IsSpan ss
spans ps ss k =
    spans_all IsSpan ps ss k
    (All-weaker IsPlacement (λ p. IsSpan (span_of p))
    (λ p h. ((range_of p h).some, omega (arith, (range_of p h).high))) ps k.each)

proper : (ps : List Placement) (ss : List Span) → AreSpansOf ps ss → All IsProper ss
proper ps ss k = All-weaker IsSpan IsProper (λ s h. h.0) ss (spans ps ss k)

abbrev IsOnPage : Span → Type 0
IsOnPage s = s.past % 4096 ≡ 0

on_page : (ps : List Placement) (ss : List Span) → AreSpansOf ps ss → All IsOnPage ss
on_page ps ss k =
    spans_all IsOnPage ps ss k
    (All-weaker IsPlacement (λ p. IsOnPage (span_of p)) (λ p h. (range_of p h).high_page) ps k.each)

-- ---- where an image may stand

unheld : (o : Option Placement) → option_map (λ p. p.base) o ≡ None → o ≡ None
unheld None e = refl
unheld (Some p) e = absurd cc

held_by : (o : Option Placement) (base : ℕ) → option_map (λ p. p.base) o ≡ Some base
    → (p : Placement) × (o ≡ Some p) × (p.base ≡ base)
held_by None base e = absurd cc
held_by (Some p) base e = (p, refl, cc)

pub held_place : (ps : List Placement) (path : Name) (pages lo hi base : ℕ)
    → Some base ≡ option_map (λ p. p.base) (held ps path pages lo hi)
    → Held base ≡ place_for ps path pages lo hi
held_place ps path pages lo hi base e =
    sym (from_words ps path pages lo hi (Held base)
    (held_by (held ps path pages lo hi) base (sym e)))

least : (ps : List Placement) (ss : List Span) (pages lo hi other : ℕ) → AreSpansOf ps ss
    → IsFreePlace ps pages lo hi other → fold (next_base (4096 * pages)) lo ss ≤ other
least ps ss pages lo hi other k f =
    fold_least (4096 * pages) lo other ss f.low
    (spans_all (IsClear (4096 * pages) other) ps ss k f.apart)

free_at : (ps : List Placement) (ss : List Span) (pages lo hi : ℕ) → AreSpansOf ps ss
    → IsRange lo hi
    → past (fold (next_base (4096 * pages)) lo ss) pages ≤ hi
    → IsFreePlace ps pages lo hi (fold (next_base (4096 * pages)) lo ss)
free_at ps ss pages lo hi k r high =
    let base = fold (next_base (4096 * pages)) lo ss in
    record {
      page = fold_page (4096 * pages) lo ss r.low_page (on_page ps ss k);
      low = fold_rises (4096 * pages) lo ss;
      high = high;
      apart = placed_all (IsClear (4096 * pages) base) ps ss k
          (fold_clear (4096 * pages) lo ss (proper ps ss k) k.order);
    }

pub new_place : (ps : List Placement) (ss : List Span) (path : Name) (pages lo hi base : ℕ)
    → AreSpansOf ps ss
    → IsTrue (is_range lo hi) → None ≡ option_map (λ p. p.base) (held ps path pages lo hi)
    → base ≡ fold (next_base (4096 * pages)) lo ss → past base pages ≤ hi
    → New base ≡ place_for ps path pages lo hi
new_place ps ss path pages lo hi base k r u e high =
    let words : IsPlace ps path pages lo hi (New (fold (next_base (4096 * pages)) lo ss)) = (
      unheld (held ps path pages lo hi) (sym u),
      free_at ps ss pages lo hi k (range_is lo hi r) (subst (λ b. past b pages ≤ hi) e high),
      λ other f. least ps ss pages lo hi other k f,
    ) in
    ap New e ∙ sym
    (from_words ps path pages lo hi (New (fold (next_base (4096 * pages)) lo ss)) words)

pub no_place : (ps : List Placement) (ss : List Span) (path : Name) (pages lo hi base : ℕ)
    → AreSpansOf ps ss
    → None ≡ option_map (λ p. p.base) (held ps path pages lo hi)
    → base ≡ fold (next_base (4096 * pages)) lo ss → hi < past base pages
    → NoRoom ≡ place_for ps path pages lo hi
no_place ps ss path pages lo hi base k u e high =
    sym (from_words ps path pages lo hi NoRoom (
      unheld (held ps path pages lo hi) (sym u),
      λ other f. omega (arith, least ps ss pages lo hi other k f, f.high),
    ))

-- ---- where it stands

pub new_stands : (ps : List Placement) (ss : List Span) (pages lo hi base : ℕ) → AreSpansOf ps ss
    → IsTrue (is_range lo hi) → base ≡ fold (next_base (4096 * pages)) lo ss → past base pages ≤ hi
    → Stands (New base) pages
new_stands ps ss pages lo hi base k r e high =
    let range = range_is lo hi r in (
      ap (λ b. b % 4096) e ∙ fold_page (4096 * pages) lo ss range.low_page (on_page ps ss k),
      omega (arith, range.high),
    )

serving : (path : Name) (pages lo hi : ℕ) (p : Placement) → IsPlacement p
    → serves path pages lo hi p ≡ true → Stands (Held p.base) pages
serving path pages lo hi p h e =
    let range = range_of p h in
    let enough : pages ≤ p.pages = grind (arith, nat_tests, e) in
    (range.low_page, omega (arith, range.high))

found_serves : (path : Name) (pages lo hi : ℕ) (ps : List Placement) (p : Placement)
    → All IsPlacement ps
    → held ps path pages lo hi ≡ Some p → Stands (Held p.base) pages
found_serves path pages lo hi [] p all e = absurd cc
found_serves path pages lo hi (q ∷ ps) p all e =
    go (serves path pages lo hi q) refl e
    (found_serves path pages lo hi ps p (All-tail IsPlacement q ps all))
  where
    go : (b : Bool) → serves path pages lo hi q ≡ b → cond b (Some q) (held ps path pages lo hi)
        ≡ Some p
        → (held ps path pages lo hi ≡ Some p → Stands (Held p.base) pages)
        → Stands (Held p.base) pages
    go true d k i =
        let same : q ≡ p = cc in
        subst (λ (r : Placement). Stands (Held r.base) pages) same
        (serving path pages lo hi q (All-head IsPlacement q ps all) d)
    go false d k i = i k

pub held_stands : (ps : List Placement) (ss : List Span) (path : Name) (pages lo hi base : ℕ)
    → AreSpansOf ps ss
    → Some base ≡ option_map (λ p. p.base) (held ps path pages lo hi) → Stands (Held base) pages
held_stands ps ss path pages lo hi base k e =
    let h = held_by (held ps path pages lo hi) base (sym e) in
    subst (λ b. Stands (Held b) pages) h.2 (found_serves path pages lo hi ps h.0 k.each h.1)

-- ---- one placement more

pub joined : (ps : List Placement) (ss : List Span) (p : Placement) (at : ℕ) → AreSpansOf ps ss
    → CanJoin ps p
    → IsPlacement p → at ≡ position_or_len (begins_after p.base) ss
    → AreSpansOf (ps ++ p ∷ []) (insert ss at (span_of p))
joined ps ss p at k c g e = record {
  same = rw (map_push span_of ps p)
      (IsPermutation-trans _ _ _ (IsPermutation-to_front (map span_of ps) (span_of p))
      (IsPermutation-trans _ _ _ (IsPermutation-cons (span_of p) (map span_of ps) ss k.same)
      (IsPermutation-insert ss at (span_of p))));
  each = All-push IsPlacement ps p k.each g;
  order = insert_order (span_of p) ss at e (range_of p g).some (proper ps ss k)
      (spans_all (AreApart (span_of p)) ps ss k c.apart) k.order;
}

-- ---- a new place is lawful

pub new_lawful : (book : List Placement) (path : Name) (pages lo hi base : ℕ) (p : Placement)
    → place_for book path pages lo hi ≡ New base → IsTrue (is_range lo hi) → 1 ≤ pages
    → pages ≤ 2047
    → p.base ≡ base → p.pages ≡ pages → IsPlacement p
new_lawful book path pages lo hi base p e t some few b n =
    let h = to_words book path pages lo hi (New base) e in
    let r = range_is lo hi t in
    let page = h.1.page in
    let low = h.1.low in
    let high = h.1.high in
    record {
      some = rw n some;
      few = rw n few;
      range = rw (b, n) (range_from base (past base pages) (record {
        low_page = page;
        high_page = omega arith;
        low = omega (arith, r.low);
        some = omega arith;
        high = omega (arith, r.high);
      }));
    }
