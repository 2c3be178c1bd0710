-- What stays true of the symbols that relocations name when there is one more.
use Rattle.std.proofs.Common.{◌≡◌, ℕ, zero, suc, ◌+◌, ◌^◌, ◌<◌, List, [], ◌∷◌, ◌++◌, Some}
use Rattle.std.proofs.Common.{length, replicate, set, get_or, ap, sym, ◌∙◌, refl, subst, arith}
use Rattle.std.specs.List.{list_all, slice_get}
use Rattle.std.proofs.lemmas.List.{length-append, length-replicate, length-set}
use Rattle.std.proofs.lemmas.List.Elements.{All-nil}
use Rattle.std.proofs.lemmas.List.Folds.{list_all-append}
use Rattle.std.proofs.lemmas.Option.{get_or_from_slice_get, slice_get_read, slice_get_within}
use Rattle.dict_row.specs.Keys.{AreKeys, decoded}
use Rattle.dict_row.proofs.Decoded.{at_the_end, keys_and, still_there, with_key, with_values}
use Rattle.fragment_read.specs.declared.used.Used.{Used}
use Rattle.fragment_read.specs.inside.Used.{AreUsed, HasNamed, IsPlaced, free}

-- ---- symbols with no place

pub all_free : (n : ℕ) → free (replicate n 0) ≡ n
all_free zero = refl
all_free (suc n) = ap suc (all_free n)

pub one_less_free : (places : List ℕ) (k n : ℕ) → k < length places → get_or places k 0 ≡ 0
    → free places ≡ suc (free (set places k (suc n)))
one_less_free [] k n h is = absurd (omega (arith, h))
one_less_free (zero ∷ places) zero n h is = refl
one_less_free (suc p ∷ places) zero n h is = absurd (omega (arith, is))
one_less_free (zero ∷ places) (suc k) n h is =
    ap suc (one_less_free places k n (omega (arith, h)) is)
one_less_free (suc p ∷ places) (suc k) n h is =
    one_less_free places k n (omega (arith, h)) is

pub read_at : (places : List ℕ) (k read : ℕ) → k < length places → read ≡ get_or places k read
    → get_or places k 0 ≡ read
read_at places k read h is =
    get_or_from_slice_get places k read 0 (slice_get_read places (length places) k read refl h is)

-- ---- one symbol more

again : (old : Used) (k place : ℕ) → AreUsed old → get_or old.places.items k 0 ≡ suc place
    → HasNamed old (record old { keys = old.keys ++ place ∷ [] }) k
again old k place u there =
    let here : slice_get old.symbols place ≡ Some k =
    subst (IsPlaced old.symbols k) there (u.placed k) in
    let below = slice_get_within old.symbols place k here in
    record {
      used = record {
        keys = keys_and old.keys place (length old.symbols) (length old.symbols) u.keys below
            (omega arith);
        placed = u.placed;
        few = u.few;
        bound = u.bound;
      };
      places = refl;
      symbols = with_key old.symbols old.keys place k here;
      each = λ p all one. all;
    }

-- the symbol stands there already
pub named_again : (old new : Used) (k place : ℕ) → AreUsed old
    → get_or old.places.items k 0 ≡ suc place
    → new ≡ record old { keys = old.keys ++ place ∷ [] }
    → HasNamed old new k
named_again old new k place u there is =
    subst (λ (n : Used). HasNamed old n k) (sym is) (again old k place u there)

-- a place that is kept when the list of symbols grows
still_placed : (symbols more : List ℕ) (k place : ℕ) → IsPlaced symbols k place
    → IsPlaced (symbols ++ more) k place
still_placed symbols more k zero is = is
still_placed symbols more k (suc place) is =
    still_there symbols more place (slice_get_within symbols place k is) ∙ is

set_each : (P : ℕ → ℕ → Type 0) (places : List ℕ) (k y : ℕ) → k < length places → P k y
    → ((m : ℕ) → P m (get_or places m 0)) → (m : ℕ) → P m (get_or (set places k y) m 0)
set_each P [] k y h here all m = absurd (omega (arith, h))
set_each P (p ∷ places) zero y h here all zero = here
set_each P (p ∷ places) zero y h here all (suc m) = all (suc m)
set_each P (p ∷ places) (suc k) y h here all zero = all zero
set_each P (p ∷ places) (suc k) y h here all (suc m) =
    set_each (λ a b. P (suc a) b) places k y (omega (arith, h)) here (λ n. all (suc n)) m

-- it is new
pub named_first : (old new : Used) (k : ℕ) → AreUsed old → k < length old.places.items
    → get_or old.places.items k 0 ≡ 0
    → new.places.items ≡ set old.places.items k (suc (length old.symbols))
    → new.symbols ≡ old.symbols ++ k ∷ []
    → new.keys ≡ old.keys ++ length old.symbols ∷ []
    → HasNamed old new k
named_first old new k u within none places symbols keys =
    let last = length old.symbols in
    let grown : length new.symbols ≡ last + 1 =
    ap length symbols ∙ length-append old.symbols (k ∷ []) in
    let sized = ap length places ∙ length-set old.places.items k (suc last) in
    let here = at_the_end old.symbols k in
    let all = keys_and old.keys last last (length new.symbols) u.keys (omega (arith, grown))
    (omega (arith, grown)) in
    let placed =
    set_each (IsPlaced (old.symbols ++ k ∷ [])) old.places.items k (suc last) within here
    (λ m. still_placed old.symbols (k ∷ []) m (get_or old.places.items m 0) (u.placed m)) in
    let less = one_less_free old.places.items k last within none in
    let now = ap free places in
    record {
      used = record {
        keys = subst (λ (ks : List ℕ). AreKeys ks (length new.symbols)) (sym keys) all;
        placed = λ m. rw (symbols, places) (placed m);
        few = omega (arith, less, now, grown, sized, u.few);
        bound = omega (arith, sized, u.bound);
      };
      places = sized;
      symbols = ap (λ (ss : List ℕ). decoded ss new.keys) symbols
          ∙ ap (decoded (old.symbols ++ k ∷ [])) keys
          ∙ with_key (old.symbols ++ k ∷ []) old.keys last k here
          ∙ ap (λ (ss : List ℕ). ss ++ k ∷ []) (with_values old.symbols (k ∷ []) old.keys u.keys);
      each = λ p all one.
          ap (list_all p) symbols ∙ list_all-append p old.symbols (k ∷ []) ∙ rw (all, one) refl;
    }

-- ---- no symbol yet

none_there : (n k : ℕ) → get_or {A = ℕ} (replicate n 0) k 0 ≡ 0
none_there zero k = refl
none_there (suc n) zero = refl
none_there (suc n) (suc k) = none_there n k

pub none_used : (u : Used) (n : ℕ) → u.places.items ≡ replicate n 0 → u.symbols ≡ [] → u.keys ≡ []
    → n < 2 ^ 32 → AreUsed u
none_used u n places symbols keys few =
    let sized : length u.places.items ≡ n = ap length places ∙ length-replicate n 0 in
    let free_all : free u.places.items ≡ n = ap free places ∙ all_free n in
    let no_symbols : length u.symbols ≡ 0 = ap length symbols in
    record {
      keys = rw (keys) (All-nil (λ key. key < length u.symbols));
      placed = λ k. rw (places, none_there n k) tt;
      few = omega (arith, sized, free_all, no_symbols);
      bound = omega (arith, sized, few);
    }
