-- The numbers of a range, and what may be wrong with them.
use Rattle.std.proofs.Common.{◌≡◌, ℕ, List, [], ◌∷◌, ◌++◌, refl, sym, ap, subst, ◌∙◌, inl, codes}
use Rattle.std.proofs.Common.{arith, IsTrue}
use Rattle.std.specs.Str.Parse.{AllDigits}
use Rattle.omos_model.specs.ImageParts.{is_range, top}
use Rattle.omos_model.specs.declared.refusal.BpFault.TheVariants.{Shape, Number, Range}
use Rattle.bp_tree.specs.Tokens.{Token, Open, Close, Word, Placed}
use Rattle.bp_tree.specs.Numerals.{IsNumeralOf}
use Rattle.bp_tree.specs.TextFaults.{CallsForNumber, IsNumberWord}
use Rattle.bp_tree.specs.Texts.{words_of}
use Rattle.bp_tree.specs.inside.Symbols.{Sym, It, Low, High, IsSym, AreSyms, Completable, Fails}
use Rattle.bp_tree.specs.inside.Symbols.{AreRead, WhyStops}
use Rattle.bp_tree.specs.inside.Header.{AreBounds, IsUpper}
use Rattle.bp_tree.specs.declared.stop.Stop.{Stop}
use Rattle.bp_tree.specs.declared.stop.Stop.TheVariants.{Early, At}
use Rattle.bp_tree.proofs.Digits.{one_number}
use Rattle.bp_tree.proofs.Failing.{Sample, IsNeverEmpty, begins_with, head_of, fails_early}
use Rattle.bp_tree.proofs.Failing.{fails_at, fails_plain, leads_step}

-- ---- any symbol that calls for a number

abbrev Numbers : Sym → Type 0
Numbers s = (more : ℕ) (t : Token) (tail : List Token) → IsSym more s (t ∷ tail) → (w : List ℕ)
    × (t ≡ Word w) × IsNumberWord w

calls : (s : Sym) (ss : List Sym) → Sample s → IsNeverEmpty s → Numbers s → Completable ss
    → (word : List ℕ) (tail : List Token) → IsSym 0 s (Word word ∷ tail)
    → CallsForNumber (AreSyms (s ∷ ss)) []
calls s ss sample full numbers c word tail is = (
  (word, begins_with s ss (Word word) tail 0 is c),
  λ w b.
      let h = head_of s ss (Word w) 0 full b in
      let n = numbers 0 (Word w) h.0 h.1 in
      let q : Word w ≡ Word n.0 = n.1 in
      let same : w ≡ n.0 = cc in rw same n.2,
)

-- it begins with a word that is a number, as this one does
pub record IsCalled (s : Sym) : Type 0 where
  pub sample : Sample s
  pub full : IsNeverEmpty s
  pub numbers : Numbers s
  pub some : (word : List ℕ) × (tail : List Token) × IsSym 0 s (Word word ∷ tail)

pub number_early : (s : Sym) → IsCalled s → (ts : List Placed) → ts ≡ [] → Fails (s ∷ []) ts Early
number_early s k ts e = fails_early s ts k.sample k.full e

pub number_none : (s : Sym) → IsCalled s → (ts : List Placed) (t : Placed) (after : List Placed)
    → ts ≡ t ∷ after
    → (w : List ℕ) → t.token ≡ Word w → (IsNumberWord w → ⊥)
    → Fails (s ∷ []) ts (At (Number t.place))
number_none s k ts t after e w is none =
    fails_at s ts t after (Number t.place) k.sample e k.full
    (λ tail h.
    let n = k.numbers 0 t.token tail h in
    let q : Word w ≡ Word n.0 = sym is ∙ n.1 in
    let same : w ≡ n.0 = cc in none (rw same n.2))
    (λ ss c. (
      refl,
      (calls s ss k.sample k.full k.numbers c k.some.0 k.some.1 k.some.2, (w, is, none)),
    ))

range_off : (s : Sym) → IsCalled s → (ts : List Placed) (t : Placed) (after : List Placed)
    → ts ≡ t ∷ after
    → (w : List ℕ) → t.token ≡ Word w → IsNumberWord w
    → ((tail : List Token) → IsSym 0 s (Word w ∷ tail) → ⊥) → Fails (s ∷ []) ts (At (Range t.place))
range_off s k ts t after e w is number off =
    fails_at s ts t after (Range t.place) k.sample e k.full
    (λ tail h. let P : Token → Type 0 = λ u. IsSym 0 s (u ∷ tail) in off tail (subst P is h))
    (λ ss c. (
      refl,
      (calls s ss k.sample k.full k.numbers c k.some.0 k.some.1 k.some.2, (w, is, number)),
    ))

pub number_shape : (s : Sym) → IsCalled s → (ts : List Placed) (t : Placed) (after : List Placed)
    → ts ≡ t ∷ after
    → ((w : List ℕ) → t.token ≡ Word w → ⊥) → Fails (s ∷ []) ts (At (Shape t.place))
number_shape s k ts t after e none =
    fails_plain s ts t after k.sample k.full e
    (λ tail h. let n = k.numbers 0 t.token tail h in none n.0 n.1)
    (λ opens more tail h.
    let n = k.numbers more Open tail h in
    let q : Open ≡ Word n.0 = n.1 in cc)
    (λ ss c w is calling. none w is)

-- ---- the two symbols

abbrev top_word : List ℕ
top_word = codes "140737488351232"

top_digits : AllDigits 10 top_word
top_digits = search arith

top_number : IsNumeralOf top_word top
top_number = (inl ((omega arith, top_digits), omega arith, refl), omega arith)

abbrev low_word : List ℕ
low_word = codes "65536"

low_number : IsNumeralOf low_word 65536
low_number = (
  inl (
    (
      omega arith,
      (omega arith, (omega arith, (omega arith, (omega arith, (omega arith, tt))))),
    ),
    omega arith,
    refl,
  ),
  omega arith,
)

pub low_called : IsCalled Low
low_called =
    let some : IsSym 0 Low (Word low_word ∷ Word top_word ∷ Close ∷ []) =
    (low_word, top_word, 65536, top, refl, low_number, top_number, refl) in
    record {
      sample = λ more. (Word low_word ∷ Word top_word ∷ Close ∷ [], some);
      full = λ more h. let e : [] ≡ Word h.0 ∷ Word h.1 ∷ Close ∷ [] = h.4 in cc;
      numbers = λ more t tail h.
          let e : t ∷ tail ≡ Word h.0 ∷ Word h.1 ∷ Close ∷ [] = h.4 in
          let same : t ≡ Word h.0 = cc in (h.0, same, (h.2, h.5));
      some = (low_word, Word top_word ∷ Close ∷ [], some);
    }

pub high_called : (lo : ℕ) → IsTrue (is_range lo top) → IsCalled (High lo)
high_called lo fits = record {
  sample = λ more. (Word top_word ∷ Close ∷ [], (top_word, top, refl, top_number, fits));
  full = λ more h. let e : [] ≡ Word h.0 ∷ Close ∷ [] = h.2 in cc;
  numbers = λ more t tail h.
      let e : t ∷ tail ≡ Word h.0 ∷ Close ∷ [] = h.2 in
      let same : t ≡ Word h.0 = cc in (h.0, same, (h.1, h.3));
  some = (top_word, Close ∷ [], (top_word, top, refl, top_number, fits));
}

-- where a range has an upper bound, it has the greatest one
low_test : (lo hi : ℕ) → IsTrue (is_range lo hi) → IsTrue (is_range lo top)
low_test lo hi h = grind arith

-- ---- what the reading of them needs

pub low_off : (ts : List Placed) (t : Placed) (after : List Placed) → ts ≡ t ∷ after
    → (w : List ℕ) (lo : ℕ) → t.token ≡ Word w
    → IsNumeralOf w lo → (IsTrue (is_range lo top) → ⊥) → Fails (Low ∷ []) ts (At (Range t.place))
low_off ts t after e w lo is number off =
    range_off Low low_called ts t after e w is (lo, number)
    (λ tail h.
    let q : Word w ∷ tail ≡ Word h.0 ∷ Word h.1 ∷ Close ∷ [] = h.4 in
    let same : h.0 ≡ w = cc in
    let P : List ℕ → Type 0 = λ u. IsNumeralOf u h.2 in
    let n : h.2 ≡ lo = one_number w h.2 lo (subst P same h.5) number in
    let Q : ℕ → Type 0 = λ l. IsTrue (is_range l h.3) in off (low_test lo h.3 (subst Q n h.7)))

pub high_off : (lo : ℕ) (ts : List Placed) (t : Placed) (after : List Placed)
    → IsTrue (is_range lo top) → ts ≡ t ∷ after
    → (w : List ℕ) (hi : ℕ) → t.token ≡ Word w → IsNumeralOf w hi → (IsTrue (is_range lo hi) → ⊥)
    → Fails (High lo ∷ []) ts (At (Range t.place))
high_off lo ts t after fits e w hi is number off =
    range_off (High lo) (high_called lo fits) ts t after e w is (hi, number)
    (λ tail h.
    let q : Word w ∷ tail ≡ Word h.0 ∷ Close ∷ [] = h.2 in
    let same : h.0 ≡ w = cc in
    let P : List ℕ → Type 0 = λ u. IsNumeralOf u h.1 in
    let n : h.1 ≡ hi = one_number w h.1 hi (subst P same h.3) number in
    let Q : ℕ → Type 0 = λ l. IsTrue (is_range lo l) in off (subst Q n h.4))

-- the first number was read
low_front : (w : List ℕ) (lo : ℕ) (ws front rest : List Token) (more : ℕ) (ss : List Sym)
    → Word w ∷ ws ≡ front ++ rest → IsNumeralOf w lo
    → IsSym more Low front → AreSyms ss more rest → AreSyms (High lo ∷ ss) more ws
low_front w lo ws front rest more ss e number h a =
    let q : Word w ∷ ws ≡ Word h.0 ∷ Word h.1 ∷ Close ∷ rest = e ∙ ap (λ us. us ++ rest) h.4 in
    let same : h.0 ≡ w = cc in
    let k : ws ≡ Word h.1 ∷ Close ∷ rest = cc in
    let P : List ℕ → Type 0 = λ u. IsNumeralOf u h.2 in
    let n : h.2 ≡ lo = one_number w h.2 lo (subst P same h.5) number in
    let Q : ℕ → Type 0 = λ l. IsTrue (is_range l h.3) in
    (Word h.1 ∷ Close ∷ [], rest, k, (h.1, h.3, refl, h.6, subst Q n h.7), a)

low_lead : (ts : List Placed) (t : Placed) (after : List Placed) (w : List ℕ) (lo : ℕ)
    → ts ≡ t ∷ after → t.token ≡ Word w
    → IsNumeralOf w lo → (ss : List Sym) (stop : Stop)
    → WhyStops (AreSyms (High lo ∷ ss)) after stop → WhyStops (AreSyms (Low ∷ ss)) ts stop
low_lead ts t after w lo e is number = leads_step (Low ∷ []) (High lo ∷ []) t ts after e
    (λ ss more ws a. (
      Word w ∷ a.0,
      a.1,
      ap (λ u. u ∷ ws) is ∙ ap (λ us. Word w ∷ us) a.2,
      (w, a.3.0, lo, a.3.1, ap (λ us. Word w ∷ us) a.3.2, number, a.3.3, a.3.4),
      a.4,
    ))
    (λ ss more ws a. low_front w lo ws a.0 a.1 more ss (ap (λ u. u ∷ ws) (sym is) ∙ a.2) number a.3
    a.4)

pub low_fails : (ts : List Placed) (t : Placed) (after : List Placed) (w : List ℕ) (lo : ℕ)
    (stop : Stop) → ts ≡ t ∷ after
    → t.token ≡ Word w → IsNumeralOf w lo → Fails (High lo ∷ []) after stop
    → Fails (Low ∷ []) ts stop
low_fails ts t after w lo stop e is number f =
    record { why = λ ss c. low_lead ts t after w lo e is number ss stop (f.why ss c) }

pub low_read : (ts : List Placed) (t : Placed) (after end : List Placed) (w : List ℕ) (lo hi : ℕ)
    → ts ≡ t ∷ after
    → t.token ≡ Word w → IsNumeralOf w lo → AreRead (High lo ∷ []) (IsUpper lo hi) after end
    → AreRead (Low ∷ []) (AreBounds lo hi) ts end
low_read ts t after end w lo hi e is number r = record {
  front = t ∷ r.front;
  parts = e ∙ ap (λ us. t ∷ us) r.parts;
  value = (
    w,
    r.value.0,
    ap (λ u. u ∷ words_of r.front) is ∙ ap (λ us. Word w ∷ us) r.value.1,
    number,
    r.value.2,
    r.value.3,
  );
  leads = λ ss stop h. low_lead ts t after w lo e is number ss stop (r.leads ss stop h);
}

high_front : (w : List ℕ) (ws front rest : List Token) (lo more : ℕ) (ss : List Sym)
    → Word w ∷ ws ≡ front ++ rest
    → IsSym more (High lo) front → AreSyms ss more rest → AreSyms (It Close ∷ ss) more ws
high_front w ws front rest lo more ss e h a =
    let q : Word w ∷ ws ≡ Word h.0 ∷ Close ∷ rest = e ∙ ap (λ us. us ++ rest) h.2 in
    let k : ws ≡ Close ∷ rest = cc in (Close ∷ [], rest, k, refl, a)

high_lead : (ts : List Placed) (t : Placed) (after : List Placed) (w : List ℕ) (lo hi : ℕ)
    → ts ≡ t ∷ after → t.token ≡ Word w
    → IsNumeralOf w hi → IsTrue (is_range lo hi) → (ss : List Sym) (stop : Stop)
    → WhyStops (AreSyms (It Close ∷ ss)) after stop → WhyStops (AreSyms (High lo ∷ ss)) ts stop
high_lead ts t after w lo hi e is number fits =
    leads_step (High lo ∷ []) (It Close ∷ []) t ts after e
    (λ ss more ws a.
    let k : ws ≡ Close ∷ a.1 = a.2 ∙ ap (λ us. us ++ a.1) a.3 in (
      Word w ∷ Close ∷ [],
      a.1,
      ap (λ u. u ∷ ws) is ∙ ap (λ us. Word w ∷ us) k,
      (w, hi, refl, number, fits),
      a.4,
    ))
    (λ ss more ws a. high_front w ws a.0 a.1 lo more ss (ap (λ u. u ∷ ws) (sym is) ∙ a.2) a.3 a.4)

pub high_fails : (ts : List Placed) (t : Placed) (after : List Placed) (w : List ℕ) (lo hi : ℕ)
    (stop : Stop) → ts ≡ t ∷ after
    → t.token ≡ Word w → IsNumeralOf w hi → IsTrue (is_range lo hi)
    → Fails (It Close ∷ []) after stop → Fails (High lo ∷ []) ts stop
high_fails ts t after w lo hi stop e is number fits f =
    record { why = λ ss c. high_lead ts t after w lo hi e is number fits ss stop (f.why ss c) }

pub high_read : (ts : List Placed) (t : Placed) (after end : List Placed) (w : List ℕ) (lo hi : ℕ)
    → ts ≡ t ∷ after
    → t.token ≡ Word w → IsNumeralOf w hi → IsTrue (is_range lo hi)
    → AreRead (It Close ∷ []) (λ ws. ws ≡ Close ∷ []) after end
    → AreRead (High lo ∷ []) (IsUpper lo hi) ts end
high_read ts t after end w lo hi e is number fits r = record {
  front = t ∷ r.front;
  parts = e ∙ ap (λ us. t ∷ us) r.parts;
  value = (w, ap (λ u. u ∷ words_of r.front) is ∙ ap (λ us. Word w ∷ us) r.value, number, fits);
  leads = λ ss stop h. high_lead ts t after w lo hi e is number fits ss stop (r.leads ss stop h);
}
