-- Tokens stop beginning something at one token, and for one reason.
use Rattle.std.proofs.Common.{◌≡◌, ℕ, List, [], ◌∷◌, ◌++◌, All, refl, ap, subst, ◌∙◌, sym}
use Rattle.std.proofs.Common.{◌⊎◌, inl, inr, append_assoc}
use Rattle.omos_model.specs.declared.refusal.BpFault.{BpFault}
use Rattle.omos_model.specs.declared.refusal.BpFault.TheVariants.{Long, Byte, Shape, Deep, Number}
use Rattle.omos_model.specs.declared.refusal.BpFault.TheVariants.{Range}
use Rattle.std.proofs.lemmas.List.Elements.{All-head, All-tail}
use Rattle.bp_tree.specs.Tokens.{Token, Open, Word, Barred, Placed}
use Rattle.bp_tree.specs.Texts.{words_of}
use Rattle.bp_tree.specs.TextFaults.{Language, Begins, IsNumberWord, IsTokenFault, StopsAtToken}
use Rattle.bp_tree.specs.TextFaults.{HasTokenFault, StandsInTexts}
use Rattle.bp_tree.proofs.NameLists.{words-append}

-- ---- the token

-- two places in one list: they are one, or one of them is in front of the other
abbrev pub Behind : List Placed → Placed → List Placed → Type 0
Behind xs a ys = (more : List Placed) × (ys ≡ (xs ++ a ∷ []) ++ more)

pub in_order : (xs ys : List Placed) (a b : Placed) (us vs : List Placed)
    → xs ++ a ∷ us ≡ ys ++ b ∷ vs
    → ((xs ≡ ys) × (a ≡ b)) ⊎ (Behind xs a ys ⊎ Behind ys b xs)
in_order [] [] a b us vs e = let same : a ≡ b = cc in inl (refl, same)
in_order [] (y ∷ ys) a b us vs e =
    let same : y ≡ a = cc in inr (inl (ys, ap (λ z. z ∷ ys) same))
in_order (x ∷ xs) [] a b us vs e =
    let same : x ≡ b = cc in inr (inr (xs, ap (λ z. z ∷ xs) same))
in_order (x ∷ xs) (y ∷ ys) a b us vs e =
    let head : x ≡ y = cc in
    let tail : xs ++ a ∷ us ≡ ys ++ b ∷ vs = cc in
    elim (in_order xs ys a b us vs tail) [
      | inl s ↦ inl (ap (λ z. z ∷ xs) head ∙ ap (λ zs. y ∷ zs) s.0, s.1)
      | inr (inl m) ↦ inr (inl (m.0, ap (λ z. z ∷ ys) (sym head) ∙ ap (λ zs. x ∷ zs) m.1))
      | inr (inr m) ↦ inr (inr (m.0, ap (λ z. z ∷ xs) head ∙ ap (λ zs. y ∷ zs) m.1))
    ]

-- what begins with more tokens begins with fewer
fewer : (L : Language) (xs ys : List Placed) (a : Placed) (more : List Placed)
    → ys ≡ (xs ++ a ∷ []) ++ more → Begins L 0 (words_of ys)
    → Begins L 0 (words_of xs ++ a.token ∷ [])
fewer L xs ys a more e b =
    let words : words_of ys ≡ (words_of xs ++ a.token ∷ []) ++ words_of more =
    ap words_of e ∙ words-append (xs ++ a ∷ []) more
    ∙ ap (λ us. us ++ words_of more) (words-append xs (a ∷ [])) in
    let P : List Token → Type 0 = L 0 in (
      words_of more ++ b.0,
      subst P (ap (λ us. us ++ b.0) words ∙ append_assoc (words_of xs ++ a.token ∷ [])
          (words_of more) b.0) b.1,
    )

-- ---- the reason

other_number : (t : Token) (v w : List ℕ) → t ≡ Word v → t ≡ Word w → ¬ IsNumberWord v
    → IsNumberWord w → ⊥
other_number t v w e d none is =
    let same : v ≡ w = cc in none (subst IsNumberWord (sym same) is)

one_reason : (L : Language) (ts : List Token) (t : Token) (place : ℕ) (f g : BpFault)
    → IsTokenFault L ts t place f → IsTokenFault L ts t place g → f ≡ g
one_reason L ts t place Long g h k = absurd h
one_reason L ts t place (Byte p) g h k = absurd h
one_reason L ts t place (Deep p) Long h k = absurd k
one_reason L ts t place (Deep p) (Byte q) h k = absurd k
one_reason L ts t place (Deep p) (Deep q) h k = ap Deep (h.0 ∙ sym k.0)
one_reason L ts t place (Deep p) (Number q) h k =
    let e : Open ≡ Word k.1.1.0 = sym h.1.0 ∙ k.1.1.1 in absurd cc
one_reason L ts t place (Deep p) (Range q) h k =
    let e : Open ≡ Word k.1.1.0 = sym h.1.0 ∙ k.1.1.1 in absurd cc
one_reason L ts t place (Deep p) (Shape q) h k = absurd (k.1 h.1)
one_reason L ts t place (Number p) Long h k = absurd k
one_reason L ts t place (Number p) (Byte q) h k = absurd k
one_reason L ts t place (Number p) (Deep q) h k =
    let e : Open ≡ Word h.1.1.0 = sym k.1.0 ∙ h.1.1.1 in absurd cc
one_reason L ts t place (Number p) (Number q) h k = ap Number (h.0 ∙ sym k.0)
one_reason L ts t place (Number p) (Range q) h k =
    absurd (other_number t h.1.1.0 k.1.1.0 h.1.1.1 k.1.1.1 h.1.1.2 k.1.1.2)
one_reason L ts t place (Number p) (Shape q) h k = absurd (k.2 h.1)
one_reason L ts t place (Range p) Long h k = absurd k
one_reason L ts t place (Range p) (Byte q) h k = absurd k
one_reason L ts t place (Range p) (Deep q) h k =
    let e : Open ≡ Word h.1.1.0 = sym k.1.0 ∙ h.1.1.1 in absurd cc
one_reason L ts t place (Range p) (Number q) h k =
    absurd (other_number t k.1.1.0 h.1.1.0 k.1.1.1 h.1.1.1 k.1.1.2 h.1.1.2)
one_reason L ts t place (Range p) (Range q) h k = ap Range (h.0 ∙ sym k.0)
one_reason L ts t place (Range p) (Shape q) h k = absurd (k.3 h.1)
one_reason L ts t place (Shape p) Long h k = absurd k
one_reason L ts t place (Shape p) (Byte q) h k = absurd k
one_reason L ts t place (Shape p) (Deep q) h k = absurd (h.1 k.1)
one_reason L ts t place (Shape p) (Number q) h k = absurd (h.2 k.1)
one_reason L ts t place (Shape p) (Range q) h k = absurd (h.3 k.1)
one_reason L ts t place (Shape p) (Shape q) h k = ap Shape (h.0 ∙ sym k.0)

-- ---- both

one_stop : (L : Language) (ts : List Placed) (f g : BpFault) → StopsAtToken L ts f
    → StopsAtToken L ts g
    → f ≡ g
one_stop L ts f g s r =
    elim (in_order s.front r.front s.token r.token s.behind r.behind (sym s.parts ∙ r.parts)) [
      | inl same ↦
          let P : List Placed → Placed → Type 0 =
          λ us t. IsTokenFault L (words_of us) t.token t.place f in
          let why : P r.front r.token =
          subst (P r.front) same.1 (subst (λ us. P us s.token) same.0 s.why) in
          one_reason L (words_of r.front) r.token.token r.token.place f g why r.why
      | inr (inl m) ↦ absurd (s.stops (fewer L s.front r.front s.token m.0 m.1 r.begins))
      | inr (inr m) ↦ absurd (r.stops (fewer L r.front s.front r.token m.0 m.1 s.begins))
    ]

goes_on : (L : Language) (ts : List Placed) (f : BpFault) → StopsAtToken L ts f
    → Begins L 0 (words_of ts) → ⊥
goes_on L ts f s b =
    s.stops (fewer L s.front ts s.token s.behind
    (s.parts ∙ sym (append_assoc s.front (s.token ∷ []) s.behind)) b)

pub one_fault : (L : Language) (ts : List Placed) (end : ℕ) (f g : BpFault)
    → HasTokenFault L ts end f → HasTokenFault L ts end g → f ≡ g
one_fault L ts end f g (inl s) (inl r) = one_stop L ts f g s r
one_fault L ts end f g (inl s) (inr d) = absurd (goes_on L ts f s d.1)
one_fault L ts end f g (inr c) (inl r) = absurd (goes_on L ts g r c.1)
one_fault L ts end f g (inr c) (inr d) = c.0 ∙ sym d.0

-- ---- bytes that may not stand in a text

pub not_allowed : (front behind : List Placed) (byte place : ℕ)
    → All StandsInTexts (front ++ record { token = Barred byte; place = place } ∷ behind) → ⊥
not_allowed [] behind byte place all =
    All-head StandsInTexts (record { token = Barred byte; place = place }) behind all byte refl
not_allowed (t ∷ front) behind byte place all =
    not_allowed front behind byte place (All-tail StandsInTexts t _ all)
