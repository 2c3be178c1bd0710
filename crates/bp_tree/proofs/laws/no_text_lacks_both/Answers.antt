use Rattle.std.proofs.Common.{◌≡◌, ◌≤◌, ◌<◌, ℕ, nat_le, Bool, true, false, List, [], ◌∷◌, ◌++◌, All}
use Rattle.std.proofs.Common.{length, refl, ap, subst, ◌∙◌, sym, inl, inr, arith, ◌⊎◌}
use Rattle.std.proofs.Common.{append_assoc}
use Rattle.std.proofs.lemmas.List.{append-nil}
use Rattle.std.proofs.lemmas.List.Elements.{All-nil, All-cons, All-append}
use Rattle.omos_model.specs.declared.refusal.BpFault.{BpFault}
use Rattle.omos_model.specs.declared.refusal.BpFault.TheVariants.{Long, Byte, Shape, Deep, Number}
use Rattle.omos_model.specs.declared.refusal.BpFault.TheVariants.{Range}
use Rattle.bp_tree.specs.Tokens.{Token, Open, Close, Word, Barred, Placed, tokens_of}
use Rattle.bp_tree.specs.Texts.{words_of}
use Rattle.bp_tree.specs.TextFaults.{Language, Begins, IsTokenFault, StopsAtToken, HasTokenFault}
use Rattle.bp_tree.specs.TextFaults.{StandsInTexts, IsBarredAt, images}
use Rattle.bp_tree.specs.Laws.{NotNeitherLaw}
use Rattle.bp_tree.proofs.Images.{any_image, token_fault}
use Rattle.bp_tree.proofs.NameLists.{words-append}
use Rattle.bp_tree.proofs.laws.no_text_lacks_both.Goals as goal

-- ---- tokens

abbrev IsFaultless : Language → List Placed → ℕ → Type 0
IsFaultless L ts end = (fault : BpFault) → HasTokenFault L ts end fault → ⊥

stop_here : (L : Language) (ts front : List Placed) (t : Placed) (behind : List Placed) (fault :
    BpFault)
    → ts ≡ front ++ t ∷ behind → Begins L 0 (words_of front)
    → (Begins L 0 (words_of front ++ t.token ∷ []) → ⊥)
    → IsTokenFault L (words_of front) t.token t.place fault → StopsAtToken L ts fault
stop_here L ts front t behind fault e begins stops why =
    record {
      front = front;
      token = t;
      behind = behind;
      parts = e;
      begins = begins;
      stops = stops;
      why = why;
    }

-- a token with which nothing begins has something wrong with it
never_stops : (L : Language) (ts front : List Placed) (t : Placed) (behind : List Placed) (end : ℕ)
    → ts ≡ front ++ t ∷ behind → Begins L 0 (words_of front) → IsFaultless L ts end
    → (Begins L 0 (words_of front ++ t.token ∷ []) → ⊥) → ⊥
never_stops L ts front t behind end e begins none stops =
    let stop : (fault : BpFault) → IsTokenFault L (words_of front) t.token t.place fault → ⊥ =
    λ fault why. none fault (inl (stop_here L ts front t behind fault e begins stops why)) in
    stop (Shape t.place) (
      refl,
      (λ d. stop (Deep t.place) (refl, d)),
      (λ n. stop (Number t.place) (refl, n)),
      λ r. stop
          (Range t.place) (refl, r),
    )

walk : (L : Language) (ts front behind : List Placed) (end : ℕ) → ts ≡ front ++ behind
    → Begins L 0 (words_of front)
    → (L 0 (words_of ts) → ⊥) → IsFaultless L ts end → ⊥
walk L ts front [] end e begins other none =
    let P : List Placed → Type 0 = λ us. Begins L 0 (words_of us) in
    none (Shape end) (inr (refl, subst P (sym (e ∙ append-nil front)) begins, other))
walk L ts front (t ∷ behind) end e begins other none =
    never_stops L ts front t behind end e begins none
    (λ b.
    let P : List Token → Type 0 = Begins L 0 in
    walk L ts (front ++ t ∷ []) behind end (e ∙ sym (append_assoc front (t ∷ []) behind))
    (subst P (sym (words-append front (t ∷ []))) b) other none)

-- ---- bytes

abbrev at_place : Token → ℕ → Placed
at_place u place = record { token = u; place = place }

one_allowed : (u : Token) (place : ℕ)
    → ((byte : ℕ) × (at_place u place ≡ at_place (Barred byte) place)) ⊎ StandsInTexts
    (at_place u place)
one_allowed Open place = inr (λ byte e. cc)
one_allowed Close place = inr (λ byte e. cc)
one_allowed (Word w) place = inr (λ byte e. cc)
one_allowed (Barred b) place = inl (b, refl)

search_barred : (ts front behind : List Placed) → ts ≡ front ++ behind → All StandsInTexts front
    → ((place : ℕ) → IsBarredAt ts place → ⊥) → All StandsInTexts ts
search_barred ts front [] e all none = subst (All StandsInTexts) (sym (e ∙ append-nil front)) all
search_barred ts front (t ∷ behind) e all none =
    elim (one_allowed t.token t.place) [
      | inl b ↦ absurd (none t.place (
        front,
        b.0,
        behind,
        e ∙ ap
            (λ u. front ++ u ∷ behind) b.1,
        all,
      ))
      | inr allowed ↦
          search_barred ts (front ++ t ∷ []) behind (e ∙ sym (append_assoc front (t ∷ []) behind))
          (All-append StandsInTexts front (t ∷ []) all
          (All-cons StandsInTexts t [] allowed (All-nil StandsInTexts))) none
    ]

-- ---- texts

by_length : (text : List ℕ) → (length text ≤ 65536) ⊎ (65536 < length text)
by_length text = go (nat_le (length text) 65536) refl
  where
    go : (b : Bool) → nat_le (length text) 65536 ≡ b → (length text ≤ 65536) ⊎ (65536 < length text)
    go true e = inl (grind (arith, e))
    go false e = inr (grind (arith, e))

law : NotNeitherLaw
law text no_image no_fault =
    elim (by_length text) [
      | inr long ↦ no_fault (Long, long)
      | inl short ↦
          let allowed =
          search_barred (tokens_of text) [] (tokens_of text) refl (All-nil StandsInTexts)
          (λ place b. no_fault (Byte place, (short, b))) in
          walk images (tokens_of text) [] (tokens_of text) (length text) refl any_image
          (λ is. no_image is)
          (λ fault h. no_fault (fault, token_fault text fault short allowed h))
    ]

pub returns : goal.returns
returns c = law
