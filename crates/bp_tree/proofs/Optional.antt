-- Parts of an image that may be left out.
use Rattle.std.proofs.Common.{◌≡◌, ℕ, List, [], ◌∷◌, ◌++◌, refl, sym, ap, subst, ◌⊎◌, inl, inr}
use Rattle.bp_tree.specs.Tokens.{Token, Open, Word, Placed}
use Rattle.bp_tree.specs.Texts.{words_of}
use Rattle.bp_tree.specs.TextFaults.{Language, Begins, IsNumberWord}
use Rattle.bp_tree.specs.inside.Symbols.{WhyStops}
use Rattle.bp_tree.specs.inside.Header.{IsOpening}
use Rattle.bp_tree.specs.declared.stop.Stop.{Stop}
use Rattle.bp_tree.proofs.Sequences.{narrowed}

-- what L says beyond K begins with a parenthesis and such a word
abbrev pub DiffersAtKeys : Language → Language → (List ℕ → Type 0) → Type 0
DiffersAtKeys K L key =
    (more : ℕ) (ws : List Token) → L more ws
    → K more ws ⊎ ((k : List ℕ) × (rest : List Token) × (ws ≡ Open ∷ Word k ∷ rest) × key k)

abbrev HasNone : List Placed → (List ℕ → Type 0) → Type 0
HasNone ts key = (k : List ℕ) (after : List Placed) → IsOpening ts k after → key k → ⊥

opening : (ts : List Placed) (k : List ℕ) (rest : List Token) → words_of ts ≡ Open ∷ Word k ∷ rest
    → (after : List Placed) × IsOpening ts k after
opening [] k rest e = absurd cc
opening (a ∷ []) k rest e = absurd cc
opening (a ∷ b ∷ after) k rest e =
    let p : a.token ≡ Open = cc in
    let q : b.token ≡ Word k = cc in (after, (a, b, refl, p, q))

-- a beginning that stands here, with a word or the next token after it
kept : (K L : Language) (key : List ℕ → Type 0) (ts : List Placed) → DiffersAtKeys K L key
    → HasNone ts key
    → (front : List Placed) (t : Placed) (behind : List Placed) → ts ≡ front ++ t ∷ behind
    → (u : Token) (more : ℕ) → Begins L more (words_of front ++ u ∷ [])
    → Begins K more (words_of front ++ u ∷ []) ⊎ (((front ≡ []) × (u ≡ Open))
    ⊎ ((words_of front ≡ Open ∷ []) × ((k : List ℕ) × (u ≡ Word k) × key k)))
kept K L key ts d none front t behind parts u more b =
    elim (d more ((words_of front ++ u ∷ []) ++ b.0) b.1) [
      | inl k ↦ inl (b.0, k)
      | inr w ↦ inr (kept_at key ts none front t behind parts u b.0 w.0 w.1 w.2 w.3)
    ]
  where
    kept_at : (key : List ℕ → Type 0) (ts : List Placed) → HasNone ts key
        → (front : List Placed) (t : Placed) (behind : List Placed) → ts ≡ front ++ t ∷ behind
        → (u : Token) (rest : List Token) (k : List ℕ) (more : List Token)
        → (words_of front ++ u ∷ []) ++ rest ≡ Open ∷ Word k ∷ more → key k
        → ((front ≡ []) × (u ≡ Open))
        ⊎ ((words_of front ≡ Open ∷ []) × ((k : List ℕ) × (u ≡ Word k) × key k))
    kept_at key ts none [] t behind parts u rest k more e is = let p : u ≡ Open =
        cc in inl (refl, p)
    kept_at key ts none (f ∷ []) t behind parts u rest k more e is =
        let p : f.token ≡ Open = cc in
        let q : u ≡ Word k = cc in inr (ap (λ x. x ∷ []) p, (k, q, is))
    kept_at key ts none (f ∷ g ∷ fs) t behind parts u rest k more e is =
        let p : f.token ≡ Open = cc in
        let q : g.token ≡ Word k = cc in absurd (none k (fs ++ t ∷ behind) (f, g, parts, p, q) is)

only : (key : List ℕ → Type 0) (ts : List Placed) → HasNone ts key
    → (front : List Placed) (t : Placed) (behind : List Placed) → ts ≡ front ++ t ∷ behind
    → words_of front ≡ Open ∷ [] → (k : List ℕ) → t.token ≡ Word k → key k → ⊥
only key ts none [] t behind parts e k h is = cc
only key ts none (f ∷ []) t behind parts e k h is =
    let p : f.token ≡ Open = cc in none k behind (f, t, parts, p, h) is
only key ts none (f ∷ g ∷ fs) t behind parts e k h is = cc

pub unless_key : (K L : Language) (key : List ℕ → Type 0) (ts : List Placed) (stop : Stop)
    → ((more : ℕ) (ws : List Token) → K more ws → L more ws) → DiffersAtKeys K L key
    → HasNone ts key
    → ((more : ℕ) → Begins K more (Open ∷ []))
    → (v : List ℕ) → Begins K 0 (Open ∷ Word v ∷ []) → (IsNumberWord v → ⊥)
    → WhyStops K ts stop → WhyStops L ts stop
unless_key K L key ts stop incl d none opens v begins other h =
    narrowed K L ts stop incl
    (λ l.
    elim (d 0 (words_of ts) l) [
      | inl k ↦ k
      | inr w ↦ let o = opening ts w.0 w.1 w.2 in absurd (none w.0 o.0 o.1 w.3)
    ])
    (λ front t behind parts more b.
    elim (kept K L key ts d none front t behind parts t.token more b) [
      | inl k ↦ k
      | inr (inl w) ↦ at_once front t.token w.0 w.1 more
      | inr (inr w) ↦ absurd (only key ts none front t behind parts w.0 w.1.0 w.1.1 w.1.2)
    ])
    (λ front t behind parts. (
      (λ c. (
        (c.0.0, (c.0.1.0, incl 0 ((words_of front ++ Word c.0.0 ∷ []) ++ c.0.1.0) c.0.1.1)),
        λ word b.
            elim (kept K L key ts d none front t behind parts (Word word) 0 b) [
              | inl k ↦ c.1 word k
              | inr (inl w) ↦ let q : Word word ≡ Open = w.1 in absurd cc
              | inr (inr w) ↦ absurd (other (c.1 v (moved front w.0)))
            ],
      )),
      λ c. (
        elim (kept K L key ts d none front t behind parts (Word c.0.0) 0 c.0.1) [
          | inl k ↦ (c.0.0, k)
          | inr (inl w) ↦ let q : Word c.0.0 ≡ Open = w.1 in absurd cc
          | inr (inr w) ↦ (v, moved front w.0)
        ],
        λ word b. c.1 word (b.0, incl 0 ((words_of front ++ Word word ∷ []) ++ b.0) b.1),
      ),
    ))
    h
  where
    moved : (front : List Placed) → words_of front ≡ Open ∷ []
        → Begins K 0 (words_of front ++ Word v ∷ [])
    moved front e =
        let P : List Token → Type 0 = λ us. Begins K 0 (us ++ Word v ∷ []) in subst P (sym e) begins

    at_once : (front : List Placed) (u : Token) → front ≡ [] → u ≡ Open → (more : ℕ)
        → Begins K more (words_of front ++ u ∷ [])
    at_once front u e h more =
        let P : List Placed → Type 0 = λ us. Begins K more (words_of us ++ u ∷ []) in
        let Q : Token → Type 0 =
        λ t. Begins K more (t ∷ []) in subst P (sym e) (subst Q (sym h) (opens more))
