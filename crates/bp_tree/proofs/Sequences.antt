-- Symbols read one after the other, and languages that differ elsewhere.
use Rattle.std.proofs.Common.{◌≡◌, ℕ, List, [], ◌∷◌, ◌++◌, refl, sym, ap, subst, ◌∙◌, ◌⊎◌, inl, inr}
use Rattle.std.proofs.Common.{append_assoc}
use Rattle.bp_tree.specs.Tokens.{Token, Close, Word, Placed}
use Rattle.bp_tree.specs.Texts.{words_of}
use Rattle.bp_tree.specs.TextFaults.{Language, Begins, CallsForNumber}
use Rattle.bp_tree.specs.inside.Symbols.{Sym, AreSyms, Completable, Fails, AreRead, WhyStops}
use Rattle.bp_tree.specs.declared.stop.Stop.{Stop}
use Rattle.bp_tree.specs.declared.stop.Stop.TheVariants.{Early, At}
use Rattle.bp_tree.proofs.Moves.{Onward, calls_moved, fault_moved}
use Rattle.bp_tree.proofs.NameLists.{words-append}

-- something is said in the symbols
abbrev pub IsSolid : List Sym → Type 0
IsSolid b = (ss : List Sym) → Completable ss → Completable (b ++ ss)

pub fails_first : (a b : List Sym) (ts : List Placed) (stop : Stop) → IsSolid b → Fails a ts stop
    → Fails (a ++ b) ts stop
fails_first a b ts stop solid f = record {
  why = λ ss c.
      let P : List Sym → Type 0 = λ l. WhyStops (AreSyms l) ts stop in
      subst P (sym (append_assoc a b ss)) (f.why (b ++ ss) (solid ss c));
}

pub then_fails : (a b : List Sym) (V : List Token → Type 0) (ts now : List Placed) (stop : Stop)
    → AreRead a V ts now → Fails b now stop → Fails (a ++ b) ts stop
then_fails a b V ts now stop r f = record {
  why = λ ss c.
      let P : List Sym → Type 0 = λ l. WhyStops (AreSyms l) ts stop in
      subst P (sym (append_assoc a b ss)) (r.leads (b ++ ss) stop (f.why ss c));
}

pub then_read : (a b : List Sym) (V W U : List Token → Type 0) (ts now after : List Placed)
    → AreRead a V ts now → AreRead b W now after
    → ((xs ys : List Token) → V xs → W ys → U (xs ++ ys)) → AreRead (a ++ b) U ts after
then_read a b V W U ts now after r q both = record {
  front = r.front ++ q.front;
  parts = r.parts ∙ ap (λ us. r.front ++ us) q.parts ∙ sym (append_assoc r.front q.front after);
  value = subst U (sym (words-append r.front q.front))
      (both (words_of r.front) (words_of q.front) r.value q.value);
  leads = λ ss stop h.
      let P : List Sym → Type 0 = λ l. WhyStops (AreSyms l) ts stop in
      subst P (sym (append_assoc a b ss)) (r.leads (b ++ ss) stop (q.leads ss stop h));
}

-- ---- where two languages differ in no beginning that stands here

pub narrowed : (K L : Language) (ts : List Placed) (stop : Stop)
    → ((more : ℕ) (ws : List Token) → K more ws → L more ws)
    → (L 0 (words_of ts) → K 0 (words_of ts))
    → ((front : List Placed) (t : Placed) (behind : List Placed) → ts ≡ front ++ t ∷ behind
    → (more : ℕ) → Begins L more (words_of front ++ t.token ∷ [])
    → Begins K more (words_of front ++ t.token ∷ []))
    → ((front : List Placed) (t : Placed) (behind : List Placed) → ts ≡ front ++ t ∷ behind
    → (CallsForNumber K (words_of front) → CallsForNumber L (words_of front))
    × (CallsForNumber L (words_of front) → CallsForNumber K (words_of front)))
    → WhyStops K ts stop → WhyStops L ts stop
narrowed K L ts Early incl whole own calls h =
    ((h.0.0, incl 0 (words_of ts ++ h.0.0) h.0.1), λ l. h.1 (whole l))
narrowed K L ts (At fault) incl whole own calls h =
    let both = calls h.front h.token h.behind h.parts in
    record {
      front = h.front;
      token = h.token;
      behind = h.behind;
      parts = h.parts;
      begins = (h.begins.0, incl 0 (words_of h.front ++ h.begins.0) h.begins.1);
      stops = λ b. h.stops (own h.front h.token h.behind h.parts 0 b);
      why = fault_moved K L (words_of h.front) (words_of h.front) h.token.token h.token.place fault
          (λ more b. (b.0, incl more ((words_of h.front ++ h.token.token ∷ []) ++ b.0) b.1))
          (own h.front h.token h.behind h.parts) both.0 both.1 h.why;
    }

-- the same may be said
pub same : (K L : Language) (ts : List Placed) (stop : Stop)
    → ((more : ℕ) (ws : List Token) → K more ws → L more ws)
    → ((more : ℕ) (ws : List Token) → L more ws → K more ws)
    → WhyStops K ts stop → WhyStops L ts stop
same K L ts stop there back h =
    let onward : (us : List Token) → Onward K us L us =
    λ us more u b. (b.0, there more ((us ++ u ∷ []) ++ b.0) b.1) in
    let back_again : (us : List Token) → Onward L us K us =
    λ us more u b. (b.0, back more ((us ++ u ∷ []) ++ b.0) b.1) in
    narrowed K L ts stop there (back 0 (words_of ts))
    (λ front t behind parts more b. back_again (words_of front) more t.token b)
    (λ front t behind parts.
    let us = words_of front in (
      calls_moved K L us us (onward us) (back_again us),
      calls_moved L K us us (back_again us) (onward us),
    )) h

-- what L says beyond K begins with a parenthesis
abbrev pub DiffersAtClose : Language → Language → Type 0
DiffersAtClose K L =
    (more : ℕ) (c : Token) (ws : List Token) → (c ≡ Close → ⊥) → L more (c ∷ ws) → K more (c ∷ ws)

close_own : (K L : Language) → DiffersAtClose K L → (t : Placed) (after : List Placed)
    → (t.token ≡ Close → ⊥) → (front : List Placed) (u : Placed) (behind : List Placed)
    → t ∷ after ≡ front ++ u ∷ behind → (more : ℕ) (v : Token) → (v ≡ u.token) ⊎ (v ≡ Close → ⊥)
    → Begins L more (words_of front ++ v ∷ []) → Begins K more (words_of front ++ v ∷ [])
close_own K L d t after other [] u behind parts more v (inl e) b =
    let n : t ≡ u = cc in (b.0, d more v b.0 (λ h. other (ap (λ p. p.token) n ∙ sym e ∙ h)) b.1)
close_own K L d t after other [] u behind parts more v (inr none) b = (b.0, d more v b.0 none b.1)
close_own K L d t after other (f ∷ fs) u behind parts more v is b =
    let n : t ≡ f = cc in (
      b.0,
      d more f.token ((words_of fs ++ v ∷ []) ++ b.0) (λ h. other (ap (λ p. p.token) n ∙ h))
          b.1,
    )

-- and no parenthesis stands here
pub unless_closed : (K L : Language) (ts : List Placed) (t : Placed) (after : List Placed)
    (stop : Stop)
    → ts ≡ t ∷ after → (t.token ≡ Close → ⊥)
    → ((more : ℕ) (ws : List Token) → K more ws → L more ws) → DiffersAtClose K L
    → WhyStops K ts stop → WhyStops L ts stop
unless_closed K L ts t after stop e other incl d h =
    let P : List Placed → Type 0 = λ us. WhyStops L us stop in
    let Q : List Placed → Type 0 = λ us. WhyStops K us stop in
    subst P (sym e) (narrowed K L (t ∷ after) stop incl
    (λ l. d 0 t.token (words_of after) other l)
    (λ front u behind parts more b.
    close_own K L d t after other front u behind parts more u.token (inl refl) b)
    (λ front u behind parts. (
      (λ c. (
        (c.0.0, (c.0.1.0, incl 0 ((words_of front ++ Word c.0.0 ∷ []) ++ c.0.1.0) c.0.1.1)),
        λ word b. c.1 word
            (close_own K L d t after other front u behind parts 0 (Word word) (inr (λ h. cc)) b),
      )),
      λ c. (
        (
          c.0.0,
          close_own K L d t after other front u behind parts 0 (Word c.0.0) (inr (λ h. cc))
              c.0.1,
        ),
        λ word b. c.1 word (b.0, incl 0 ((words_of front ++ Word word ∷ []) ++ b.0) b.1),
      ),
    ))
    (subst Q e h))
