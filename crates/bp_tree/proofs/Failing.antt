-- Where a symbol is not there, and what is wrong.
use Rattle.std.proofs.Common.{◌≡◌, ℕ, List, [], ◌∷◌, ◌++◌, refl, sym, subst, ◌⊎◌, inl, inr}
use Rattle.omos_model.specs.declared.refusal.BpFault.{BpFault}
use Rattle.omos_model.specs.declared.refusal.BpFault.TheVariants.{Shape}
use Rattle.bp_tree.specs.Tokens.{Token, Open, Word, Placed}
use Rattle.bp_tree.specs.TextFaults.{Begins, CallsForNumber, IsNumberWord, IsTokenFault}
use Rattle.bp_tree.specs.inside.Symbols.{Sym, IsSym, AreSyms, Completable, Fails, WhyStops}
use Rattle.bp_tree.specs.declared.stop.Stop.{Stop}
use Rattle.bp_tree.specs.declared.stop.Stop.TheVariants.{Early, At}
use Rattle.bp_tree.proofs.Moves.{step}

-- something is the symbol
abbrev pub Sample : Sym → Type 0
Sample s = (more : ℕ) → (ts : List Token) × IsSym more s ts

abbrev pub IsNeverEmpty : Sym → Type 0
IsNeverEmpty s = (more : ℕ) → IsSym more s [] → ⊥

pub completes : (s : Sym) (ss : List Sym) → Sample s → Completable ss → Completable (s ∷ ss)
completes s ss sample c more =
    let w = sample more in
    let r = c more in (w.0 ++ r.0, (w.0, r.0, refl, w.1, r.1))

-- it begins with a token with which the symbol begins
pub begins_with : (s : Sym) (ss : List Sym) (t : Token) (tail : List Token) (more : ℕ)
    → IsSym more s (t ∷ tail) → Completable ss → Begins (AreSyms (s ∷ ss)) more (t ∷ [])
begins_with s ss t tail more is c =
    let r = c more in (tail ++ r.0, (t ∷ tail, r.0, refl, is, r.1))

from_front : (s : Sym) (t : Token) (rest front after : List Token) (more : ℕ)
    → (IsSym more s [] → ⊥) → t ∷ rest ≡ front ++ after → IsSym more s front
    → (tail : List Token) × IsSym more s (t ∷ tail)
from_front s t rest [] after more none e is = absurd (none is)
from_front s t rest (f ∷ fs) after more none e is =
    let same : f ≡ t = cc in
    let P : Token → Type 0 = λ u. IsSym more s (u ∷ fs) in (fs, subst P same is)

pub head_of : (s : Sym) (ss : List Sym) (t : Token) (more : ℕ) → IsNeverEmpty s
    → Begins (AreSyms (s ∷ ss)) more (t ∷ []) → (tail : List Token) × IsSym more s (t ∷ tail)
head_of s ss t more none b = from_front s t b.0 b.1.0 b.1.1 more (none more) b.1.2 b.1.3

no_front : (s : Sym) (front after : List Token) (more : ℕ) → (IsSym more s [] → ⊥)
    → [] ≡ front ++ after → IsSym more s front → ⊥
no_front s [] after more none e is = none is
no_front s (f ∷ fs) after more none e is = cc

pub fails_early : (s : Sym) (ts : List Placed) → Sample s → IsNeverEmpty s → ts ≡ []
    → Fails (s ∷ []) ts Early
fails_early s ts sample none e = record {
  why = λ ss c.
      let P : List Placed → Type 0 = λ us. WhyStops (AreSyms (s ∷ ss)) us Early in
      subst P (sym e) (completes s ss sample c 0, λ a. no_front s a.0 a.1 0 (none 0) a.2 a.3);
}

-- a token with which it doesn't begin, and what is wrong with it
pub fails_at : (s : Sym) (ts : List Placed) (t : Placed) (after : List Placed) (fault : BpFault)
    → Sample s → ts ≡ t ∷ after
    → IsNeverEmpty s → ((tail : List Token) → IsSym 0 s (t.token ∷ tail) → ⊥)
    → ((ss : List Sym) → Completable ss → IsTokenFault (AreSyms (s ∷ ss)) [] t.token t.place fault)
    → Fails (s ∷ []) ts (At fault)
fails_at s ts t after fault sample e full stops why = record {
  why = λ ss c.
      let P : List Placed → Type 0 = λ us. WhyStops (AreSyms (s ∷ ss)) us (At fault) in
      subst P (sym e) (record {
        front = [];
        token = t;
        behind = after;
        parts = refl;
        begins = completes s ss sample c 0;
        stops = λ b. let w = head_of s ss t.token 0 full b in stops w.0 w.1;
        why = why ss c;
      });
}

-- no number is called for: another word may stand there, or none
abbrev pub IsUncalled : Sym → Type 0
IsUncalled s =
    ((word : List ℕ) × (tail : List Token) × IsSym 0 s (Word word ∷ tail)
    × (IsNumberWord word → ⊥))
    ⊎ ((word : List ℕ) (tail : List Token) → IsSym 0 s (Word word ∷ tail) → ⊥)

uncalled : (s : Sym) (ss : List Sym) → IsNeverEmpty s → IsUncalled s → Completable ss
    → CallsForNumber (AreSyms (s ∷ ss)) [] → ⊥
uncalled s ss none (inl h) c calls =
    h.3 (calls.1 h.0 (begins_with s ss (Word h.0) h.1 0 h.2 c))
uncalled s ss none (inr h) c calls =
    let w = head_of s ss (Word calls.0.0) 0 none calls.0.1 in h calls.0.0 w.0 w.1

-- neither depth nor a number counts at this token
pub fails_plain : (s : Sym) (ts : List Placed) (t : Placed) (after : List Placed) → Sample s
    → IsNeverEmpty s → ts ≡ t ∷ after
    → ((tail : List Token) → IsSym 0 s (t.token ∷ tail) → ⊥)
    → (t.token ≡ Open → (more : ℕ) (tail : List Token) → IsSym more s (Open ∷ tail) → ⊥)
    → ((ss : List Sym) → Completable ss → (w : List ℕ) → t.token ≡ Word w
    → CallsForNumber (AreSyms (s ∷ ss)) [] → ⊥)
    → Fails (s ∷ []) ts (At (Shape t.place))
fails_plain s ts t after sample none e stops deep calls =
    fails_at s ts t after (Shape t.place) sample e none stops
    (λ ss c. (
      refl,
      (λ d.
          let Q : Token → Type 0 = λ u. Begins (AreSyms (s ∷ ss)) d.1.0 (u ∷ []) in
          let w = head_of s ss Open d.1.0 none (subst Q d.0 d.1.1) in deep d.0 d.1.0 w.0 w.1),
      (λ n. calls ss c n.1.0 n.1.1 n.0),
      λ n. calls ss c n.1.0 n.1.1 n.0,
    ))

pub fails_shape : (s : Sym) (ts : List Placed) (t : Placed) (after : List Placed) → Sample s
    → IsNeverEmpty s → ts ≡ t ∷ after
    → ((tail : List Token) → IsSym 0 s (t.token ∷ tail) → ⊥)
    → (t.token ≡ Open → (more : ℕ) (tail : List Token) → IsSym more s (Open ∷ tail) → ⊥)
    → IsUncalled s → Fails (s ∷ []) ts (At (Shape t.place))
fails_shape s ts t after sample none e stops deep calls =
    fails_plain s ts t after sample none e stops deep
    (λ ss c w is calling. uncalled s ss none calls c calling)

-- one token was taken
pub leads_step : (now now' : List Sym) (t : Placed) (ts after : List Placed) → ts ≡ t ∷ after
    → ((ss : List Sym) (more : ℕ) (ws : List Token) → AreSyms (now' ++ ss) more ws
    → AreSyms (now ++ ss) more (t.token ∷ ws))
    → ((ss : List Sym) (more : ℕ) (ws : List Token) → AreSyms (now ++ ss) more (t.token ∷ ws)
    → AreSyms (now' ++ ss) more ws)
    → (ss : List Sym) (stop : Stop) → WhyStops (AreSyms (now' ++ ss)) after stop
    → WhyStops (AreSyms (now ++ ss)) ts stop
leads_step now now' t ts after e there back ss stop h =
    let P : List Placed → Type 0 = λ us. WhyStops (AreSyms (now ++ ss)) us stop in
    subst P (sym e) (step (AreSyms (now' ++ ss)) (AreSyms (now ++ ss)) t after stop (there ss)
    (back ss) h)
