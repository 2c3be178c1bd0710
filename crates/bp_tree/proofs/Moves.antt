-- How a stop of what follows is one of the whole.
use Rattle.std.proofs.Common.{◌≡◌, ℕ, List, [], ◌∷◌, ◌++◌, refl, ap}
use Rattle.omos_model.specs.declared.refusal.BpFault.{BpFault}
use Rattle.omos_model.specs.declared.refusal.BpFault.TheVariants.{Long, Byte, Shape, Deep, Number}
use Rattle.omos_model.specs.declared.refusal.BpFault.TheVariants.{Range}
use Rattle.bp_tree.specs.Tokens.{Token, Word, Placed}
use Rattle.bp_tree.specs.Texts.{words_of}
use Rattle.bp_tree.specs.TextFaults.{Language, Begins, CallsForNumber, IsTooDeep, IsTokenFault}
use Rattle.bp_tree.specs.inside.Symbols.{WhyStops}
use Rattle.bp_tree.specs.declared.stop.Stop.{Stop}
use Rattle.bp_tree.specs.declared.stop.Stop.TheVariants.{Early, At}

-- with one more token, L begins after us what K does after ts
abbrev pub Onward : Language → List Token → Language → List Token → Type 0
Onward K ts L us = (more : ℕ) (t : Token) → Begins K more (ts ++ t ∷ [])
    → Begins L more (us ++ t ∷ [])

pub calls_moved : (K L : Language) (ts us : List Token) → Onward K ts L us → Onward L us K ts
    → CallsForNumber K ts → CallsForNumber L us
calls_moved K L ts us f g c =
    ((c.0.0, f 0 (Word c.0.0) c.0.1), λ word b. c.1 word (g 0 (Word word) b))

-- where a token and a call for a number say the same after ts and us
pub fault_moved : (K L : Language) (ts us : List Token) (t : Token) (place : ℕ) (fault : BpFault)
    → ((more : ℕ) → Begins K more (ts ++ t ∷ []) → Begins L more (us ++ t ∷ []))
    → ((more : ℕ) → Begins L more (us ++ t ∷ []) → Begins K more (ts ++ t ∷ []))
    → (CallsForNumber K ts → CallsForNumber L us) → (CallsForNumber L us → CallsForNumber K ts)
    → IsTokenFault K ts t place fault → IsTokenFault L us t place fault
fault_moved K L ts us t place Long f g c d h = h
fault_moved K L ts us t place (Byte p) f g c d h = h
fault_moved K L ts us t place (Deep p) f g c d h = (h.0, (h.1.0, (h.1.1.0, f h.1.1.0 h.1.1.1)))
fault_moved K L ts us t place (Number p) f g c d h = (h.0, (c h.1.0, h.1.1))
fault_moved K L ts us t place (Range p) f g c d h = (h.0, (c h.1.0, h.1.1))
fault_moved K L ts us t place (Shape p) f g c d h = (
  h.0,
  (λ x. h.1 (x.0, (x.1.0, g x.1.0 x.1.1))),
  (λ x. h.2 (d x.0, x.1)),
  λ x. h.3 (d x.0, x.1),
)

-- a token was taken
pub step : (K L : Language) (t : Placed) (ts : List Placed) (stop : Stop)
    → ((more : ℕ) (ws : List Token) → K more ws → L more (t.token ∷ ws))
    → ((more : ℕ) (ws : List Token) → L more (t.token ∷ ws) → K more ws)
    → WhyStops K ts stop → WhyStops L (t ∷ ts) stop
step K L t ts Early there back h =
    ((h.0.0, there 0 (words_of ts ++ h.0.0) h.0.1), λ l. h.1 (back 0 (words_of ts) l))
step K L t ts (At fault) there back h = record {
  front = t ∷ h.front;
  token = h.token;
  behind = h.behind;
  parts = ap (λ us. t ∷ us) h.parts;
  begins = (h.begins.0, there 0 (words_of h.front ++ h.begins.0) h.begins.1);
  stops = λ b. h.stops (b.0, back 0 ((words_of h.front ++ h.token.token ∷ []) ++ b.0) b.1);
  why =
      let us = words_of h.front in
      let onward : Onward K us L (t.token ∷ us) =
      λ more u b. (b.0, there more ((us ++ u ∷ []) ++ b.0) b.1) in
      let back_again : Onward L (t.token ∷ us) K us =
      λ more u b. (b.0, back more ((us ++ u ∷ []) ++ b.0) b.1) in
      fault_moved K L us (t.token ∷ us) h.token.token h.token.place fault
      (λ more b. onward more h.token.token b) (λ more b. back_again more h.token.token b)
      (calls_moved K L us (t.token ∷ us) onward back_again)
      (calls_moved L K (t.token ∷ us) us back_again onward) h.why;
}

-- a token with which nothing begins, at which neither depth nor a number counts
pub shape_fault : (L : Language) (t : Placed) (ts : List Placed) → Begins L 0 []
    → (Begins L 0 (t.token ∷ []) → ⊥) → (IsTooDeep L [] t.token → ⊥)
    → ((word : List ℕ) → t.token ≡ Word word → CallsForNumber L [] → ⊥)
    → WhyStops L (t ∷ ts) (At (Shape t.place))
shape_fault L t ts begins stops deep calls = record {
  front = [];
  token = t;
  behind = ts;
  parts = refl;
  begins = begins;
  stops = stops;
  why = (refl, deep, (λ n. calls n.1.0 n.1.1 n.0), λ n. calls n.1.0 n.1.1 n.0);
}
