-- The answers of a call, handed on.
use Rattle.std.proofs.Common.{◌≡◌, List, Result, Ok, Err, sym, subst, true, false}
use Rattle.std.specs.Prelude.{IsErr}
use Rattle.std.specs.Result.{IsErrAnd}
use Rattle.omos_base.specs.Fault.{MatchFault}
use Rattle.omos_base.specs.declared.fault.Fault.{Fault}
use Rattle.omos_base.specs.declared.fault.Fault.TheVariants.{Refused, NoMemory}
use Rattle.bp_tree.specs.Tokens.{Token, Placed}
use Rattle.bp_tree.specs.Texts.{words_of}
use Rattle.bp_tree.specs.inside.Symbols.{Sym, AreRead}

pub onward : {T E : Type 0} (r : Result T (Fault E)) (P P' : T → Type 0) (Q Q' : E → Type 0)
    → MatchFault r P Q → ((v : T) → P v → P' v) → ((e : E) → Q e → Q' e) → MatchFault r P' Q'
onward (Ok v) P P' Q Q' h f g = f v h
onward (Err (Refused e)) P P' Q Q' h f g = g e h
onward (Err NoMemory) P P' Q Q' h f g = tt

pub fault_onward : {S T E : Type 0} (P : S → Type 0) (x : Fault E) (P' : T → Type 0) (Q Q' : E
    → Type 0)
    → MatchFault {T = S} {E = E} (Err x) P Q → ((e : E) → Q e → Q' e)
    → MatchFault {T = T} {E = E} (Err x) P' Q'
fault_onward P (Refused e) P' Q Q' h g = g e h
fault_onward P NoMemory P' Q Q' h g = tt

pub err_arm : {S T E : Type 0} (r : Result T (Fault E)) (x : Fault E) (P : S → Type 0) (P' : T
    → Type 0) (Q Q' : E → Type 0)
    → IsErr r → IsErrAnd r (λ e. e ≡ x) → MatchFault {T = S} {E = E} (Err x) P Q
    → ((e : E) → Q e → Q' e) → MatchFault r P' Q'
err_arm (Ok v) x P P' Q Q' is same h g = let k : false ≡ true = is in absurd cc
err_arm {S} {T} {E} (Err y) x P P' Q Q' is same h g =
    subst (λ z. MatchFault {T = T} {E = E} (Err z) P' Q') (sym same)
    (fault_onward {S = S} {T = T} {E = E} P x P' Q Q' h g)

pub revalued : (now : List Sym) (V W : List Token → Type 0) (ts after : List Placed)
    → ((ws : List Token) → V ws → W ws) → AreRead now V ts after → AreRead now W ts after
revalued now V W ts after f r =
    record {
      front = r.front;
      parts = r.parts;
      value = f (words_of r.front) r.value;
      leads = r.leads;
    }
