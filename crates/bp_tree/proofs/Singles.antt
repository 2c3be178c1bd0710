-- Single tokens and names.
use Rattle.std.proofs.Common.{◌≡◌, ℕ, List, [], ◌∷◌, ◌++◌, refl, ap, subst, ◌∙◌, inl, inr, codes}
use Rattle.omos_base.specs.SymNames.{IsSymName, HasNameFault}
use Rattle.omos_base.specs.declared.sym_name.NameFault.{NameFault}
use Rattle.omos_base.specs.declared.sym_name.NameFault.TheVariants.{Length, Byte}
use Rattle.omos_model.specs.declared.refusal.BpFault.TheVariants.{Shape}
use Rattle.bp_tree.specs.Tokens.{Token, Open, Close, Word, Placed}
use Rattle.bp_tree.specs.inside.Symbols.{It, AName, AreSyms, Fails, AreRead}
use Rattle.bp_tree.specs.declared.stop.Stop.TheVariants.{Early, At}
use Rattle.bp_tree.proofs.Samples.{name_a, no_number_a, no_number_image}
use Rattle.bp_tree.proofs.Failing.{Sample, IsNeverEmpty, IsUncalled, fails_early, fails_shape}
use Rattle.bp_tree.proofs.Failing.{leads_step}

-- ---- a token

it_sample : (w : Token) → Sample (It w)
it_sample w more = (w ∷ [], refl)

it_full : (w : Token) → IsNeverEmpty (It w)
it_full w more e = cc

pub it_early : (w : Token) (ts : List Placed) → ts ≡ [] → Fails (It w ∷ []) ts Early
it_early w ts e = fails_early (It w) ts (it_sample w) (it_full w) e

pub it_shape : (w : Token) (ts : List Placed) (t : Placed) (after : List Placed) → ts ≡ t ∷ after
    → (t.token ≡ w → ⊥) → IsUncalled (It w) → Fails (It w ∷ []) ts (At (Shape t.place))
it_shape w ts t after e other calls = fails_shape (It w) ts t after (it_sample w) (it_full w) e
    (λ tail is. let same : t.token ≡ w = cc in other same)
    (λ opens more tail is. let same : Open ≡ w = cc in other (opens ∙ same)) calls

pub open_uncalled : IsUncalled (It Open)
open_uncalled = inr (λ word tail is. cc)

pub close_uncalled : IsUncalled (It Close)
close_uncalled = inr (λ word tail is. cc)

pub image_uncalled : IsUncalled (It (Word (codes "image")))
image_uncalled = inl (codes "image", [], refl, no_number_image)

-- what follows a front of one token
behind_one : (t w : Token) (ws front rest : List Token) → t ∷ ws ≡ front ++ rest → front ≡ w ∷ []
    → rest ≡ ws
behind_one t w ws front rest e is =
    let e' : t ∷ ws ≡ w ∷ rest = e ∙ ap (λ us. us ++ rest) is in cc

pub it_read : (w : Token) (ts : List Placed) (t : Placed) (after : List Placed) → ts ≡ t ∷ after
    → t.token ≡ w → AreRead (It w ∷ []) (λ ws. ws ≡ w ∷ []) ts after
it_read w ts t after e same = record {
  front = t ∷ [];
  parts = e;
  value = ap (λ u. u ∷ []) same;
  leads = leads_step (It w ∷ []) [] t ts after e
      (λ ss more ws a. (w ∷ [], ws, ap (λ u. u ∷ ws) same, refl, a))
      (λ ss more ws a. subst (AreSyms ss more) (behind_one t.token w ws a.0 a.1 a.2 a.3) a.4);
}

-- ---- a name

name_full : IsNeverEmpty AName
name_full more n = cc

pub not_name : (bytes : List ℕ) (fault : NameFault) → HasNameFault bytes fault → IsSymName bytes → ⊥
not_name bytes Length h is = h is.0
not_name bytes (Byte place) h is = h.1.2 (is.1 place 0 h.1.0)

pub name_early : (ts : List Placed) → ts ≡ [] → Fails (AName ∷ []) ts Early
name_early ts e =
    fails_early AName ts (λ more. (Word (97 ∷ []) ∷ [], (97 ∷ [], refl, name_a))) name_full e

pub name_shape : (ts : List Placed) (t : Placed) (after : List Placed) → ts ≡ t ∷ after
    → ((n : List ℕ) → t.token ≡ Word n → IsSymName n → ⊥)
    → Fails (AName ∷ []) ts (At (Shape t.place))
name_shape ts t after e other =
    fails_shape AName ts t after (λ more. (Word (97 ∷ []) ∷ [], (97 ∷ [], refl, name_a))) name_full
    e
    (λ tail is. let same : t.token ≡ Word is.0 = cc in other is.0 same is.2)
    (λ opens more tail is. let same : Open ≡ Word is.0 = cc in cc)
    (inl (97 ∷ [], [], (97 ∷ [], refl, name_a), no_number_a))

pub name_read : (n : List ℕ) (ts : List Placed) (t : Placed) (after : List Placed) → ts ≡ t ∷ after
    → t.token ≡ Word n → IsSymName n
    → AreRead (AName ∷ []) (λ ws. (ws ≡ Word n ∷ []) × IsSymName n) ts after
name_read n ts t after e same is = record {
  front = t ∷ [];
  parts = e;
  value = (ap (λ u. u ∷ []) same, is);
  leads = leads_step (AName ∷ []) [] t ts after e
      (λ ss more ws a. (Word n ∷ [], ws, ap (λ u. u ∷ ws) same, (n, refl, is), a))
      (λ ss more ws a. subst (AreSyms ss more)
      (behind_one t.token (Word a.3.0) ws a.0 a.1 a.2 a.3.1) a.4);
}
