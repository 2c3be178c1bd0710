-- Names up to a parenthesis.
use Rattle.std.proofs.Common.{◌≡◌, ℕ, List, [], ◌∷◌, ◌++◌, refl, sym, ap, subst, ◌∙◌, inl, All, map}
use Rattle.std.proofs.Common.{append_assoc, arith}
use Rattle.std.proofs.lemmas.List.{map-append}
use Rattle.std.proofs.lemmas.List.Elements.{All-nil, All-cons, All-tail, All-append}
use Rattle.omos_base.specs.SymNames.{IsSymName}
use Rattle.omos_model.specs.declared.refusal.BpFault.TheVariants.{Shape}
use Rattle.bp_tree.specs.Tokens.{Token, Open, Close, Word, Placed}
use Rattle.bp_tree.specs.Texts.{words_of}
use Rattle.bp_tree.specs.inside.Symbols.{Sym, Names, AreSyms, Fails, AreRead, HasGrown, WhyStops}
use Rattle.bp_tree.specs.declared.stop.Stop.{Stop}
use Rattle.bp_tree.specs.declared.stop.Stop.TheVariants.{Early, At}
use Rattle.bp_tree.proofs.Samples.{name_a, no_number_a}
use Rattle.bp_tree.proofs.Failing.{Sample, IsNeverEmpty, fails_early, fails_shape, leads_step}

-- ---- a list that goes on

pub nothing_yet : (s : Sym) (V : List Token → Type 0) (ts : List Placed) → V [] → HasGrown s V ts ts
nothing_yet s V ts v = record { front = []; parts = refl; value = v; leads = λ ss stop h. h }

-- a failure of what goes on is one of the whole
pub fails_on : (s : Sym) (V : List Token → Type 0) (ts now : List Placed) (stop : Stop)
    → HasGrown s V ts now → Fails (s ∷ []) now stop → Fails (s ∷ []) ts stop
fails_on s V ts now stop g f = record { why = λ ss c. g.leads ss stop (f.why ss c) }

-- words of two lists of tokens
pub words-append : (xs ys : List Placed) → words_of (xs ++ ys) ≡ words_of xs ++ words_of ys
words-append xs ys = map-append (λ t. t.token) xs ys

-- one token more
pub grows : (s : Sym) (V W : List Token → Type 0) (ts now after : List Placed) (t : Placed)
    → HasGrown s V ts now → now ≡ t ∷ after
    → ((ws : List Token) → V ws → W (ws ++ t.token ∷ []))
    → ((ss : List Sym) (stop : Stop) → WhyStops (AreSyms (s ∷ ss)) after stop
    → WhyStops (AreSyms (s ∷ ss)) now stop)
    → HasGrown s W ts after
grows s V W ts now after t g e more lead = record {
  front = g.front ++ t ∷ [];
  parts = g.parts ∙ ap (λ us. g.front ++ us) e ∙ sym (append_assoc g.front (t ∷ []) after);
  value = subst W (sym (words-append g.front (t ∷ []))) (more (words_of g.front) g.value);
  leads = λ ss stop h. g.leads ss stop (lead ss stop h);
}

-- the token that ends it
pub ends : (s : Sym) (V W : List Token → Type 0) (ts now after : List Placed) (t : Placed)
    → HasGrown s V ts now → now ≡ t ∷ after
    → ((ws : List Token) → V ws → W (ws ++ t.token ∷ []))
    → ((ss : List Sym) (stop : Stop) → WhyStops (AreSyms ss) after stop
    → WhyStops (AreSyms (s ∷ ss)) now stop)
    → AreRead (s ∷ []) W ts after
ends s V W ts now after t g e more lead = record {
  front = g.front ++ t ∷ [];
  parts = g.parts ∙ ap (λ us. g.front ++ us) e ∙ sym (append_assoc g.front (t ∷ []) after);
  value = subst W (sym (words-append g.front (t ∷ []))) (more (words_of g.front) g.value);
  leads = λ ss stop h. g.leads ss stop (lead ss stop h);
}

-- ---- names

names_full : IsNeverEmpty Names
names_full more ([], e, all) = cc
names_full more (n ∷ ns, e, all) = cc

names_sample : Sample Names
names_sample more = (Close ∷ [], ([], refl, All-nil IsSymName))

pub names_early : (ts : List Placed) → ts ≡ [] → Fails (Names ∷ []) ts Early
names_early ts e = fails_early Names ts names_sample names_full e

no_other : (t : Token) (tail : List Token) (ns : List (List ℕ))
    → t ∷ tail ≡ map Word ns ++ Close ∷ []
    → All IsSymName ns → (t ≡ Close → ⊥) → ((n : List ℕ) → t ≡ Word n → IsSymName n → ⊥) → ⊥
no_other t tail [] e all closes names = let same : t ≡ Close = cc in closes same
no_other t tail (n ∷ ns) e all closes names = let same : t ≡ Word n =
    cc in names n same (all 0 n (omega arith))

pub names_shape : (ts : List Placed) (t : Placed) (after : List Placed) → ts ≡ t ∷ after
    → (t.token ≡ Close → ⊥) → ((n : List ℕ) → t.token ≡ Word n → IsSymName n → ⊥)
    → Fails (Names ∷ []) ts (At (Shape t.place))
names_shape ts t after e closes names = fails_shape Names ts t after names_sample names_full e
    (λ tail is. no_other t.token tail is.0 is.1 is.2 closes names)
    (λ opens more tail is. no_other Open tail is.0 is.1 is.2 (λ h. cc) (λ n h k. cc))
    (inl (
      97 ∷ [],
      Close ∷ [],
      ((97 ∷ []) ∷ [], refl, All-cons IsSymName (97 ∷ []) [] name_a (All-nil IsSymName)),
      no_number_a,
    ))

-- what follows the first of them
tail_names : (n : List ℕ) (ws front rest : List Token) (ns : List (List ℕ))
    → Word n ∷ ws ≡ front ++ rest
    → front ≡ map Word ns ++ Close ∷ [] → All IsSymName ns
    → (ms : List (List ℕ)) × (ws ≡ (map Word ms ++ Close ∷ []) ++ rest) × All IsSymName ms
tail_names n ws front rest [] e is all =
    let e' : Word n ∷ ws ≡ Close ∷ rest = e ∙ ap (λ us. us ++ rest) is in absurd cc
tail_names n ws front rest (m ∷ ms) e is all =
    let e' : Word n ∷ ws ≡ Word m ∷ ((map Word ms ++ Close ∷ []) ++ rest) =
    e ∙ ap (λ us. us ++ rest) is in
    let w : ws ≡ (map Word ms ++ Close ∷ []) ++ rest = cc in
    (ms, w, All-tail IsSymName m ms all)

pub names_lead : (n : List ℕ) (ts : List Placed) (t : Placed) (after : List Placed) → ts ≡ t ∷ after
    → t.token ≡ Word n → IsSymName n → (ss : List Sym) (stop : Stop)
    → WhyStops (AreSyms (Names ∷ ss)) after stop → WhyStops (AreSyms (Names ∷ ss)) ts stop
names_lead n ts t after e same is = leads_step (Names ∷ []) (Names ∷ []) t ts after e
    (λ ss more ws a.
    let front = Word n ∷ a.0 in (
      front,
      a.1,
      ap (λ u. u ∷ ws) same ∙ ap (λ us. Word n ∷ us) a.2,
      (n ∷ a.3.0, ap (λ us. Word n ∷ us) a.3.1, All-cons IsSymName n a.3.0 is a.3.2),
      a.4,
    ))
    (λ ss more ws a.
    let h = tail_names n ws a.0 a.1 a.3.0 (ap (λ u. u ∷ ws) (sym same) ∙ a.2) a.3.1 a.3.2 in
    (map Word h.0 ++ Close ∷ [], a.1, h.1, (h.0, refl, h.2), a.4))

-- what follows the parenthesis
closed_names : (ws front rest : List Token) (ns : List (List ℕ)) → Close ∷ ws ≡ front ++ rest
    → front ≡ map Word ns ++ Close ∷ [] → rest ≡ ws
closed_names ws front rest [] e is =
    let e' : Close ∷ ws ≡ Close ∷ rest = e ∙ ap (λ us. us ++ rest) is in cc
closed_names ws front rest (m ∷ ms) e is =
    let e' : Close ∷ ws ≡ Word m ∷ ((map Word ms ++ Close ∷ []) ++ rest) =
    e ∙ ap (λ us. us ++ rest) is in absurd cc

pub names_end : (ts : List Placed) (t : Placed) (after : List Placed) → ts ≡ t ∷ after
    → t.token ≡ Close → (ss : List Sym) (stop : Stop)
    → WhyStops (AreSyms ss) after stop → WhyStops (AreSyms (Names ∷ ss)) ts stop
names_end ts t after e same = leads_step (Names ∷ []) [] t ts after e
    (λ ss more ws a. (Close ∷ [], ws, ap (λ u. u ∷ ws) same, ([], refl, All-nil IsSymName), a))
    (λ ss more ws a. subst (AreSyms ss more)
    (closed_names ws a.0 a.1 a.3.0 (ap (λ u. u ∷ ws) (sym same) ∙ a.2) a.3.1) a.4)

-- ---- the answers of the loop

abbrev pub Named : List (List ℕ) → List Token → Type 0
Named ns ws = (ws ≡ map Word ns) × All IsSymName ns

abbrev pub NamedAll : List (List ℕ) → List Token → Type 0
NamedAll ns ws = (ws ≡ map Word ns ++ Close ∷ []) × All IsSymName ns

pub names_more : (n : List ℕ) (ns ms : List (List ℕ)) (ts now after : List Placed) (t : Placed)
    → HasGrown Names (Named ns) ts now → now ≡ t ∷ after → t.token ≡ Word n → IsSymName n
    → ms ≡ ns ++ n ∷ [] → HasGrown Names (Named ms) ts after
names_more n ns ms ts now after t g e same is grown =
    grows Names (Named ns) (Named ms) ts now after t g e
    (λ ws v. (
      ap (λ us. us ++ t.token ∷ []) v.0 ∙ ap (λ u. map Word ns ++ u ∷ []) same
          ∙ sym (map-append Word ns (n ∷ [])) ∙ ap (map Word) (sym grown),
      subst (All IsSymName) (sym grown)
          (All-append IsSymName ns (n ∷ []) v.1 (All-cons IsSymName n [] is (All-nil IsSymName))),
    ))
    (names_lead n now t after e same is)

pub names_done : (ns : List (List ℕ)) (ts now after : List Placed) (t : Placed)
    → HasGrown Names (Named ns) ts now → now ≡ t ∷ after → t.token ≡ Close
    → AreRead (Names ∷ []) (NamedAll ns) ts after
names_done ns ts now after t g e same =
    ends Names (Named ns) (NamedAll ns) ts now after t g e
    (λ ws v. (ap (λ us. us ++ t.token ∷ []) v.0 ∙ ap (λ u. map Word ns ++ u ∷ []) same, v.1))
    (names_end now t after e same)
