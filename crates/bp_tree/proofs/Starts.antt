-- The start of an image, which may be left out.
use Rattle.std.proofs.Common.{◌≡◌, ℕ, ◌+◌, List, [], ◌∷◌, ◌++◌, refl, sym, ap, subst}
use Rattle.std.proofs.Common.{◌∙◌, ◌⊎◌, inl, inr, codes, arith}
use Rattle.omos_base.specs.SymNames.{IsSymName}
use Rattle.omos_model.specs.declared.entry.Start.{Start}
use Rattle.omos_model.specs.declared.entry.Start.TheVariants.{Named, NoEntry}
use Rattle.bp_tree.specs.Tokens.{Token, Open, Close, Word, Placed}
use Rattle.bp_tree.specs.Grammar.{IsStart}
use Rattle.bp_tree.specs.inside.Symbols.{Sym, It, AName, AStart, AreSyms}
use Rattle.bp_tree.specs.inside.Symbols.{Fails, AreRead, WhyStops}
use Rattle.bp_tree.specs.inside.Header.{IsOpening, IsHeaderPart, range_syms}
use Rattle.bp_tree.specs.declared.stop.Stop.{Stop}
use Rattle.bp_tree.proofs.Optional.{DiffersAtKeys, unless_key}
use Rattle.bp_tree.proofs.Samples.{no_number_freeze}
use Rattle.bp_tree.proofs.Headers.{opened_lead, part_kind, no_start_word, range_open, range_freeze}
use Rattle.bp_tree.proofs.Headers.{opening_words}

-- ---- the start

abbrev IsStartKey : List ℕ → Type 0
IsStartKey k = (k ≡ codes "entry") ⊎ (k ≡ codes "no_entry")

abbrev start_syms : List Sym
start_syms = AStart ∷ range_syms

pub no_start : (more : ℕ) (ws : List Token) → AreSyms range_syms more ws
    → AreSyms start_syms more ws
no_start more ws h = ([], ws, refl, (Named (codes "_start"), inl (refl, refl)), h)

start_split : (more : ℕ) (ws front rest : List Token) (s : Start) → ws ≡ front ++ rest
    → IsStart front s → AreSyms range_syms more rest
    → AreSyms range_syms more ws
    ⊎ ((k : List ℕ) × (us : List Token) × (ws ≡ Open ∷ Word k ∷ us) × IsStartKey k)
start_split more ws front rest (Named name) e (inl n) a =
    inl (subst (AreSyms range_syms more) (sym (e ∙ ap (λ us. us ++ rest) n.0)) a)
start_split more ws front rest (Named name) e (inr n) a =
    inr (codes "entry", Word name ∷ Close ∷ rest, e ∙ ap (λ us. us ++ rest) n.0, inl refl)
start_split more ws front rest NoEntry e n a =
    inr (codes "no_entry", Close ∷ rest, e ∙ ap (λ us. us ++ rest) n, inr refl)

start_differs : DiffersAtKeys (AreSyms range_syms) (AreSyms start_syms) IsStartKey
start_differs more ws h = start_split more ws h.0 h.1 h.3.0 h.2 h.3.1 h.4

pub start_absent : (ts : List Placed) (name : List ℕ) → name ≡ codes "_start"
    → ((k : List ℕ) (after : List Placed) → IsOpening ts k after → IsStartKey k → ⊥)
    → IsHeaderPart AStart range_syms (λ ws. IsStart ws (Named name)) ts ts
start_absent ts name is none = record {
  front = [];
  parts = refl;
  value = inl (refl, is);
  leads = λ stop h.
      unless_key (AreSyms range_syms) (AreSyms start_syms) IsStartKey ts stop no_start start_differs
      none range_open
      (codes "freeze") range_freeze no_number_freeze h;
}

entry_front : (more : ℕ) (ws front rest : List Token) (s : Start)
    → Open ∷ Word (codes "entry") ∷ ws ≡ front ++ rest → IsStart front s
    → AreSyms range_syms more rest → AreSyms (AName ∷ It Close ∷ range_syms) more ws
entry_front more ws front rest (Named name) e (inl n) a =
    let q : Open ∷ Word (codes "entry") ∷ ws ≡ rest = e ∙ ap (λ us. us ++ rest) n.0 in
    absurd (no_start_word more (Open ∷ Word (codes "entry") ∷ ws) 1 refl (omega arith) (omega arith)
    (subst (AreSyms range_syms more) (sym q) a))
entry_front more ws front rest (Named name) e (inr n) a =
    let q : Open ∷ Word (codes "entry") ∷ ws ≡ Open ∷ Word (codes "entry") ∷ Word name ∷ Close
    ∷ rest = e ∙ ap (λ us. us ++ rest) n.0 in
    let k : ws ≡ Word name ∷ Close ∷ rest = cc in
    (Word name ∷ [], Close ∷ rest, k, (name, refl, n.1), (Close ∷ [], rest, refl, refl, a))
entry_front more ws front rest NoEntry e n a =
    absurd (omega (arith, ap part_kind (e ∙ ap (λ us. us ++ rest) n)))

entry_lead : (ts after : List Placed) → IsOpening ts (codes "entry") after → (stop : Stop)
    → WhyStops (AreSyms (AName ∷ It Close ∷ range_syms)) after stop
    → WhyStops (AreSyms start_syms) ts stop
entry_lead ts after o stop h =
    opened_lead (AreSyms (AName ∷ It Close ∷ range_syms)) (AreSyms start_syms) (codes "entry") ts
    after stop o
    (λ more ws a.
    let b = a.4 in
    let k : ws ≡ Word a.3.0 ∷ Close ∷ b.1 = a.2 ∙ ap (λ us. us ++ a.1) a.3.1
    ∙ ap (λ us. Word a.3.0 ∷ us) (b.2 ∙ ap (λ us. us ++ b.1) b.3) in (
      Open ∷ Word (codes "entry") ∷ Word a.3.0 ∷ Close ∷ [],
      b.1,
      ap (λ us. Open ∷ Word (codes "entry") ∷ us) k,
      (Named a.3.0, inr (refl, a.3.2)),
      b.4,
    ))
    (λ more ws a. entry_front more ws a.0 a.1 a.3.0 a.2 a.3.1 a.4) h

pub entry_fails : (ts after : List Placed) (stop : Stop) → IsOpening ts (codes "entry") after
    → Fails (AName ∷ It Close ∷ []) after stop
    → WhyStops (AreSyms start_syms) ts stop
entry_fails ts after stop o f =
    entry_lead ts after o stop
    (f.why range_syms (λ more. let b = range_open more in (Open ∷ b.0, b.1)))

pub entry_read : (ts after end : List Placed) (name : List ℕ) → IsOpening ts (codes "entry") after
    → AreRead (AName ∷ It Close ∷ []) (λ ws. (ws ≡ Word name ∷ Close ∷ []) × IsSymName name) after
    end
    → IsHeaderPart AStart range_syms (λ ws. IsStart ws (Named name)) ts end
entry_read ts after end name o r =
    let w = opening_words ts after end r.front (codes "entry") o r.parts in
    record {
      front = w.0;
      parts = w.1;
      value = inr (w.2 ∙ ap (λ us. Open ∷ Word (codes "entry") ∷ us) r.value.0, r.value.1);
      leads = λ stop h. entry_lead ts after o stop (r.leads range_syms stop h);
    }

none_front : (more : ℕ) (ws front rest : List Token) (s : Start)
    → Open ∷ Word (codes "no_entry") ∷ ws ≡ front ++ rest → IsStart front s
    → AreSyms range_syms more rest → AreSyms (It Close ∷ range_syms) more ws
none_front more ws front rest (Named name) e (inl n) a =
    let q : Open ∷ Word (codes "no_entry") ∷ ws ≡ rest = e ∙ ap (λ us. us ++ rest) n.0 in
    absurd (no_start_word more (Open ∷ Word (codes "no_entry") ∷ ws) 2 refl (omega arith)
    (omega arith)
    (subst (AreSyms range_syms more) (sym q) a))
none_front more ws front rest (Named name) e (inr n) a =
    absurd (omega (arith, ap part_kind (e ∙ ap (λ us. us ++ rest) n.0)))
none_front more ws front rest NoEntry e n a =
    let q : Open ∷ Word (codes "no_entry") ∷ ws ≡ Open ∷ Word (codes "no_entry") ∷ Close ∷ rest =
    e ∙ ap (λ us. us ++ rest) n in
    let k : ws ≡ Close ∷ rest = cc in (Close ∷ [], rest, k, refl, a)

none_lead : (ts after : List Placed) → IsOpening ts (codes "no_entry") after → (stop : Stop)
    → WhyStops (AreSyms (It Close ∷ range_syms)) after stop → WhyStops (AreSyms start_syms) ts stop
none_lead ts after o stop h =
    opened_lead (AreSyms (It Close ∷ range_syms)) (AreSyms start_syms) (codes "no_entry") ts after
    stop o
    (λ more ws a. (
      Open ∷ Word (codes "no_entry") ∷ Close ∷ [],
      a.1,
      ap (λ us. Open ∷ Word (codes "no_entry") ∷ us) (a.2 ∙ ap (λ us. us ++ a.1) a.3),
      (NoEntry, refl),
      a.4,
    ))
    (λ more ws a. none_front more ws a.0 a.1 a.3.0 a.2 a.3.1 a.4) h

pub none_fails : (ts after : List Placed) (stop : Stop) → IsOpening ts (codes "no_entry") after
    → Fails (It Close ∷ []) after stop
    → WhyStops (AreSyms start_syms) ts stop
none_fails ts after stop o f =
    none_lead ts after o stop
    (f.why range_syms (λ more. let b = range_open more in (Open ∷ b.0, b.1)))

pub none_read : (ts after end : List Placed) → IsOpening ts (codes "no_entry") after
    → AreRead (It Close ∷ []) (λ ws. ws ≡ Close ∷ []) after end
    → IsHeaderPart AStart range_syms (λ ws. IsStart ws NoEntry) ts end
none_read ts after end o r =
    let w = opening_words ts after end r.front (codes "no_entry") o r.parts in
    record {
      front = w.0;
      parts = w.1;
      value = w.2 ∙ ap (λ us. Open ∷ Word (codes "no_entry") ∷ us) r.value;
      leads = λ stop h. none_lead ts after o stop (r.leads range_syms stop h);
    }
