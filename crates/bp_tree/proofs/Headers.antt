-- The words of an image's head, and its range, which may be left out.
use Rattle.std.proofs.Common.{get_or, ◌≤◌, ◌≡◌, ℕ, ◌+◌, List, [], ◌∷◌, ◌++◌, refl, sym, ap, subst}
use Rattle.std.proofs.Common.{◌∙◌, ◌⊎◌, inl, inr, codes, arith, cond}
use Rattle.omos_model.specs.Names.{Name, same_name}
use Rattle.omos_model.specs.declared.expr.Expr.{Expr}
use Rattle.bp_tree.specs.Tokens.{Token, Open, Close, Word, Barred, Placed}
use Rattle.bp_tree.specs.Texts.{words_of}
use Rattle.bp_tree.specs.TextFaults.{Language, Begins}
use Rattle.bp_tree.specs.Grammar.{IsExpr, IsOpened, IsRange}
use Rattle.bp_tree.specs.inside.Symbols.{ARange, Low, AreSyms, keyword}
use Rattle.bp_tree.specs.inside.Symbols.{Completable, Fails, AreRead, WhyStops}
use Rattle.bp_tree.specs.inside.Header.{IsOpening, IsHeaderPart, body_syms, range_syms, AreBounds}
use Rattle.bp_tree.specs.declared.form.Form.{Form}
use Rattle.bp_tree.specs.declared.form.Form.TheVariants as form
use Rattle.bp_tree.specs.declared.form.Applied.TheVariants as kind
use Rattle.bp_tree.specs.declared.stop.Stop.{Stop}
use Rattle.bp_tree.proofs.Expressions.{opened_head}
use Rattle.bp_tree.proofs.Moves.{step}
use Rattle.bp_tree.proofs.Opened.{opened_form}
use Rattle.bp_tree.proofs.Optional.{DiffersAtKeys, unless_key}
use Rattle.bp_tree.proofs.Samples.{expr_cases, opened_is_expr, opened_a, freeze_a, no_number_freeze}
use Rattle.bp_tree.proofs.Solids.{solid_end}

-- ---- two tokens taken

pub opened_lead : (K L : Language) (k : List ℕ) (ts after : List Placed) (stop : Stop)
    → IsOpening ts k after
    → ((more : ℕ) (ws : List Token) → K more ws → L more (Open ∷ Word k ∷ ws))
    → ((more : ℕ) (ws : List Token) → L more (Open ∷ Word k ∷ ws) → K more ws)
    → WhyStops K after stop → WhyStops L ts stop
opened_lead K L k ts after stop o there back h =
    let a = o.0 in
    let b = o.1 in
    let P : List Placed → Type 0 = λ us. WhyStops L us stop in
    let middle : Language = λ more ws. L more (a.token ∷ ws) in
    subst P (sym o.2) (step middle L a (b ∷ after) stop (λ more ws l. l) (λ more ws l. l)
    (step K middle b after stop
    (λ more ws x. rw (o.3, o.4) (there more ws x))
    (λ more ws x. back more ws (rw (o.3, o.4) at x)) h))

-- ---- the word behind a parenthesis

opened_word : (n : ℕ) (ws : List Token) (e : Expr) → IsOpened n (IsExpr n) (Open ∷ ws) e
    → (f : Form) × (body : List Token) × (ws ≡ Word (keyword f) ∷ body)
opened_word n ws e is =
    let P : ℕ → Type 0 = λ m. IsOpened m (IsExpr m) (Open ∷ ws) e in
    let o = opened_form n 0 ws e (subst P (omega arith) is) in (o.0, o.1, o.2)

-- which word of a header it is, or none
abbrev header_kind : List ℕ → ℕ
header_kind w =
    cond (same_name w (codes "entry")) 1
    (cond (same_name w (codes "no_entry")) 2 (cond (same_name w (codes "range")) 3 0))

form_kind : (f : Form) → header_kind (keyword f) ≡ 0
form_kind form.Merge = refl
form_kind form.Override = refl
form_kind (form.Apply kind.Rename) = refl
form_kind (form.Apply kind.Restrict) = refl
form_kind (form.Apply kind.Freeze) = refl
form_kind (form.Apply kind.Hide) = refl
form_kind (form.Apply kind.Show) = refl
form_kind (form.Apply kind.CopyAs) = refl

abbrev pub word_in : Token → Name
word_in Open = []
word_in Close = []
word_in (Word w) = w
word_in (Barred b) = []

-- which part of a head begins here, or none
abbrev pub part_in : Token → Token → ℕ
part_in Open t = header_kind (word_in t)
part_in Close t = 0
part_in (Word w) t = 0
part_in (Barred b) t = 0

abbrev pub part_kind : List Token → ℕ
part_kind ts = part_in (get_or ts 0 Close) (get_or ts 1 Close)

pub expr_kind : (n : ℕ) (ts : List Token) (e : Expr) (r : List Token) → IsExpr n ts e
    → part_kind (ts ++ r) ≡ 0
expr_kind n ts e r h =
    elim (expr_cases n ts e h) [
      | inl p ↦ ap (λ us. part_kind (us ++ r)) p.1
      | inr o ↦
          let k = opened_head o.0 (IsExpr o.0) ts e o.2 in
          let P : List Token → Type 0 = λ us. IsOpened o.0 (IsExpr o.0) us e in
          let w = opened_word o.0 k.0 e (subst P k.1 o.2) in
          ap (λ us. part_kind (us ++ r)) (k.1 ∙ ap (λ us. Open ∷ us) w.2) ∙ form_kind w.0
    ]

pub range_kind : (ts : List Token) (lo hi : ℕ) (r : List Token) → IsRange ts lo hi → part_kind r ≡ 0
    → (part_kind (ts ++ r) ≡ 0) ⊎ (part_kind (ts ++ r) ≡ 3)
range_kind ts lo hi r (inl n) e = inl (ap (λ us. part_kind (us ++ r)) n.0 ∙ e)
range_kind ts lo hi r (inr w) e = inr (ap (λ us. part_kind (us ++ r)) w.2)

body_kind : (more : ℕ) (ws : List Token) → AreSyms body_syms more ws → part_kind ws ≡ 0
body_kind more ws h = ap part_kind h.2 ∙ expr_kind (63 + more) h.0 h.3.0 h.1 h.3.1

-- no start stands where a range or an expression does
pub no_start_word : (more : ℕ) (ws : List Token) (n : ℕ) → part_kind ws ≡ n → 1 ≤ n → n ≤ 2
    → AreSyms range_syms more ws → ⊥
no_start_word more ws n is low high h =
    elim (range_kind h.0 h.3.0 h.3.1 h.1 h.3.2 (body_kind more h.1 h.4)) [
      | inl z ↦ omega (arith, ap part_kind h.2)
      | inr t ↦ omega (arith, ap part_kind h.2)
    ]

-- ---- an expression may begin here

abbrev sample : List Token
sample = Word (codes "freeze") ∷ Word (97 ∷ []) ∷ Word (47 ∷ 97 ∷ []) ∷ Close ∷ []

done : Completable []
done more = ([], refl)

body_opens : (more : ℕ) → (rest : List Token) × AreSyms body_syms more (Open ∷ (sample ++ rest))
body_opens more =
    let n : 62 + more + 1 ≡ 63 + more = omega arith in
    let n' : IsExpr (63 + more) (Open ∷ sample) freeze_a =
    subst (λ m. IsExpr m (Open ∷ sample) freeze_a) (omega arith)
    (opened_is_expr (62 + more) (Open ∷ sample) freeze_a (opened_a (62 + more))) in (
      Close ∷ [],
      (Open ∷ sample, Close ∷ [], refl, (freeze_a, n'), (Close ∷ [], [], refl, refl, refl)),
    )

body_open : (more : ℕ) → Begins (AreSyms body_syms) more (Open ∷ [])
body_open more = let b = body_opens more in (sample ++ b.0, b.1)

body_freeze : Begins (AreSyms body_syms) 0 (Open ∷ Word (codes "freeze") ∷ [])
body_freeze = let b = body_opens 0 in (Word (97 ∷ []) ∷ Word (47 ∷ 97 ∷ []) ∷ Close ∷ b.0, b.1)

no_range : (more : ℕ) (ws : List Token) → AreSyms body_syms more ws → AreSyms range_syms more ws
no_range more ws h = ([], ws, refl, (4194304, 1073741824, inl (refl, refl, refl)), h)

pub range_open : (more : ℕ) → Begins (AreSyms range_syms) more (Open ∷ [])
range_open more = let b = body_open more in (b.0, no_range more (Open ∷ b.0) b.1)

pub range_freeze : Begins (AreSyms range_syms) 0 (Open ∷ Word (codes "freeze") ∷ [])
range_freeze = let b = body_freeze in (b.0, no_range 0 (Open ∷ Word (codes "freeze") ∷ b.0) b.1)

-- ---- the range

abbrev IsRangeKey : List ℕ → Type 0
IsRangeKey k = k ≡ codes "range"

range_differs : DiffersAtKeys (AreSyms body_syms) (AreSyms range_syms) IsRangeKey
range_differs more ws h =
    elim h.3.2 [
      | inl n ↦ inl (subst (AreSyms body_syms more) (sym (h.2 ∙ ap (λ us. us ++ h.1) n.0)) h.4)
      | inr r ↦ inr (
        codes "range",
        Word r.0 ∷ Word r.1 ∷ Close ∷ h.1,
        h.2
            ∙ ap (λ us. us ++ h.1) r.2,
        refl,
      )
    ]

pub range_absent : (ts : List Placed)
    → ((after : List Placed) → IsOpening ts (codes "range") after → ⊥)
    → IsHeaderPart ARange body_syms (λ ws. IsRange ws 4194304 1073741824) ts ts
range_absent ts none = record {
  front = [];
  parts = refl;
  value = inl (refl, refl, refl);
  leads = λ stop h.
      unless_key (AreSyms body_syms) (AreSyms range_syms) IsRangeKey ts stop no_range range_differs
      (λ k after o is. let P : List ℕ
      → Type 0 = λ u. IsOpening ts u after in none after (subst P is o)) body_open
      (codes "freeze") body_freeze no_number_freeze h;
}

range_lead : (ts after : List Placed) → IsOpening ts (codes "range") after → (stop : Stop)
    → WhyStops (AreSyms (Low ∷ body_syms)) after stop → WhyStops (AreSyms range_syms) ts stop
range_lead ts after o stop h =
    opened_lead (AreSyms (Low ∷ body_syms)) (AreSyms range_syms) (codes "range") ts after stop o
    (λ more ws a.
    let l = a.3 in (
      Open ∷ Word (codes "range") ∷ a.0,
      a.1,
      ap (λ us. Open ∷ Word (codes "range") ∷ us) a.2,
      (l.2, l.3, inr (l.0, l.1, ap (λ us. Open ∷ Word (codes "range") ∷ us) l.4, l.5, l.6, l.7)),
      a.4,
    ))
    (λ more ws a.
    elim a.3.2 [
      | inl n ↦
          let q : Open ∷ Word (codes "range") ∷ ws ≡ a.1 = a.2 ∙ ap (λ us. us ++ a.1) n.0 in
          let z : 3 ≡ 0 = body_kind more (Open ∷ Word (codes "range") ∷ ws)
          (subst (AreSyms body_syms more) (sym q) a.4) in
          absurd (omega arith)
      | inr r ↦
          let q : Open ∷ Word (codes "range") ∷ ws ≡ Open ∷ Word (codes "range") ∷ Word r.0
          ∷ Word r.1 ∷ Close ∷ a.1 = a.2 ∙ ap (λ us. us ++ a.1) r.2 in
          let k : ws ≡ Word r.0 ∷ Word r.1 ∷ Close ∷ a.1 = cc in (
            Word r.0 ∷ Word r.1 ∷ Close ∷ [],
            a.1,
            k,
            (r.0, r.1, a.3.0, a.3.1, refl, r.3, r.4, r.5),
            a.4,
          )
    ]) h

pub range_fails : (ts after : List Placed) (stop : Stop) → IsOpening ts (codes "range") after
    → Fails (Low ∷ []) after stop
    → WhyStops (AreSyms range_syms) ts stop
range_fails ts after stop o f = range_lead ts after o stop (f.why body_syms (solid_end 63 [] done))

pub opening_words : (ts after end front : List Placed) (k : List ℕ) → IsOpening ts k after
    → after ≡ front ++ end
    → (whole : List Placed) × (ts ≡ whole ++ end)
    × (words_of whole ≡ Open ∷ Word k ∷ words_of front)
opening_words ts after end front k o e = (
  o.0 ∷ o.1 ∷ front,
  o.2 ∙ ap (λ us. o.0 ∷ o.1 ∷ us) e,
  ap (λ u. u ∷ o.1.token ∷ words_of front) o.3 ∙ ap (λ u. Open ∷ u ∷ words_of front) o.4,
)

pub range_read : (ts after end : List Placed) (lo hi : ℕ) → IsOpening ts (codes "range") after
    → AreRead (Low ∷ []) (AreBounds lo hi) after end
    → IsHeaderPart ARange body_syms (λ ws. IsRange ws lo hi) ts end
range_read ts after end lo hi o r =
    let w = opening_words ts after end r.front (codes "range") o r.parts in
    let v = r.value in
    record {
      front = w.0;
      parts = w.1;
      value = inr (v.0, v.1, w.2 ∙ ap (λ us. Open ∷ Word (codes "range") ∷ us) v.2, v.3, v.4, v.5);
      leads = λ stop h. range_lead ts after o stop (r.leads body_syms stop h);
    }

-- the openings that do not count
pub one_opening : (ts after after' : List Placed) (k k' : List ℕ) → IsOpening ts k after
    → IsOpening ts k' after' → k ≡ k'
one_opening ts after after' k k' o p =
    let q : o.0 ∷ o.1 ∷ after ≡ p.0 ∷ p.1 ∷ after' = sym o.2 ∙ p.2 in
    let same : o.1 ≡ p.1 = cc in
    let w : Word k ≡ Word k' = sym o.4 ∙ ap (λ t. t.token) same ∙ p.4 in cc

pub opens_with : (ts after : List Placed) (k k' : List ℕ) → k ≡ k' → IsOpening ts k after
    → IsOpening ts k' after
opens_with ts after k k' e o = let P : List ℕ → Type 0 = λ w. IsOpening ts w after in subst P e o
