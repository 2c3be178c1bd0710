-- Reading an expression in parentheses: its keyword, and what stands behind it.
use Rattle.std.proofs.Common.{◌≡◌, ◌≤◌, ℕ, ◌+◌, cond, List, [], ◌∷◌, ◌++◌, refl, sym, ap}
use Rattle.std.proofs.Common.{subst, ◌∙◌, inl, codes, arith}
use Rattle.omos_model.specs.Names.{same_name}
use Rattle.omos_model.specs.declared.expr.Expr.{Expr}
use Rattle.omos_model.specs.declared.refusal.BpFault.TheVariants.{Shape}
use Rattle.bp_tree.specs.Tokens.{Token, Open, Close, Word, Placed}
use Rattle.bp_tree.specs.Grammar.{IsExpr, IsOpened}
use Rattle.bp_tree.specs.inside.Symbols.{Sym, Inside, AreSyms, behind, keyword}
use Rattle.bp_tree.specs.inside.Symbols.{form_nesting, Fails, AreRead, WhyStops}
use Rattle.bp_tree.specs.declared.form.Form.{Form}
use Rattle.bp_tree.specs.declared.form.Form.TheVariants as form
use Rattle.bp_tree.specs.declared.form.Applied.TheVariants as kind
use Rattle.bp_tree.specs.declared.stop.Stop.{Stop}
use Rattle.bp_tree.specs.declared.stop.Stop.TheVariants.{Early, At}
use Rattle.bp_tree.proofs.Samples.{freeze_a, opened_a}
use Rattle.bp_tree.proofs.Samples.{no_number_freeze}
use Rattle.bp_tree.proofs.Failing.{Sample, IsNeverEmpty, fails_early}
use Rattle.bp_tree.proofs.Failing.{fails_shape, leads_step}
use Rattle.bp_tree.proofs.Opened.{both, apart, form_opens, opened_form}

-- ---- the keyword

abbrev pub form_named : List ℕ → Form
form_named w =
    cond (same_name w (codes "merge")) form.Merge
    (cond (same_name w (codes "override")) form.Override
    (cond (same_name w (codes "rename")) (form.Apply kind.Rename)
    (cond (same_name w (codes "restrict")) (form.Apply kind.Restrict)
    (cond (same_name w (codes "freeze")) (form.Apply kind.Freeze)
    (cond (same_name w (codes "hide")) (form.Apply kind.Hide)
    (cond (same_name w (codes "show")) (form.Apply kind.Show) (form.Apply kind.CopyAs)))))))

named_keyword : (f : Form) → form_named (keyword f) ≡ f
named_keyword form.Merge = refl
named_keyword form.Override = refl
named_keyword (form.Apply kind.Rename) = refl
named_keyword (form.Apply kind.Restrict) = refl
named_keyword (form.Apply kind.Freeze) = refl
named_keyword (form.Apply kind.Hide) = refl
named_keyword (form.Apply kind.Show) = refl
named_keyword (form.Apply kind.CopyAs) = refl

pub same_form : (f g : Form) → keyword f ≡ keyword g → f ≡ g
same_form f g e = sym (named_keyword f) ∙ ap form_named e ∙ named_keyword g

inside_sample : (room : ℕ) → Sample (Inside room)
inside_sample room more = (
  Word (codes "freeze") ∷ Word (97 ∷ []) ∷ Word (47 ∷ 97 ∷ []) ∷ Close ∷ [],
  (freeze_a, opened_a (room + more)),
)

inside_full : (room : ℕ) → IsNeverEmpty (Inside room)
inside_full room more h =
    let o = opened_form room more [] h.0 h.1 in
    let e : [] ≡ Word (keyword o.0) ∷ o.1 = o.2 in cc

pub inside_early : (room : ℕ) (ts : List Placed) → ts ≡ [] → Fails (Inside room ∷ []) ts Early
inside_early room ts e = fails_early (Inside room) ts (inside_sample room) (inside_full room) e

pub inside_shape : (room : ℕ) (ts : List Placed) (t : Placed) (after : List Placed) → ts ≡ t ∷ after
    → ((f : Form) → t.token ≡ Word (keyword f) → form_nesting f ≤ room → ⊥)
    → Fails (Inside room ∷ []) ts (At (Shape t.place))
inside_shape room ts t after e other =
    fails_shape (Inside room) ts t after (inside_sample room) (inside_full room) e
    (λ tail is.
    let o = opened_form room 0 (t.token ∷ tail) is.0 is.1 in
    let eq : t.token ∷ tail ≡ Word (keyword o.0) ∷ o.1 = o.2 in
    let same : t.token ≡ Word (keyword o.0) = cc in other o.0 same (omega (arith, o.3)))
    (λ opens more tail is.
    let o = opened_form room more (Open ∷ tail) is.0 is.1 in
    let eq : Open ∷ tail ≡ Word (keyword o.0) ∷ o.1 = o.2 in cc)
    (inl (
      codes "freeze",
      Word (97 ∷ []) ∷ Word (47 ∷ 97 ∷ []) ∷ Close ∷ [],
      (freeze_a, opened_a (room + 0)),
      no_number_freeze,
    ))

keyword_front : (room more : ℕ) (f : Form) (ws front rest : List Token) (x : Expr)
    → Word (keyword f) ∷ ws ≡ front ++ rest
    → IsOpened (room + more) (IsExpr (room + more)) (Open ∷ front) x
    → (body : List Token) × (ws ≡ body ++ rest) × AreSyms (behind room f) more body
keyword_front room more f ws front rest x e is =
    let o = opened_form room more front x is in
    let eq : Word (keyword f) ∷ ws ≡ Word (keyword o.0) ∷ (o.1 ++ rest) =
    e ∙ ap (λ us. us ++ rest) o.2 in
    let k : keyword f ≡ keyword o.0 = cc in
    let w : ws ≡ o.1 ++ rest = cc in
    (o.1, w, subst (λ g. AreSyms (behind room g) more o.1) (sym (same_form f o.0 k)) o.4)

-- the keyword was read
pub form_lead : (room : ℕ) (f : Form) (ts : List Placed) (t : Placed) (after : List Placed)
    → ts ≡ t ∷ after
    → t.token ≡ Word (keyword f) → form_nesting f ≤ room → (ss : List Sym) (stop : Stop)
    → WhyStops (AreSyms (behind room f ++ ss)) after stop
    → WhyStops (AreSyms (Inside room ∷ ss)) ts stop
form_lead room f ts t after e same nest = leads_step (Inside room ∷ []) (behind room f) t ts after e
    (λ ss more ws a.
    let r = apart (behind room f) ss more ws a in
    let o = form_opens f room more r.0 (omega arith) r.3 in (
      Word (keyword f) ∷ r.0,
      r.1,
      ap (λ u. u ∷ ws) same ∙ ap (λ us. Word (keyword f) ∷ us) r.2,
      o,
      r.4,
    ))
    (λ ss more ws a.
    let k = keyword_front room more f ws a.0 a.1 a.3.0 (ap (λ u. u ∷ ws) (sym same) ∙ a.2) a.3.1 in
    subst (AreSyms (behind room f ++ ss) more) (sym k.1)
    (both (behind room f) ss more k.0 a.1 k.2 a.4))

-- what stands behind the keyword was read, or not
pub form_read : (room : ℕ) (f : Form) (x : Expr) (ts : List Placed) (t : Placed)
    (after end : List Placed) → ts ≡ t ∷ after
    → t.token ≡ Word (keyword f) → form_nesting f ≤ room
    → AreRead (behind room f) (λ ws. IsOpened room (IsExpr room) (Open ∷ Word (keyword f) ∷ ws) x)
    after end
    → AreRead (Inside room ∷ []) (λ ws. IsOpened room (IsExpr room) (Open ∷ ws) x) ts end
form_read room f x ts t after end e same nest h = record {
  front = t ∷ h.front;
  parts = e ∙ ap (λ us. t ∷ us) h.parts;
  value = rw same h.value;
  leads = λ ss stop w. form_lead room f ts t after e same nest ss stop (h.leads ss stop w);
}

pub form_fails : (room : ℕ) (f : Form) (ts : List Placed) (t : Placed) (after : List Placed)
    (stop : Stop) → ts ≡ t ∷ after
    → t.token ≡ Word (keyword f) → form_nesting f ≤ room → Fails (behind room f) after stop
    → Fails (Inside room ∷ []) ts stop
form_fails room f ts t after stop e same nest h = record {
  why = λ ss c. form_lead room f ts t after e same nest ss stop (h.why ss c);
}
