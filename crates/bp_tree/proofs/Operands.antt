-- Operands of a merge, up to the parenthesis.
use Rattle.std.proofs.Common.{◌≡◌, ℕ, ◌+◌, List, [], ◌∷◌, ◌++◌, refl, sym, ap, subst, ◌∙◌}
use Rattle.std.proofs.Common.{append_assoc}
use Rattle.std.proofs.lemmas.List.{append-nil}
use Rattle.omos_base.specs.Paths.{IsPath}
use Rattle.omos_model.specs.declared.expr.Expr.{Expr}
use Rattle.omos_model.specs.declared.expr.Expr.TheVariants as expr
use Rattle.omos_model.specs.declared.refusal.BpFault.TheVariants.{Shape}
use Rattle.bp_tree.specs.Tokens.{Token, Open, Close, Word, Placed}
use Rattle.bp_tree.specs.Texts.{words_of}
use Rattle.bp_tree.specs.Grammar.{IsExpr, AreExprs}
use Rattle.bp_tree.specs.inside.Symbols.{Sym, AnExpr, Exprs, AreSyms, Fails, AreRead, HasGrown}
use Rattle.bp_tree.specs.inside.Symbols.{WhyStops, AreOperands, HasOneMore}
use Rattle.bp_tree.specs.declared.stop.Stop.{Stop}
use Rattle.bp_tree.specs.declared.stop.Stop.TheVariants.{Early, At}
use Rattle.bp_tree.proofs.Failing.{IsNeverEmpty, fails_early, leads_step}
use Rattle.bp_tree.proofs.Expressions.{expr_first, expr_nil, expr_shape, path_read}
use Rattle.bp_tree.proofs.NameLists.{nothing_yet, fails_on, ends, words-append}
use Rattle.bp_tree.proofs.Sequences.{DiffersAtClose, unless_closed}
use Rattle.bp_tree.proofs.Solids.{solid_exprs}

one_more : (P : List Token → Expr → Type 0) (ws f : List Token) (xs : List Expr) (x : Expr)
    → AreExprs P ws xs → P f x → AreExprs P (ws ++ f) (xs ++ x ∷ [])
one_more P ws f [] x e p = (f, [], ap (λ us. us ++ f) e ∙ sym (append-nil f), p, refl)
one_more P ws f (y ∷ ys) x h p = (
  h.0,
  h.1 ++ f,
  ap (λ us. us ++ f) h.2 ∙ append_assoc h.0 h.1 f,
  h.3,
  one_more P h.1 f ys x h.4 p,
)

-- ---- an operand and more of them

joined : (room : ℕ) (ss : List Sym) (more : ℕ) (ws : List Token)
    → AreSyms (AnExpr room ∷ Exprs room ∷ ss) more ws → AreSyms (Exprs room ∷ ss) more ws
joined room ss more ws h =
    let k = h.4 in (
      h.0 ++ k.0,
      k.1,
      h.2 ∙ ap (λ us. h.0 ++ us) k.2 ∙ sym (append_assoc h.0 k.0 k.1),
      (
        h.0 ++ k.3.0,
        h.3.0 ∷ k.3.1,
        ap (λ us. h.0 ++ us) k.3.2 ∙ sym (append_assoc h.0 k.3.0 (Close ∷ [])),
        (h.0, k.3.0, refl, h.3.1, k.3.3),
      ),
      k.4,
    )

first_of_more : (room : ℕ) (ss : List Sym) (more : ℕ) (c : Token) (ws front rest inner : List Token)
    (xs : List Expr)
    → (c ≡ Close → ⊥) → c ∷ ws ≡ front ++ rest → front ≡ inner ++ Close ∷ []
    → AreExprs (IsExpr (room + more)) inner xs
    → AreSyms ss more rest → AreSyms (AnExpr room ∷ Exprs room ∷ ss) more (c ∷ ws)
first_of_more room ss more c ws front rest inner [] other e g are a =
    let k : c ∷ ws ≡ Close ∷ rest =
    e ∙ ap (λ us. us ++ rest) (g ∙ ap (λ us. us ++ Close ∷ []) are) in
    let same : c ≡ Close = cc in absurd (other same)
first_of_more room ss more c ws front rest inner (x ∷ xs) other e g are a = (
  are.0,
  (are.1 ++ Close ∷ []) ++ rest,
  e ∙ ap (λ us. us ++ rest) (g ∙ ap (λ us. us ++ Close ∷ []) are.2
      ∙ append_assoc are.0 are.1 (Close ∷ []))
      ∙ append_assoc are.0 (are.1 ++ Close ∷ []) rest,
  (x, are.3),
  (are.1 ++ Close ∷ [], rest, refl, (are.1, xs, refl, are.4), a),
)

differs : (room : ℕ) (ss : List Sym)
    → DiffersAtClose (AreSyms (AnExpr room ∷ Exprs room ∷ ss)) (AreSyms (Exprs room ∷ ss))
differs room ss more c ws other h =
    first_of_more room ss more c ws h.0 h.1 h.3.0 h.3.1 other h.2 h.3.2 h.3.3 h.4

operand_lead : (room : ℕ) (now : List Placed) (t : Placed) (behind : List Placed) → now ≡ t ∷ behind
    → (t.token ≡ Close → ⊥) → (ss : List Sym) (stop : Stop)
    → WhyStops (AreSyms (AnExpr room ∷ Exprs room ∷ ss)) now stop
    → WhyStops (AreSyms (Exprs room ∷ ss)) now stop
operand_lead room now t behind e other ss stop h =
    unless_closed (AreSyms (AnExpr room ∷ Exprs room ∷ ss)) (AreSyms (Exprs room ∷ ss)) now t behind
    stop e other
    (joined room ss) (differs room ss) h

-- ---- the loop

abbrev pub Grouped : ℕ → List Expr → List Expr → List Token → Type 0
Grouped room given all ws = (xs : List Expr) × AreExprs (IsExpr room) ws xs × (all ≡ given ++ xs)

pub no_operands : (room : ℕ) (given : List Expr) (ts : List Placed)
    → HasGrown (Exprs room) (Grouped room given given) ts ts
no_operands room given ts =
    nothing_yet (Exprs room) (Grouped room given given) ts ([], refl, sym (append-nil given))

exprs_full : (room : ℕ) → IsNeverEmpty (Exprs room)
exprs_full room more ([], xs, e, are) = cc
exprs_full room more (t ∷ ts, xs, e, are) = cc

pub operands_early : (room : ℕ) (given all : List Expr) (ts now : List Placed)
    → HasGrown (Exprs room) (Grouped room given all) ts now → now ≡ []
    → Fails (Exprs room ∷ []) ts Early
operands_early room given all ts now g e =
    fails_on (Exprs room) (Grouped room given all) ts now Early g
    (fails_early (Exprs room) now (λ more. (Close ∷ [], ([], [], refl, refl))) (exprs_full room) e)

pub operand_fails : (room : ℕ) (given all : List Expr) (ts now : List Placed) (t : Placed)
    (behind : List Placed) (stop : Stop)
    → HasGrown (Exprs room) (Grouped room given all) ts now → now ≡ t ∷ behind
    → (t.token ≡ Close → ⊥)
    → Fails (AnExpr room ∷ []) now stop → Fails (Exprs room ∷ []) ts stop
operand_fails room given all ts now t behind stop g e other f = record {
  why = λ ss c.
      g.leads ss stop
      (operand_lead room now t behind e other ss stop
      (f.why (Exprs room ∷ ss) (solid_exprs room ss c)));
}

pub operand_more : (room : ℕ) (given all all' : List Expr) (x : Expr) (ts now : List Placed)
    (t : Placed) (behind after : List Placed)
    → HasGrown (Exprs room) (Grouped room given all) ts now → now ≡ t ∷ behind
    → (t.token ≡ Close → ⊥)
    → AreRead (AnExpr room ∷ []) (λ ws. IsExpr room ws x) now after → all' ≡ all ++ x ∷ []
    → HasGrown (Exprs room) (Grouped room given all') ts after
operand_more room given all all' x ts now t behind after g e other r grown = record {
  front = g.front ++ r.front;
  parts = g.parts ∙ ap (λ us. g.front ++ us) r.parts ∙ sym (append_assoc g.front r.front after);
  value = (
    g.value.0 ++ x ∷ [],
    subst (λ ws. AreExprs (IsExpr room) ws (g.value.0 ++ x ∷ []))
        (sym (words-append g.front r.front))
        (one_more (IsExpr room) (words_of g.front) (words_of r.front) g.value.0 x g.value.1
        r.value),
    grown ∙ ap (λ us. us ++ x ∷ []) g.value.2 ∙ append_assoc given g.value.0 (x ∷ []),
  );
  leads = λ ss stop h. g.leads ss stop
      (operand_lead room now t behind e other ss stop (r.leads (Exprs room ∷ ss) stop h));
}

no_first : (n : ℕ) (ws inner f m rest : List Token) (x : Expr)
    → Close ∷ ws ≡ (inner ++ Close ∷ []) ++ rest
    → inner ≡ f ++ m → IsExpr n f x → ⊥
no_first n ws inner [] m rest x e g is = expr_nil n x is
no_first n ws inner (c ∷ cs) m rest x e g is =
    let k : Close ∷ ws ≡ c ∷ (((cs ++ m) ++ Close ∷ []) ++ rest) =
    e ∙ ap (λ us. (us ++ Close ∷ []) ++ rest) g in
    let same : c ≡ Close = cc in
    expr_first n c cs x is (λ p h _. let q : Close ≡ Word p = sym same ∙ h in cc)
    (λ h _. let q : Close ≡ Open = sym same ∙ h in cc)

closed : (room more : ℕ) (ws front rest inner : List Token) (xs : List Expr)
    → Close ∷ ws ≡ front ++ rest
    → front ≡ inner ++ Close ∷ [] → AreExprs (IsExpr (room + more)) inner xs → rest ≡ ws
closed room more ws front rest inner [] e g are =
    let k : Close ∷ ws ≡ Close ∷ rest =
    e ∙ ap (λ us. us ++ rest) (g ∙ ap (λ us. us ++ Close ∷ []) are) in cc
closed room more ws front rest inner (x ∷ xs) e g are =
    absurd (no_first (room + more) ws inner are.0 are.1 rest x (e ∙ ap (λ us. us ++ rest) g) are.2
    are.3)

exprs_end : (room : ℕ) (ts : List Placed) (t : Placed) (after : List Placed) → ts ≡ t ∷ after
    → t.token ≡ Close → (ss : List Sym) (stop : Stop)
    → WhyStops (AreSyms ss) after stop → WhyStops (AreSyms (Exprs room ∷ ss)) ts stop
exprs_end room ts t after e same = leads_step (Exprs room ∷ []) [] t ts after e
    (λ ss more ws a. (Close ∷ [], ws, ap (λ u. u ∷ ws) same, ([], [], refl, refl), a))
    (λ ss more ws a. subst (AreSyms ss more)
    (closed room more ws a.0 a.1 a.3.0 a.3.1 (ap (λ u. u ∷ ws) (sym same) ∙ a.2) a.3.2 a.3.3)
    a.4)

pub operands_done : (room : ℕ) (given all : List Expr) (ts now after : List Placed) (t : Placed)
    → HasGrown (Exprs room) (Grouped room given all) ts now → now ≡ t ∷ after → t.token ≡ Close
    → AreRead (Exprs room ∷ []) (AreOperands room given all) ts after
operands_done room given all ts now after t g e same =
    ends (Exprs room) (Grouped room given all) (AreOperands room given all) ts now after t g e
    (λ ws v. (ws, v.0, ap (λ u. ws ++ u ∷ []) same, v.1, v.2))
    (exprs_end room now t after e same)

-- ---- an operand that is a path, or another word

pub path_more : (room : ℕ) (given all : List Expr) (w : List ℕ) (ts : List Placed) (t : Placed)
    (after : List Placed)
    → ts ≡ t ∷ after → t.token ≡ Word w → IsPath w → all ≡ given ++ expr.Path w ∷ []
    → HasOneMore room given all ts after
path_more room given all w ts t after e same is grown =
    (expr.Path w, grown, path_read room w ts t after e same is)

pub word_fails : (room : ℕ) (w : List ℕ) (ts : List Placed) (t : Placed) (after : List Placed)
    → ts ≡ t ∷ after
    → t.token ≡ Word w → (IsPath w → ⊥) → Fails (AnExpr room ∷ []) ts (At (Shape t.place))
word_fails room w ts t after e same none =
    expr_shape room ts t after e
    (λ p h is.
    let k : Word p ≡ Word w = sym h ∙ same in
    let n : p ≡ w = cc in none (subst IsPath n is))
    (λ h. let k : Open ≡ Word w = sym h ∙ same in cc)
