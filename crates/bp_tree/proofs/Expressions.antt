-- Reading an expression: its first token.
use Rattle.std.proofs.Common.{◌≡◌, ◌≤◌, ℕ, suc, ◌+◌, List, [], ◌∷◌, ◌++◌, refl, sym, ap}
use Rattle.std.proofs.Common.{subst, ◌∙◌, inl, inr, codes, arith}
use Rattle.omos_base.specs.Paths.{IsPath}
use Rattle.omos_model.specs.declared.expr.Expr.{Expr}
use Rattle.omos_model.specs.declared.expr.Expr.TheVariants as expr
use Rattle.omos_model.specs.declared.refusal.BpFault.TheVariants.{Shape, Deep}
use Rattle.bp_tree.specs.Tokens.{Token, Open, Close, Word, Placed}
use Rattle.bp_tree.specs.Grammar.{IsExpr, IsOpened, Merges, Overrides, Applies, op_words}
use Rattle.bp_tree.specs.Texts.{words_of}
use Rattle.bp_tree.specs.inside.Symbols.{Sym, AnExpr, Inside, AreSyms}
use Rattle.bp_tree.specs.inside.Symbols.{Fails, AreRead, WhyStops}
use Rattle.bp_tree.specs.declared.stop.Stop.{Stop}
use Rattle.bp_tree.specs.declared.stop.Stop.TheVariants.{Early, At}
use Rattle.bp_tree.proofs.Samples.{expr_a, freeze_a, opened_a, path_is_expr, opened_is_expr}
use Rattle.bp_tree.proofs.Samples.{expr_cases, no_number_path}
use Rattle.bp_tree.proofs.Failing.{Sample, IsNeverEmpty, begins_with, fails_early, fails_at}
use Rattle.bp_tree.proofs.Failing.{fails_shape, leads_step}

-- ---- the first token

pub opened_head : (n : ℕ) (P : List Token → Expr → Type 0) (ts : List Token) (e : Expr)
    → IsOpened n P ts e
    → (ws : List Token) × (ts ≡ Open ∷ ws)
opened_head n P ts e (Merges inner xs eq is two are) =
    (Word (codes "merge") ∷ (inner ++ Close ∷ []), eq)
opened_head n P ts e (Overrides l r x y eq is px py) =
    (Word (codes "override") ∷ (l ++ (r ++ Close ∷ [])), eq)
opened_head n P ts e (Applies op inner x eq is isop nest px) =
    (op_words op ++ (inner ++ Close ∷ []), eq)

expr_sample : (room : ℕ) → Sample (AnExpr room)
expr_sample room more = (Word (47 ∷ 97 ∷ []) ∷ [], (expr.Path (47 ∷ 97 ∷ []), expr_a (room + more)))

pub expr_full : (room : ℕ) → IsNeverEmpty (AnExpr room)
expr_full room more h =
    elim (expr_cases (room + more) [] h.0 h.1) [
      | inl p ↦ let e : [] ≡ Word p.0 ∷ [] = p.1 in cc
      | inr o ↦
          let k = opened_head o.0 (IsExpr o.0) [] h.0 o.2 in
          let e : [] ≡ Open ∷ k.0 = k.1 in cc
    ]

pub expr_early : (room : ℕ) (ts : List Placed) → ts ≡ [] → Fails (AnExpr room ∷ []) ts Early
expr_early room ts e = fails_early (AnExpr room) ts (expr_sample room) (expr_full room) e

pub expr_first : (n : ℕ) (t : Token) (tail : List Token) (x : Expr) → IsExpr n (t ∷ tail) x
    → ((p : List ℕ) → t ≡ Word p → IsPath p → ⊥) → (t ≡ Open → 1 ≤ n → ⊥) → ⊥
expr_first n t tail x is path opens =
    elim (expr_cases n (t ∷ tail) x is) [
      | inl p ↦
          let e : t ∷ tail ≡ Word p.0 ∷ [] = p.1 in
          let same : t ≡ Word p.0 = cc in path p.0 same p.3
      | inr o ↦
          let k = opened_head o.0 (IsExpr o.0) (t ∷ tail) x o.2 in
          let e : t ∷ tail ≡ Open ∷ k.0 = k.1 in
          let same : t ≡ Open = cc in opens same (omega (arith, o.1))
    ]

pub expr_shape : (room : ℕ) (ts : List Placed) (t : Placed) (after : List Placed) → ts ≡ t ∷ after
    → ((p : List ℕ) → t.token ≡ Word p → IsPath p → ⊥) → (t.token ≡ Open → ⊥)
    → Fails (AnExpr room ∷ []) ts (At (Shape t.place))
expr_shape room ts t after e path opens =
    fails_shape (AnExpr room) ts t after (expr_sample room) (expr_full room) e
    (λ tail is. expr_first (room + 0) t.token tail is.0 is.1 path (λ h _. opens h))
    (λ h more tail is. opens h)
    (inl (47 ∷ 97 ∷ [], [], (expr.Path (47 ∷ 97 ∷ []), expr_a (room + 0)), no_number_path))

-- there is no room for one more parenthesis
pub expr_deep : (room : ℕ) (ts : List Placed) (t : Placed) (after : List Placed) → ts ≡ t ∷ after
    → t.token ≡ Open → room ≡ 0 → Fails (AnExpr room ∷ []) ts (At (Deep t.place))
expr_deep room ts t after e opens none =
    let tail = Word (codes "freeze") ∷ Word (97 ∷ []) ∷ Word (47 ∷ 97 ∷ []) ∷ Close ∷ [] in
    let one : room + 1 ≡ suc 0 = omega arith in
    let deeper : IsExpr (room + 1) (Open ∷ tail) freeze_a =
    subst (λ n. IsExpr n (Open ∷ tail) freeze_a) (sym one)
    (opened_is_expr 0 (Open ∷ tail) freeze_a (opened_a 0)) in
    fails_at (AnExpr room) ts t after (Deep t.place) (expr_sample room) e (expr_full room)
    (λ w is. expr_first (room + 0) t.token w is.0 is.1 (λ p h _. let k : Open ≡ Word p = sym opens
    ∙ h in cc) (λ _ n. omega arith))
    (λ ss c. (
      refl,
      (opens, (1, rw opens (begins_with (AnExpr room) ss Open tail 1 (freeze_a, deeper) c))),
    ))

path_front : (n : ℕ) (p : List ℕ) (ws front rest : List Token) (x : Expr)
    → Word p ∷ ws ≡ front ++ rest
    → IsExpr n front x → rest ≡ ws
path_front n p ws front rest x e is =
    elim (expr_cases n front x is) [
      | inl q ↦
          let k : Word p ∷ ws ≡ Word q.0 ∷ rest = e ∙ ap (λ us. us ++ rest) q.1 in cc
      | inr o ↦
          let h = opened_head o.0 (IsExpr o.0) front x o.2 in
          let k : Word p ∷ ws ≡ Open ∷ (h.0 ++ rest) = e ∙ ap (λ us. us ++ rest) h.1 in absurd cc
    ]

pub path_read : (room : ℕ) (p : List ℕ) (ts : List Placed) (t : Placed) (after : List Placed)
    → ts ≡ t ∷ after
    → t.token ≡ Word p → IsPath p
    → AreRead (AnExpr room ∷ []) (λ ws. IsExpr room ws (expr.Path p)) ts after
path_read room p ts t after e same is = record {
  front = t ∷ [];
  parts = e;
  value = path_is_expr room (t.token ∷ []) (expr.Path p) (p, ap (λ u. u ∷ []) same, refl, is);
  leads = leads_step (AnExpr room ∷ []) [] t ts after e
      (λ ss more ws a. (
        Word p ∷ [],
        ws,
        ap (λ u. u ∷ ws) same,
        (expr.Path p, path_is_expr (room + more) (Word p ∷ []) (expr.Path p) (p, refl, refl, is)),
        a,
      ))
      (λ ss more ws a. subst (AreSyms ss more)
      (path_front (room + more) p ws a.0 a.1 a.3.0 (ap (λ u. u ∷ ws) (sym same) ∙ a.2) a.3.1)
      a.4);
}

open_front : (room r more : ℕ) (ws front rest : List Token) (x : Expr) → room ≡ suc r
    → Open ∷ ws ≡ front ++ rest
    → IsExpr (room + more) front x
    → (inner : List Token) × (ws ≡ inner ++ rest)
    × IsOpened (r + more) (IsExpr (r + more)) (Open ∷ inner) x
open_front room r more ws front rest x is_suc e is =
    elim (expr_cases (room + more) front x is) [
      | inl q ↦
          let k : Open ∷ ws ≡ Word q.0 ∷ rest = e ∙ ap (λ us. us ++ rest) q.1 in absurd cc
      | inr o ↦
          let h = opened_head o.0 (IsExpr o.0) front x o.2 in
          let k : Open ∷ ws ≡ Open ∷ (h.0 ++ rest) = e ∙ ap (λ us. us ++ rest) h.1 in
          let w : ws ≡ h.0 ++ rest = cc in
          let n : o.0 ≡ r + more = omega (arith, o.1) in (
            h.0,
            w,
            subst (λ m. IsOpened m (IsExpr m) (Open ∷ h.0) x) n
                (subst (λ us. IsOpened o.0 (IsExpr o.0) us x) h.1 o.2),
          )
    ]

pub open_lead : (room r : ℕ) (ts : List Placed) (t : Placed) (after : List Placed) → ts ≡ t ∷ after
    → t.token ≡ Open → room ≡ suc r → (ss : List Sym) (stop : Stop)
    → WhyStops (AreSyms (Inside r ∷ ss)) after stop → WhyStops (AreSyms (AnExpr room ∷ ss)) ts stop
open_lead room r ts t after e same is_suc =
    leads_step (AnExpr room ∷ []) (Inside r ∷ []) t ts after e
    (λ ss more ws a.
    let n : suc (r + more) ≡ room + more = omega arith in (
      Open ∷ a.0,
      a.1,
      ap (λ u. u ∷ ws) same ∙ ap (λ us. Open ∷ us) a.2,
      (
        a.3.0,
        subst (λ m. IsExpr m (Open ∷ a.0) a.3.0) n
            (opened_is_expr (r + more) (Open ∷ a.0) a.3.0 a.3.1),
      ),
      a.4,
    ))
    (λ ss more ws a.
    let k = open_front room r more ws a.0 a.1 a.3.0 is_suc (ap (λ u. u ∷ ws) (sym same) ∙ a.2)
    a.3.1 in
    (k.0, a.1, k.1, (a.3.0, k.2), a.4))

-- an expression in parentheses
pub opened_read : (room r : ℕ) (x : Expr) (ts : List Placed) (t : Placed) (after end : List Placed)
    → ts ≡ t ∷ after
    → t.token ≡ Open → room ≡ suc r
    → AreRead (Inside r ∷ []) (λ ws. IsOpened r (IsExpr r) (Open ∷ ws) x) after end
    → AreRead (AnExpr room ∷ []) (λ ws. IsExpr room ws x) ts end
opened_read room r x ts t after end e same is_suc h = record {
  front = t ∷ h.front;
  parts = e ∙ ap (λ us. t ∷ us) h.parts;
  value = rw same
      (subst (λ n. IsExpr n (Open ∷ words_of h.front) x) (sym is_suc)
      (opened_is_expr r (Open ∷ words_of h.front) x h.value));
  leads = λ ss stop w. open_lead room r ts t after e same is_suc ss stop (h.leads ss stop w);
}

pub opened_fails : (room r : ℕ) (ts : List Placed) (t : Placed) (after : List Placed) (stop : Stop)
    → ts ≡ t ∷ after
    → t.token ≡ Open → room ≡ suc r → Fails (Inside r ∷ []) after stop
    → Fails (AnExpr room ∷ []) ts stop
opened_fails room r ts t after stop e same is_suc f = record {
  why = λ ss c. open_lead room r ts t after e same is_suc ss stop (f.why ss c);
}

pub expr_nil : (n : ℕ) (x : Expr) → IsExpr n [] x → ⊥
expr_nil n x is =
    elim (expr_cases n [] x is) [
      | inl p ↦ let e : [] ≡ Word p.0 ∷ [] = p.1 in cc
      | inr o ↦
          let k = opened_head o.0 (IsExpr o.0) [] x o.2 in
          let e : [] ≡ Open ∷ k.0 = k.1 in cc
    ]
