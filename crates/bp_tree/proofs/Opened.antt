-- Expressions, and what stands behind their first parenthesis.
use Rattle.std.proofs.Common.{◌≡◌, ◌≤◌, ℕ, ◌+◌, List, [], ◌∷◌, ◌++◌, refl, sym, ap, subst, ◌∙◌}
use Rattle.std.proofs.Common.{codes, map, length, append_assoc, arith}
use Rattle.std.proofs.lemmas.List.{append-nil}
use Rattle.omos_base.specs.SymNames.{IsSymName}
use Rattle.omos_model.specs.Names.{Name}
use Rattle.omos_model.specs.Op.{Op, Rename, Restrict, Freeze, Hide, Show, CopyAs}
use Rattle.omos_model.specs.declared.expr.Expr.{Expr}
use Rattle.omos_model.specs.declared.expr.Expr.TheVariants as expr
use Rattle.bp_tree.specs.Tokens.{Token, Open, Close, Word}
use Rattle.bp_tree.specs.Grammar.{IsExpr, IsOpened, Merges, Overrides, Applies, AreExprs, op_words}
use Rattle.bp_tree.specs.Grammar.{IsOp, op_nesting, applied}
use Rattle.bp_tree.specs.inside.Symbols.{Sym, It, AName, AnExpr, AreSyms, behind, keyword}
use Rattle.bp_tree.specs.inside.Symbols.{operator_keyword, arguments, form_nesting, kind_nesting}
use Rattle.bp_tree.specs.declared.form.Form.{Form}
use Rattle.bp_tree.specs.declared.form.Form.TheVariants as form
use Rattle.bp_tree.specs.declared.form.Applied.{Applied}
use Rattle.bp_tree.specs.declared.form.Applied.TheVariants as kind

-- ---- symbols one after the other

pub both : (a b : List Sym) (more : ℕ) (xs ys : List Token) → AreSyms a more xs → AreSyms b more ys
    → AreSyms (a ++ b) more (xs ++ ys)
both [] b more xs ys h k = let P : List Token → Type 0 =
    AreSyms b more in subst P (ap (λ us. us ++ ys) (sym h)) k
both (s ∷ a) b more xs ys h k = (
  h.0,
  h.1 ++ ys,
  ap (λ us. us ++ ys) h.2 ∙ append_assoc h.0 h.1 ys,
  h.3,
  both a b more h.1 ys h.4 k,
)

pub apart : (a b : List Sym) (more : ℕ) (ws : List Token) → AreSyms (a ++ b) more ws
    → (xs : List Token) × (ys : List Token) × (ws ≡ xs ++ ys) × AreSyms a more xs
    × AreSyms b more ys
apart [] b more ws h = ([], ws, refl, refl, h)
apart (s ∷ a) b more ws h =
    let r = apart a b more h.1 h.4 in (
      h.0 ++ r.0,
      r.1,
      h.2 ∙ ap (λ us. h.0 ++ us) r.2 ∙ sym (append_assoc h.0 r.0 r.1),
      (h.0, r.0, refl, h.3, r.3),
      r.4,
    )

-- ---- what stands behind each keyword

-- an operand and the parenthesis
operand : (n : ℕ) (room more : ℕ) (ws : List Token) → AreSyms (AnExpr room ∷ It Close ∷ []) more ws
    → (inner : List Token) × (x : Expr) × (ws ≡ inner ++ Close ∷ []) × IsExpr (room + more) inner x
operand n room more ws h =
    let e : h.1 ≡ Close ∷ [] = h.4.2 ∙ ap (λ us. us ++ h.4.1) h.4.3 ∙ ap (λ us. Close ∷ us) h.4.4 in
    (h.0, h.3.0, h.2 ∙ ap (λ us. h.0 ++ us) e, h.3.1)

operand_is : (room more : ℕ) (inner : List Token) (x : Expr) → IsExpr (room + more) inner x
    → AreSyms (AnExpr room ∷ It Close ∷ []) more (inner ++ Close ∷ [])
operand_is room more inner x is =
    (inner, Close ∷ [], refl, (x, is), (Close ∷ [], [], refl, refl, refl))

flat : (ws f r xs ys : List Token) → ws ≡ f ++ r → f ≡ xs → r ≡ ys → xs ++ ys ≡ ws
flat ws f r xs ys e p q = sym (e ∙ ap (λ us. us ++ r) p ∙ ap (λ us. xs ++ us) q)

one_argument : (more : ℕ) (ws : List Token) → AreSyms (AName ∷ []) more ws
    → (a : Name) × (ws ≡ Word a ∷ []) × IsSymName a
one_argument more ws h = (h.3.0, sym (flat ws h.0 h.1 (Word h.3.0 ∷ []) [] h.2 h.3.1 h.4), h.3.2)

two_arguments : (more : ℕ) (ws : List Token) → AreSyms (AName ∷ AName ∷ []) more ws
    → (a : Name) × (b : Name) × (ws ≡ Word a ∷ Word b ∷ []) × IsSymName a × IsSymName b
two_arguments more ws h =
    let k = one_argument more h.1 h.4 in
    (h.3.0, k.0, sym (flat ws h.0 h.1 (Word h.3.0 ∷ []) (Word k.0 ∷ []) h.2 h.3.1 k.1), h.3.2, k.2)

-- the operator of a kind, from its arguments
args_op : (k : Applied) (more : ℕ) (ws : List Token) → AreSyms (arguments k) more ws
    → (op : Op) × (op_words op ≡ Word (operator_keyword k) ∷ ws) × IsOp op
    × (op_nesting op ≡ kind_nesting k)
args_op kind.Rename more ws h =
    let a = two_arguments more ws h in
    (Rename a.0 a.1, ap (λ us. Word (codes "rename") ∷ us) (sym a.2), (a.3, a.4), refl)
args_op kind.Restrict more ws h =
    let a = one_argument more ws h in
    (Restrict a.0, ap (λ us. Word (codes "restrict") ∷ us) (sym a.1), a.2, refl)
args_op kind.Freeze more ws h =
    let a = one_argument more ws h in
    (Freeze a.0, ap (λ us. Word (codes "freeze") ∷ us) (sym a.1), a.2, refl)
args_op kind.Hide more ws h =
    let a = one_argument more ws h in
    (Hide a.0, ap (λ us. Word (codes "hide") ∷ us) (sym a.1), a.2, refl)
args_op kind.Show more ws h =
    let listed : List Token = map Word h.4.3.0 ++ Close ∷ [] in
    let whole : h.1 ≡ listed =
    sym (flat h.1 h.4.0 h.4.1 listed [] h.4.2 h.4.3.1 h.4.4) ∙ append-nil listed in (
      Show h.4.3.0,
      ap (λ us. Word (codes "show") ∷ us) (flat ws h.0 h.1 (Open ∷ []) listed h.2 h.3 whole),
      h.4.3.2,
      refl,
    )
args_op kind.CopyAs more ws h =
    let a = two_arguments more ws h in
    (CopyAs a.0 a.1, ap (λ us. Word (codes "copy_as") ∷ us) (sym a.2), (a.3, a.4), refl)

is_argument : (more : ℕ) (a : Name) → IsSymName a → AreSyms (AName ∷ []) more (Word a ∷ [])
is_argument more a is = (Word a ∷ [], [], refl, (a, refl, is), refl)

are_arguments : (more : ℕ) (a b : Name) → IsSymName a → IsSymName b
    → AreSyms (AName ∷ AName ∷ []) more (Word a ∷ Word b ∷ [])
are_arguments more a b is is' =
    (Word a ∷ [], Word b ∷ [], refl, (a, refl, is), is_argument more b is')

-- and its arguments
pub op_args : (op : Op) (more : ℕ) → IsOp op
    → (k : Applied) × (ws : List Token) × (op_words op ≡ Word (operator_keyword k) ∷ ws)
    × (op_nesting op ≡ kind_nesting k) × AreSyms (arguments k) more ws
op_args (Rename a b) more is =
    (kind.Rename, Word a ∷ Word b ∷ [], refl, refl, are_arguments more a b is.0 is.1)
op_args (Restrict a) more is = (kind.Restrict, Word a ∷ [], refl, refl, is_argument more a is)
op_args (Freeze a) more is = (kind.Freeze, Word a ∷ [], refl, refl, is_argument more a is)
op_args (Hide a) more is = (kind.Hide, Word a ∷ [], refl, refl, is_argument more a is)
op_args (Show names) more is =
    let list = map Word names ++ Close ∷ [] in (
      kind.Show,
      Open ∷ list,
      refl,
      refl,
      (Open ∷ [], list, refl, refl, (list, [], sym (append-nil list), (names, refl, is), refl)),
    )
op_args (CopyAs a b) more is =
    (kind.CopyAs, Word a ∷ Word b ∷ [], refl, refl, are_arguments more a b is.0 is.1)

-- a merge's tokens, in both groupings
pub regrouped : (f g inner : List Token)
    → f ++ (g ++ (inner ++ Close ∷ [])) ≡ (f ++ (g ++ inner)) ++ Close ∷ []
regrouped f g inner =
    ap (λ us. f ++ us) (sym (append_assoc g inner (Close ∷ [])))
    ∙ sym (append_assoc f (g ++ inner) (Close ∷ []))

pub form_opens : (f : Form) (room more : ℕ) (ws : List Token) → form_nesting f ≤ room + more
    → AreSyms (behind room f) more ws
    → (e : Expr) × IsOpened (room + more) (IsExpr (room + more)) (Open ∷ Word (keyword f) ∷ ws) e
form_opens form.Merge room more ws nest h =
    let g = h.4 in
    let k = g.4 in
    let last : k.0 ++ [] ≡ g.1 = sym (k.2 ∙ ap (λ us. k.0 ++ us) k.4) in
    let tail : g.1 ≡ k.3.0 ++ Close ∷ [] = sym last ∙ append-nil k.0 ∙ k.3.2 in
    let all : ws ≡ h.0 ++ (g.0 ++ (k.3.0 ++ Close ∷ [])) =
    h.2 ∙ ap (λ us. h.0 ++ us) (g.2 ∙ ap (λ us. g.0 ++ us) tail) in (
      expr.Merge (h.3.0 ∷ g.3.0 ∷ k.3.1),
      Merges (h.0 ++ (g.0 ++ k.3.0)) (h.3.0 ∷ g.3.0 ∷ k.3.1)
          (ap (λ us. Open ∷ Word (codes "merge") ∷ us) (all ∙ regrouped h.0 g.0 k.3.0)) refl
          (omega arith)
          (h.0, g.0 ++ k.3.0, refl, h.3.1, (g.0, k.3.0, refl, g.3.1, k.3.3)),
    )
form_opens form.Override room more ws nest h =
    let o = operand 0 room more h.1 h.4 in (
      expr.Override h.3.0 o.1,
      Overrides h.0 o.0 h.3.0 o.1
          (ap (λ us. Open ∷ Word (codes "override") ∷ us) (h.2 ∙ ap (λ us. h.0 ++ us) o.2)) refl
          h.3.1 o.3,
    )
form_opens (form.Apply k) room more ws nest h =
    let r = apart (arguments k) (AnExpr room ∷ It Close ∷ []) more ws h in
    let a = args_op k more r.0 r.3 in
    let o = operand 0 room more r.1 r.4 in
    let fits : op_nesting a.0 ≤ room + more = omega (arith, a.3, nest) in
    let all : Word (operator_keyword k) ∷ ws ≡ op_words a.0 ++ (o.0 ++ Close ∷ []) =
    ap (λ us. Word (operator_keyword k) ∷ us) (r.2 ∙ ap (λ us. r.0 ++ us) o.2)
    ∙ ap (λ us. us ++ (o.0 ++ Close ∷ [])) (sym a.1) in
    (applied a.0 o.1, Applies a.0 o.0 o.1 (ap (λ us. Open ∷ us) all) refl a.2 fits o.3)

two_of : (room more : ℕ) (inner : List Token) (xs : List Expr) → 2 ≤ length xs
    → AreExprs (IsExpr (room + more)) inner xs
    → AreSyms (behind room form.Merge) more (inner ++ Close ∷ [])
two_of room more inner [] two are = absurd (omega arith)
two_of room more inner (x ∷ []) two are = absurd (omega arith)
two_of room more inner (x ∷ y ∷ xs) two are =
    let b = are.4 in (
      are.0,
      are.1 ++ Close ∷ [],
      ap (λ us. us ++ Close ∷ []) are.2 ∙ append_assoc are.0 are.1 (Close ∷ []),
      (x, are.3),
      (
        b.0,
        b.1 ++ Close ∷ [],
        ap (λ us. us ++ Close ∷ []) b.2 ∙ append_assoc b.0 b.1 (Close ∷ []),
        (y, b.3),
        (b.1 ++ Close ∷ [], [], sym (append-nil (b.1 ++ Close ∷ [])), (b.1, xs, refl, b.4), refl),
      ),
    )

pub opened_form : (room more : ℕ) (ws : List Token) (e : Expr)
    → IsOpened (room + more) (IsExpr (room + more)) (Open ∷ ws) e
    → (f : Form) × (body : List Token) × (ws ≡ Word (keyword f) ∷ body)
    × (form_nesting f ≤ room + more)
    × AreSyms (behind room f) more body
opened_form room more ws e (Merges inner xs eq is two are) =
    let k : ws ≡ Word (codes "merge") ∷ (inner ++ Close ∷ []) = cc in
    (form.Merge, inner ++ Close ∷ [], k, omega arith, two_of room more inner xs two are)
opened_form room more ws e (Overrides l r x y eq is px py) =
    let k : ws ≡ Word (codes "override") ∷ (l ++ (r ++ Close ∷ [])) = cc in (
      form.Override,
      l ++ (r ++ Close ∷ []),
      k,
      omega arith,
      (l, r ++ Close ∷ [], refl, (x, px), operand_is room more r y py),
    )
opened_form room more ws e (Applies op inner x eq is isop nest px) =
    let k : ws ≡ op_words op ++ (inner ++ Close ∷ []) = cc in
    let a = op_args op more isop in
    let fits : kind_nesting a.0 ≤ room + more = omega (arith, a.3, nest) in (
      form.Apply a.0,
      a.1 ++ (inner ++ Close ∷ []),
      k ∙ ap (λ us. us ++ (inner ++ Close ∷ [])) a.2,
      fits,
      both (arguments a.0) (AnExpr room ∷ It Close ∷ []) more a.1 (inner ++ Close ∷ []) a.4
          (operand_is room more inner x px),
    )
