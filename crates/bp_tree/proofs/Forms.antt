-- What a form's parts make when they were all read.
use Rattle.std.proofs.Common.{◌≡◌, ◌≤◌, ◌<◌, ℕ, ◌+◌, List, [], ◌∷◌, ◌++◌, refl, sym, ap, subst, ◌∙◌}
use Rattle.std.proofs.Common.{codes, arith, length, take, drop, inl, inr}
use Rattle.std.proofs.lemmas.List.{length-append, take-append-drop}
use Rattle.omos_base.specs.Paths.{IsPath, BeginsPath, HasPathFault}
use Rattle.omos_base.specs.declared.path_name.PathFault.{PathFault}
use Rattle.omos_base.specs.declared.path_name.PathFault.TheVariants as path
use Rattle.omos_model.specs.declared.expr.Expr.{Expr}
use Rattle.omos_model.specs.declared.expr.Expr.TheVariants as expr
use Rattle.bp_tree.specs.Tokens.{Token, Open, Close, Word, Placed}
use Rattle.bp_tree.specs.Texts.{words_of}
use Rattle.bp_tree.specs.Grammar.{IsExpr, AreExprs, IsOpened, Merges, Overrides, Applies, op_words}
use Rattle.bp_tree.specs.Grammar.{applied}
use Rattle.bp_tree.specs.inside.Symbols.{It, AnExpr, Exprs, AreRead, AreOperands, IsOperator}
use Rattle.bp_tree.specs.inside.Symbols.{arguments, operator_keyword, kind_nesting, op_meant}
use Rattle.bp_tree.specs.declared.form.Applied.{Applied}
use Rattle.bp_tree.specs.declared.operator.Operator.{Operator}
use Rattle.bp_tree.proofs.Expressions.{expr_nil}
use Rattle.bp_tree.proofs.Opened.{regrouped}
use Rattle.bp_tree.proofs.Sequences.{then_read}

abbrev pub Said : ℕ → Expr → List Token → Type 0
Said room x ws = IsExpr room ws x

abbrev Closed : ℕ → Expr → List Token → Type 0
Closed room x ws = (inner : List Token) × (ws ≡ inner ++ Close ∷ []) × IsExpr room inner x

closed : (room : ℕ) (x : Expr) (ts a b : List Placed)
    → AreRead (AnExpr room ∷ []) (Said room x) ts a
    → AreRead (It Close ∷ []) (λ ws. ws ≡ Close ∷ []) a b
    → AreRead (AnExpr room ∷ It Close ∷ []) (Closed room x) ts b
closed room x ts a b r q =
    then_read (AnExpr room ∷ []) (It Close ∷ []) (Said room x) (λ ws. ws ≡ Close ∷ [])
    (Closed room x) ts a b r q
    (λ xs ys v w. (xs, ap (λ us. xs ++ us) w, v))

pub applied_done : (room : ℕ) (k : Applied) (op : Operator) (x e : Expr) (ts a b end : List Placed)
    → kind_nesting k ≤ room → AreRead (arguments k) (IsOperator k op) ts a
    → AreRead (AnExpr room ∷ []) (Said room x) a b
    → AreRead (It Close ∷ []) (λ ws. ws ≡ Close ∷ []) b end
    → e ≡ applied (op_meant op) x
    → AreRead (arguments k ++ AnExpr room ∷ It Close ∷ [])
    (λ ws. IsOpened room (IsExpr room) (Open ∷ Word (operator_keyword k) ∷ ws) e) ts end
applied_done room k op x e ts a b end fits r q s is =
    then_read (arguments k) (AnExpr room ∷ It Close ∷ []) (IsOperator k op) (Closed room x)
    (λ ws. IsOpened room (IsExpr room) (Open ∷ Word (operator_keyword k) ∷ ws) e) ts a end r
    (closed room x a b end q s)
    (λ xs ys v w.
    let all : Word (operator_keyword k) ∷ (xs ++ ys)
    ≡ op_words (op_meant op) ++ (w.0 ++ Close ∷ []) =
    ap (λ us. Word (operator_keyword k) ∷ (xs ++ us)) w.1
    ∙ ap (λ us. us ++ (w.0 ++ Close ∷ [])) v.0 in
    Applies (op_meant op) w.0 x (ap (λ us. Open ∷ us) all) is v.1 (omega (arith, v.2)) w.2)

pub overridden_done : (room : ℕ) (x y x' y' : Expr) (ts a b end : List Placed)
    → AreRead (AnExpr room ∷ []) (Said room x) ts a → AreRead (AnExpr room ∷ []) (Said room y) a b
    → AreRead (It Close ∷ []) (λ ws. ws ≡ Close ∷ []) b end → x' ≡ x → y' ≡ y
    → AreRead (AnExpr room ∷ AnExpr room ∷ It Close ∷ [])
    (λ ws. IsOpened room (IsExpr room) (Open ∷ Word (codes "override") ∷ ws) (expr.Override x' y'))
    ts end
overridden_done room x y x' y' ts a b end r q s sx sy =
    then_read (AnExpr room ∷ []) (AnExpr room ∷ It Close ∷ []) (Said room x) (Closed room y)
    (λ ws. IsOpened room (IsExpr room) (Open ∷ Word (codes "override") ∷ ws) (expr.Override x' y'))
    ts a end r (closed room y a b end q s)
    (λ xs ys v w.
    Overrides xs w.0 x' y' (ap (λ us. Open ∷ Word (codes "override") ∷ (xs ++ us)) w.1) refl
    (subst (λ z. IsExpr room xs z) (sym sx) v) (subst (λ z. IsExpr room w.0 z) (sym sy) w.2))

-- an expression, and more up to the parenthesis
abbrev Several : ℕ → List Expr → List Expr → Expr → List Token → Type 0
Several room given all y ws =
    (f : List Token) × (inner : List Token) × (xs : List Expr) × (ws ≡ f ++ (inner ++ Close ∷ []))
    × IsExpr room f y × AreExprs (IsExpr room) inner xs × (all ≡ given ++ xs)

pub merged_done : (room : ℕ) (x y : Expr) (given all : List Expr) (ts a b end : List Placed)
    → AreRead (AnExpr room ∷ []) (Said room x) ts a → AreRead (AnExpr room ∷ []) (Said room y) a b
    → AreRead (Exprs room ∷ []) (AreOperands room given all) b end → given ≡ x ∷ y ∷ []
    → AreRead (AnExpr room ∷ AnExpr room ∷ Exprs room ∷ [])
    (λ ws. IsOpened room (IsExpr room) (Open ∷ Word (codes "merge") ∷ ws) (expr.Merge all)) ts end
merged_done room x y given all ts a b end r q s is =
    then_read (AnExpr room ∷ []) (AnExpr room ∷ Exprs room ∷ []) (Said room x)
    (Several room given all y)
    (λ ws. IsOpened room (IsExpr room) (Open ∷ Word (codes "merge") ∷ ws) (expr.Merge all)) ts a end
    r
    (then_read (AnExpr room ∷ []) (Exprs room ∷ []) (Said room y) (AreOperands room given all)
    (Several room given all y) a b end q s
    (λ xs ys v w. (xs, w.0, w.1, ap (λ us. xs ++ us) w.2, v, w.3, w.4)))
    (λ xs ys v w.
    let all_is : all ≡ x ∷ y ∷ w.2 = w.6 ∙ ap (λ l. l ++ w.2) is in
    Merges (xs ++ (w.0 ++ w.1)) (x ∷ y ∷ w.2)
    (ap (λ us. Open ∷ Word (codes "merge") ∷ us) (ap (λ us. xs ++ us) w.3 ∙ regrouped xs w.0 w.1))
    (ap (λ l. expr.Merge l) all_is) (omega arith)
    (xs, w.0 ++ w.1, refl, v, (w.0, w.1, refl, w.4, w.5)))

-- ---- what was read has tokens

shorter_by : (room : ℕ) (x : Expr) (front ts after : List Placed) → ts ≡ front ++ after
    → IsExpr room (words_of front) x
    → length after < length ts
shorter_by room x [] ts after e is = absurd (expr_nil room x is)
shorter_by room x (t ∷ front) ts after e is = rw e (omega (arith, length-append front after))

pub shorter : (room : ℕ) (x : Expr) (ts after : List Placed)
    → AreRead (AnExpr room ∷ []) (Said room x) ts after
    → length after < length ts
shorter room x ts after r = shorter_by room x r.front ts after r.parts r.value

-- ---- bytes with a fault are no path

begun : (bytes : List ℕ) (n : ℕ) → IsPath bytes → BeginsPath (take n bytes)
begun bytes n is = let P : List ℕ → Type 0 =
    IsPath in (drop n bytes, subst P (sym (take-append-drop n bytes)) is)

pub no_path : (bytes : List ℕ) (fault : PathFault) → HasPathFault bytes fault → IsPath bytes → ⊥
no_path bytes path.Long h is = omega (arith, is.3)
no_path bytes (path.Shape place) h is =
    elim h.1 [ inl s ↦ s.1 (begun bytes (place + 1) is) | inr s ↦ s.2 is ]
