-- What a text says is a blueprint: its merges have two operands, and it nests as deep as it may.
use Rattle.std.proofs.Common.{◌≡◌, ◌≤◌, ℕ, zero, suc, ◌+◌, Bool, true, ◌&&◌, nat_le, max, fold, map}
use Rattle.std.proofs.Common.{List, [], ◌∷◌, refl, sym, ap, subst, ◌∙◌, inl, inr, arith, length}
use Rattle.std.specs.List.{list_all}
use Rattle.omos_model.specs.Names.{Name}
use Rattle.omos_model.specs.Op.{Op, Rename, Restrict, Freeze, Hide, Show, CopyAs}
use Rattle.omos_model.specs.ImageParts.{formed_layer, is_formed, nesting_layer, nesting}
use Rattle.omos_model.specs.declared.expr.Expr.{Expr}
use Rattle.omos_model.specs.declared.expr.Expr.TheVariants as expr
use Rattle.bp_tree.specs.Tokens.{Token}
use Rattle.bp_tree.specs.Grammar.{IsExpr, IsPathOf, IsOpened, Merges, Overrides, Applies, AreExprs}
use Rattle.bp_tree.specs.Grammar.{op_nesting, applied}
use Rattle.bp_tree.specs.Named.{paths_layer}
use Rattle.bp_tree.proofs.Layers.{op_layer, fold_path, fold_merge, fold_override, fold_applied}

abbrev pub IsFit : ℕ → Expr → Type 0
IsFit n e = (is_formed e ≡ true) × (nesting e ≤ n)

path_fits : (n : ℕ) (ts : List Token) (e : Expr) → IsPathOf ts e → IsFit n e
path_fits n ts e h =
    let p : List ℕ = h.0 in
    let f : is_formed (expr.Path p) ≡ true = fold_path formed_layer p in
    let d : nesting (expr.Path p) ≡ 0 = fold_path nesting_layer p in
    (ap is_formed h.2 ∙ f, omega (arith, ap nesting h.2, d))

all_formed : (P : List Token → Expr → Type 0) (n : ℕ)
    → ((ts : List Token) (x : Expr) → P ts x → IsFit n x)
    → (ts : List Token) (xs : List Expr) → AreExprs P ts xs
    → list_all (λ x. x) (map is_formed xs) ≡ true
all_formed P n fits ts [] are = refl
all_formed P n fits ts (x ∷ xs) are =
    let h : is_formed x ≡ true = (fits are.0 x are.3).0 in
    let k : list_all (λ b. b) (map is_formed xs) ≡ true = all_formed P n fits are.1 xs are.4 in
    rw (h, k) refl

all_low : (P : List Token → Expr → Type 0) (n : ℕ)
    → ((ts : List Token) (x : Expr) → P ts x → IsFit n x)
    → (ts : List Token) (xs : List Expr) (m : ℕ) → m ≤ n → AreExprs P ts xs
    → fold max m (map nesting xs) ≤ n
all_low P n fits ts [] m low are = low
all_low P n fits ts (x ∷ xs) m low are =
    let h : nesting x ≤ n = (fits are.0 x are.3).1 in
    all_low P n fits are.1 xs (max m (nesting x)) (omega (arith, h, low)) are.4

pub formed_count : (xs : List Expr) → length (map is_formed xs) ≡ length xs
formed_count [] = refl
formed_count (x ∷ xs) = omega (arith, formed_count xs)

merge_fits : (n : ℕ) (xs : List Expr) → 2 ≤ length xs → list_all (λ x. x) (map is_formed xs) ≡ true
    → fold max 0 (map nesting xs) ≤ n → IsFit (suc n) (expr.Merge xs)
merge_fits n xs two all low =
    let f : is_formed (expr.Merge xs)
    ≡ (nat_le 2 (length (map is_formed xs)) && list_all (λ x. x) (map is_formed xs)) =
    fold_merge formed_layer xs in
    let d : nesting (expr.Merge xs) ≡ fold max 0 (map nesting xs) + 1 =
    fold_merge nesting_layer xs in
    let l : length (map is_formed xs) ≡ length xs = formed_count xs in
    let t : nat_le 2 (length (map is_formed xs)) ≡ true = grind (arith, l, two) in
    (f ∙ rw (t, all) refl, omega (arith, d, low))

override_fits : (n : ℕ) (x y : Expr) → IsFit n x → IsFit n y → IsFit (suc n) (expr.Override x y)
override_fits n x y h k =
    let f : is_formed (expr.Override x y) ≡ (is_formed x && is_formed y) =
    fold_override formed_layer x y in
    let d : nesting (expr.Override x y) ≡ max (nesting x) (nesting y) + 1 =
    fold_override nesting_layer x y in
    let p : is_formed x ≡ true = h.0 in
    let q : is_formed y ≡ true = k.0 in
    (f ∙ rw (p, q) refl, omega (arith, d, h.1, k.1))

pub op_deep : (op : Op) (k : ℕ) → nesting_layer (op_layer op k) ≡ max (op_nesting op) k + 1
op_deep (Rename a b) k = omega arith
op_deep (Restrict a) k = omega arith
op_deep (Freeze a) k = omega arith
op_deep (Hide a) k = omega arith
op_deep (Show names) k = omega arith
op_deep (CopyAs a b) k = omega arith

pub op_formed : (op : Op) (b : Bool) → formed_layer (op_layer op b) ≡ b
op_formed (Rename a b) t = refl
op_formed (Restrict a) t = refl
op_formed (Freeze a) t = refl
op_formed (Hide a) t = refl
op_formed (Show names) t = refl
op_formed (CopyAs a b) t = refl

pub op_paths : (op : Op) (ps : List Name) → paths_layer (op_layer op ps) ≡ ps
op_paths (Rename a b) ps = refl
op_paths (Restrict a) ps = refl
op_paths (Freeze a) ps = refl
op_paths (Hide a) ps = refl
op_paths (Show names) ps = refl
op_paths (CopyAs a b) ps = refl

op_fits : (n : ℕ) (op : Op) (x : Expr) → IsFit n x → op_nesting op ≤ n
    → IsFit (suc n) (applied op x)
op_fits n op x h nest =
    let f : is_formed (applied op x) ≡ is_formed x =
    fold_applied formed_layer op x ∙ op_formed op (is_formed x) in
    let d : nesting (applied op x) ≡ max (op_nesting op) (nesting x) + 1 =
    fold_applied nesting_layer op x ∙ op_deep op (nesting x) in
    (f ∙ h.0, omega (arith, d, h.1, nest))

opened_fits : (n : ℕ) → ((ts : List Token) (x : Expr) → IsExpr n ts x → IsFit n x)
    → (ts : List Token) (e : Expr) → IsOpened n (IsExpr n) ts e → IsFit (suc n) e
opened_fits n fits ts e (Merges inner xs eq is two are) =
    subst (IsFit (suc n)) (sym is)
    (merge_fits n xs two (all_formed (IsExpr n) n fits inner xs are)
    (all_low (IsExpr n) n fits inner xs 0 (omega arith) are))
opened_fits n fits ts e (Overrides l r x y eq is px py) =
    subst (IsFit (suc n)) (sym is) (override_fits n x y (fits l x px) (fits r y py))
opened_fits n fits ts e (Applies op inner x eq is isop nest px) =
    subst (IsFit (suc n)) (sym is) (op_fits n op x (fits inner x px) nest)

pub expr_fits : (n : ℕ) (ts : List Token) (e : Expr) → IsExpr n ts e → IsFit n e
unfolding IsExpr
expr_fits zero ts e h = path_fits 0 ts e h
expr_fits (suc n) ts e h =
    elim h [ inl p ↦ path_fits (suc n) ts e p | inr o ↦ opened_fits n (expr_fits n) ts e o ]
