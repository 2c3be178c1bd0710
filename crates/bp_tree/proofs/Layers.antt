-- What folds give of each form of an expression, and its canonical text.
use Rattle.std.proofs.Common.{◌≡◌, List, ◌++◌, codes, ap, sym, ◌∙◌, map}
use Rattle.omos_model.specs.Names.{Name}
use Rattle.omos_model.specs.Op.{Op, Rename, Restrict, Freeze, Hide, Show, CopyAs}
use Rattle.omos_model.specs.declared.expr.Expr.{Expr}
use Rattle.omos_model.specs.declared.expr.Expr.TheOpen.{Expr-F}
use Rattle.omos_model.specs.declared.expr.Expr.TheViews.{roll-Expr}
use Rattle.omos_model.specs.declared.expr.Expr.TheVariants as expr
use Rattle.omos_model.specs.declared.expr.Expr.TheFolds.{fold-Expr, fold-roll-Expr}
use Rattle.bp_tree.specs.Canonical.{expr_text, text_layer, each_spaced, spaced}
use Rattle.bp_tree.specs.Grammar.{applied}

-- an operator over what is made of its operand
abbrev pub op_layer : {A : Type 0} → Op → A → Expr-F A
op_layer (Rename a b) x = Expr-F.Rename a b x
op_layer (Restrict a) x = Expr-F.Restrict a x
op_layer (Freeze a) x = Expr-F.Freeze a x
op_layer (Hide a) x = Expr-F.Hide a x
op_layer (Show names) x = Expr-F.Show names x
op_layer (CopyAs a b) x = Expr-F.CopyAs a b x

pub rolls : (op : Op) (x : Expr) → roll-Expr (op_layer op x) ≡ applied op x
rolls (Rename a b) x = expr.rolls-Rename a b x
rolls (Restrict a) x = expr.rolls-Restrict a x
rolls (Freeze a) x = expr.rolls-Freeze a x
rolls (Hide a) x = expr.rolls-Hide a x
rolls (Show names) x = expr.rolls-Show names x
rolls (CopyAs a b) x = expr.rolls-CopyAs a b x

-- what a fold gives of an operator's expression
pub fold_applied : {A : Type 0} (layer : Expr-F A → A) (op : Op) (x : Expr)
    → fold-Expr A layer (applied op x) ≡ layer (op_layer op (fold-Expr A layer x))
fold_applied {A} layer op x = ap (fold-Expr A layer) (sym (rolls op x)) ∙ folded op
  where
    folded : (op : Op) → fold-Expr A layer (roll-Expr (op_layer op x)) ≡ layer
        (op_layer op (fold-Expr A layer x))
    folded (Rename a b) = fold-roll-Expr A layer (Expr-F.Rename a b x)
    folded (Restrict a) = fold-roll-Expr A layer (Expr-F.Restrict a x)
    folded (Freeze a) = fold-roll-Expr A layer (Expr-F.Freeze a x)
    folded (Hide a) = fold-roll-Expr A layer (Expr-F.Hide a x)
    folded (Show names) = fold-roll-Expr A layer (Expr-F.Show names x)
    folded (CopyAs a b) = fold-roll-Expr A layer (Expr-F.CopyAs a b x)

pub fold_path : {A : Type 0} (layer : Expr-F A → A) (p : Name)
    → fold-Expr A layer (expr.Path p) ≡ layer (Expr-F.Path p)
fold_path {A} layer p =
    ap (fold-Expr A layer) (sym (expr.rolls-Path p)) ∙ fold-roll-Expr A layer (Expr-F.Path p)

pub fold_merge : {A : Type 0} (layer : Expr-F A → A) (xs : List Expr)
    → fold-Expr A layer (expr.Merge xs) ≡ layer (Expr-F.Merge (map (fold-Expr A layer) xs))
fold_merge {A} layer xs =
    ap (fold-Expr A layer) (sym (expr.rolls-Merge xs)) ∙ fold-roll-Expr A layer (Expr-F.Merge xs)

pub fold_override : {A : Type 0} (layer : Expr-F A → A) (l r : Expr)
    → fold-Expr A layer (expr.Override l r) ≡ layer
    (Expr-F.Override (fold-Expr A layer l) (fold-Expr A layer r))
fold_override {A} layer l r =
    ap (fold-Expr A layer) (sym (expr.rolls-Override l r))
    ∙ fold-roll-Expr A layer (Expr-F.Override l r)

-- ---- canonical texts

pub text_Path : (p : Name) → expr_text (expr.Path p) ≡ p
text_Path p = fold_path text_layer p

pub text_Merge : (xs : List Expr)
    → expr_text (expr.Merge xs) ≡ codes "(merge" ++ each_spaced (map expr_text xs) ++ codes ")"
text_Merge xs = fold_merge text_layer xs

pub text_Override : (l r : Expr)
    → expr_text (expr.Override l r)
    ≡ codes "(override " ++ expr_text l ++ codes " " ++ expr_text r ++ codes ")"
text_Override l r = fold_override text_layer l r

pub text_Rename : (a b : Name) (x : Expr)
    → expr_text (expr.Rename a b x)
    ≡ codes "(rename " ++ a ++ codes " " ++ b ++ codes " " ++ expr_text x ++ codes ")"
text_Rename a b x = fold_applied text_layer (Rename a b) x

pub text_Restrict : (a : Name) (x : Expr)
    → expr_text (expr.Restrict a x)
    ≡ codes "(restrict " ++ a ++ codes " " ++ expr_text x ++ codes ")"
text_Restrict a x = fold_applied text_layer (Restrict a) x

pub text_Freeze : (a : Name) (x : Expr)
    → expr_text (expr.Freeze a x)
    ≡ codes "(freeze " ++ a ++ codes " " ++ expr_text x ++ codes ")"
text_Freeze a x = fold_applied text_layer (Freeze a) x

pub text_Hide : (a : Name) (x : Expr)
    → expr_text (expr.Hide a x) ≡ codes "(hide " ++ a ++ codes " " ++ expr_text x ++ codes ")"
text_Hide a x = fold_applied text_layer (Hide a) x

pub text_Show : (names : List Name) (x : Expr)
    → expr_text (expr.Show names x)
    ≡ codes "(show (" ++ spaced names ++ codes ") " ++ expr_text x ++ codes ")"
text_Show names x = fold_applied text_layer (Show names) x

pub text_CopyAs : (a b : Name) (x : Expr)
    → expr_text (expr.CopyAs a b x)
    ≡ codes "(copy_as " ++ a ++ codes " " ++ b ++ codes " " ++ expr_text x ++ codes ")"
text_CopyAs a b x = fold_applied text_layer (CopyAs a b) x

-- what the canonical text of each form of an expression is
pub ruleset texts = (
  text_Path,
  text_Merge,
  text_Override,
  text_Rename,
  text_Restrict,
  text_Freeze,
  text_Hide,
  text_Show,
  text_CopyAs,
)
