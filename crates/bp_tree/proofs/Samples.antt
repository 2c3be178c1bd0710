-- Each symbol has something that is it.
use Rattle.std.proofs.Common.{◌≡◌, ◌≤◌, ◌<◌, ℕ, zero, suc, List, [], ◌∷◌, refl, codes, inl, inr}
use Rattle.std.proofs.Common.{arith, ◌⊎◌}
use Rattle.std.proofs.lemmas.List.Elements.{All-nil, All-cons}
use Rattle.std.specs.Char.{digit_value}
use Rattle.omos_base.specs.SymNames.{IsNameByte, IsSymName}
use Rattle.omos_base.specs.Paths.{IsPartByte, IsPart, IsPath}
use Rattle.omos_model.specs.Op.{Freeze}
use Rattle.omos_model.specs.declared.expr.Expr.{Expr}
use Rattle.omos_model.specs.declared.expr.Expr.TheVariants as expr
use Rattle.bp_tree.specs.Tokens.{Token, Open, Close, Word}
use Rattle.bp_tree.specs.Numerals.{IsNumeralOf}
use Rattle.bp_tree.specs.Grammar.{IsExpr, IsPathOf, IsOpened, Applies}
use Rattle.bp_tree.specs.TextFaults.{IsNumberWord}

pub name_a : IsSymName (97 ∷ [])
name_a = (
  (omega arith, omega arith),
  All-cons IsNameByte 97 [] (
    inl (omega arith, omega arith),
    (λ h. omega arith),
    (λ h. omega arith),
    (λ h. omega arith),
    λ h. omega arith,
  ) (All-nil IsNameByte),
)

part_a : IsPart (97 ∷ [])
part_a = (
  omega arith,
  omega arith,
  All-cons IsPartByte 97 [] (inl (inr (omega arith, omega arith)))
      (All-nil IsPartByte),
)

pub path_a : IsPath (47 ∷ 97 ∷ [])
path_a = (
  (97 ∷ []) ∷ [],
  (omega arith, omega arith, All-cons IsPart (97 ∷ []) [] part_a (All-nil IsPart)),
  refl,
  omega arith,
)

pub path_is_expr : (n : ℕ) (ts : List Token) (e : Expr) → IsPathOf ts e → IsExpr n ts e
unfolding IsExpr
path_is_expr zero ts e h = h
path_is_expr (suc n) ts e h = inl h

pub opened_is_expr : (n : ℕ) (ts : List Token) (e : Expr) → IsOpened n (IsExpr n) ts e
    → IsExpr (suc n) ts e
unfolding IsExpr
opened_is_expr n ts e h = inr h

pub expr_cases : (n : ℕ) (ts : List Token) (e : Expr) → IsExpr n ts e
    → IsPathOf ts e ⊎ ((m : ℕ) × (n ≡ suc m) × IsOpened m (IsExpr m) ts e)
unfolding IsExpr
expr_cases zero ts e h = inl h
expr_cases (suc n) ts e h = elim h [ inl p ↦ inl p | inr o ↦ inr (n, refl, o) ]

pub expr_a : (n : ℕ) → IsExpr n (Word (47 ∷ 97 ∷ []) ∷ []) (expr.Path (47 ∷ 97 ∷ []))
expr_a n =
    path_is_expr n (Word (47 ∷ 97 ∷ []) ∷ []) (expr.Path (47 ∷ 97 ∷ []))
    (47 ∷ 97 ∷ [], refl, refl, path_a)

abbrev pub freeze_a : Expr
freeze_a = expr.Freeze (97 ∷ []) (expr.Path (47 ∷ 97 ∷ []))

-- `(freeze a /a)`
pub opened_a : (n : ℕ)
    → IsOpened n (IsExpr n)
    (Open ∷ Word (codes "freeze") ∷ Word (97 ∷ []) ∷ Word (47 ∷ 97 ∷ []) ∷ Close ∷ []) freeze_a
opened_a n =
    Applies (Freeze (97 ∷ [])) (Word (47 ∷ 97 ∷ []) ∷ []) (expr.Path (47 ∷ 97 ∷ [])) refl refl
    name_a (omega arith) (expr_a n)

-- ---- a word that does not begin with a digit is no number

pub numeral_head : (b : ℕ) (w : List ℕ) (n : ℕ) → IsNumeralOf (b ∷ w) n → digit_value b < 10
numeral_head b w n h =
    elim h.0 [
      | inl d ↦ d.0.1.0
      | inr x ↦ let q : b ∷ w ≡ 48 ∷ 120 ∷ x.0 = x.1 in let e : b ≡ 48 = cc in rw e (omega arith)
    ]

pub no_number : (b : ℕ) (w : List ℕ) → 10 ≤ digit_value b → IsNumberWord (b ∷ w) → ⊥
no_number b w far h = let near : digit_value b < 10 = numeral_head b w h.0 h.1 in omega arith

pub no_number_a : IsNumberWord (97 ∷ []) → ⊥
no_number_a = no_number 97 [] (omega arith)

pub no_number_path : IsNumberWord (47 ∷ 97 ∷ []) → ⊥
no_number_path = no_number 47 (97 ∷ []) (omega arith)

pub no_number_freeze : IsNumberWord (codes "freeze") → ⊥
no_number_freeze = no_number 102 (codes "reeze") (omega arith)

pub no_number_image : IsNumberWord (codes "image") → ⊥
no_number_image = no_number 105 (codes "mage") (omega arith)
