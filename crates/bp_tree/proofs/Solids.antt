-- Something is said in each symbol.
use Rattle.std.proofs.Common.{[], ◌∷◌, refl, ℕ}
use Rattle.std.proofs.lemmas.List.Elements.{All-nil}
use Rattle.omos_base.specs.SymNames.{IsSymName}
use Rattle.omos_model.specs.declared.expr.Expr.TheVariants as expr
use Rattle.bp_tree.specs.Tokens.{Token, Close, Word}
use Rattle.bp_tree.specs.inside.Symbols.{It, AName, Names, AnExpr, Exprs}
use Rattle.bp_tree.proofs.Samples.{name_a, expr_a}
use Rattle.bp_tree.proofs.Failing.{completes}
use Rattle.bp_tree.proofs.Sequences.{IsSolid}

pub solid_it : (w : Token) → IsSolid (It w ∷ [])
solid_it w ss c = completes (It w) ss (λ more. (w ∷ [], refl)) c

pub solid_name : IsSolid (AName ∷ [])
solid_name ss c = completes AName ss (λ more. (Word (97 ∷ []) ∷ [], (97 ∷ [], refl, name_a))) c

pub solid_names : IsSolid (Names ∷ [])
solid_names ss c = completes Names ss (λ more. (Close ∷ [], ([], refl, All-nil IsSymName))) c

pub solid_expr : (room : ℕ) → IsSolid (AnExpr room ∷ [])
solid_expr room ss c =
    completes (AnExpr room) ss
    (λ more. (Word (47 ∷ 97 ∷ []) ∷ [], (expr.Path (47 ∷ 97 ∷ []), expr_a _))) c

pub solid_exprs : (room : ℕ) → IsSolid (Exprs room ∷ [])
solid_exprs room ss c = completes (Exprs room) ss (λ more. (Close ∷ [], ([], [], refl, refl))) c

pub solid_end : (room : ℕ) → IsSolid (AnExpr room ∷ It Close ∷ [])
solid_end room ss c = solid_expr room (It Close ∷ ss) (solid_it Close ss c)

pub solid_more : (room : ℕ) → IsSolid (AnExpr room ∷ Exprs room ∷ [])
solid_more room ss c = solid_expr room (Exprs room ∷ ss) (solid_exprs room ss c)
