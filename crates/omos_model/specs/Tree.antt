-- A blueprint's expression as a tree, in which a merge has two operands.
use Rattle.std.specs.Prelude.{List, [], ◌∷◌, fold}
use Rattle.omos_model.specs.Names.{Name}
use Rattle.omos_model.specs.Op.{Op, Rename, Restrict, Freeze, Hide, Show, CopyAs}
use Rattle.omos_model.specs.declared.expr.Expr.{Expr, fold-Expr}
use Rattle.omos_model.specs.declared.expr.Expr.TheOpen.{Expr-F}

-- `(merge A B C)` is More (Merge A B) C; the two are one node of the text
pub data Tree : Type 0 where
  Path : Name → Tree
  Merge : Tree → Tree → Tree
  More : Tree → Tree → Tree
  Override : Tree → Tree → Tree
  Apply : Op → Tree → Tree

-- an image's merges have at least two operands, so the first two cases don't come
abbrev pub merge_of : List Tree → Tree
merge_of [] = Path []
merge_of (x ∷ []) = x
merge_of (x ∷ y ∷ more) = fold More (Merge x y) more

abbrev pub layer : Expr-F Tree → Tree
layer (Expr-F.Path p) = Path p
layer (Expr-F.Merge xs) = merge_of xs
layer (Expr-F.Override l r) = Override l r
layer (Expr-F.Rename a b x) = Apply (Rename a b) x
layer (Expr-F.Restrict a x) = Apply (Restrict a) x
layer (Expr-F.Freeze a x) = Apply (Freeze a) x
layer (Expr-F.Hide a x) = Apply (Hide a) x
layer (Expr-F.Show names x) = Apply (Show names) x
layer (Expr-F.CopyAs a b x) = Apply (CopyAs a b) x

abbrev pub tree_of : Expr → Tree
tree_of x = fold-Expr Tree layer x
