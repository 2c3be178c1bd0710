-- The names and the paths that an image says.
use Rattle.std.specs.Prelude.{List, [], ◌∷◌, ◌++◌, All}
use Rattle.std.specs.List.{flat_map}
use Rattle.omos_base.specs.SymNames.{IsSymName}
use Rattle.omos_base.specs.Paths.{IsPath}
use Rattle.omos_model.specs.ImageParts.{ImageParts}
use Rattle.omos_model.specs.Names.{Name}
use Rattle.omos_model.specs.declared.entry.Start.{Start}
use Rattle.omos_model.specs.declared.entry.Start.TheVariants.{Named, NoEntry}
use Rattle.omos_model.specs.declared.expr.Expr.{Expr}
use Rattle.omos_model.specs.declared.expr.Expr.TheFolds.{fold-Expr}
use Rattle.omos_model.specs.declared.expr.Expr.TheOpen.{Expr-F}

abbrev pub names_layer : Expr-F (List Name) → List Name
names_layer (Expr-F.Path p) = []
names_layer (Expr-F.Merge xs) = flat_map (λ ns. ns) xs
names_layer (Expr-F.Override l r) = l ++ r
names_layer (Expr-F.Rename a b x) = a ∷ b ∷ x
names_layer (Expr-F.Restrict a x) = a ∷ x
names_layer (Expr-F.Freeze a x) = a ∷ x
names_layer (Expr-F.Hide a x) = a ∷ x
names_layer (Expr-F.Show names x) = names ++ x
names_layer (Expr-F.CopyAs a b x) = a ∷ b ∷ x

-- the names of its operators
abbrev pub names_in : Expr → List Name
names_in x = fold-Expr (List Name) names_layer x

abbrev pub paths_layer : Expr-F (List Name) → List Name
paths_layer (Expr-F.Path p) = p ∷ []
paths_layer (Expr-F.Merge xs) = flat_map (λ ns. ns) xs
paths_layer (Expr-F.Override l r) = l ++ r
paths_layer (Expr-F.Rename a b x) = x
paths_layer (Expr-F.Restrict a x) = x
paths_layer (Expr-F.Freeze a x) = x
paths_layer (Expr-F.Hide a x) = x
paths_layer (Expr-F.Show names x) = x
paths_layer (Expr-F.CopyAs a b x) = x

abbrev pub paths_in : Expr → List Name
paths_in x = fold-Expr (List Name) paths_layer x

abbrev pub IsStartName : Start → Type 0
IsStartName (Named name) = IsSymName name
IsStartName NoEntry = Unit {0}

-- its names are names, and its paths are paths
pub record IsNamedExpr (x : Expr) : Type 0 where
  pub names : All IsSymName (names_in x)
  pub paths : All IsPath (paths_in x)

-- and its start's
abbrev pub IsNamed : ImageParts → Type 0
IsNamed i = IsStartName i.start × IsNamedExpr i.body
