-- The names and the paths of each form of an expression.
use Rattle.std.proofs.Common.{◌≡◌, ◌≤◌, ℕ, length, take, List, [], ◌∷◌, ◌++◌, map, All, sym, subst}
use Rattle.std.proofs.Common.{◌∙◌}
use Rattle.std.specs.List.{flat_map}
use Rattle.std.proofs.lemmas.List.{take_all}
use Rattle.std.proofs.lemmas.List.Elements.{All-nil, All-cons, All-head, All-tail, All-append}
use Rattle.omos_base.specs.SymNames.{IsSymName}
use Rattle.omos_base.specs.Paths.{IsPath}
use Rattle.omos_model.specs.Names.{Name}
use Rattle.omos_model.specs.Op.{Op, Rename, Restrict, Freeze, Hide, Show, CopyAs}
use Rattle.omos_model.specs.declared.expr.Expr.{Expr}
use Rattle.omos_model.specs.declared.expr.Expr.TheVariants as expr
use Rattle.bp_tree.specs.Grammar.{IsOp, applied}
use Rattle.bp_tree.specs.Named.{names_layer, names_in, paths_layer, paths_in, IsNamedExpr}
use Rattle.bp_tree.proofs.Lawful.{op_paths}
use Rattle.bp_tree.proofs.Layers.{op_layer, fold_path, fold_merge, fold_override, fold_applied}

-- what a fold lists
listed : (P : Name → Type 0) (ns ms : List Name) → ns ≡ ms → All P ms → All P ns
listed P ns ms e h = let Q : List Name → Type 0 = All P in subst Q (sym e) h

pub named_Path : (p : Name) → IsPath p → IsNamedExpr (expr.Path p)
named_Path p is = record {
  names = listed IsSymName (names_in (expr.Path p)) [] (fold_path names_layer p)
      (All-nil IsSymName);
  paths = listed IsPath (paths_in (expr.Path p)) (p ∷ []) (fold_path paths_layer p)
      (All-cons IsPath p [] is (All-nil IsPath));
}

gathered : (P : Name → Type 0) (f : Expr → List Name) (xs : List Expr)
    → All (λ x. All P (f x)) xs → All P (flat_map (λ ns. ns) (map f xs))
gathered P f [] h = All-nil P
gathered P f (x ∷ xs) h =
    All-append P (f x) (flat_map (λ ns. ns) (map f xs)) (All-head (λ y. All P (f y)) x xs h)
    (gathered P f xs (All-tail (λ y. All P (f y)) x xs h))

pub named_Merge : (xs : List Expr) → All IsNamedExpr xs → IsNamedExpr (expr.Merge xs)
named_Merge xs h = record {
  names = listed IsSymName (names_in (expr.Merge xs)) (flat_map (λ ns. ns) (map names_in xs))
      (fold_merge names_layer xs) (gathered IsSymName names_in xs (λ k d s. (h k d s).names));
  paths = listed IsPath (paths_in (expr.Merge xs)) (flat_map (λ ns. ns) (map paths_in xs))
      (fold_merge paths_layer xs) (gathered IsPath paths_in xs (λ k d s. (h k d s).paths));
}

pub named_Override : (l r : Expr) → IsNamedExpr l → IsNamedExpr r → IsNamedExpr (expr.Override l r)
named_Override l r h k = record {
  names = listed IsSymName (names_in (expr.Override l r)) (names_in l ++ names_in r)
      (fold_override names_layer l r) (All-append IsSymName (names_in l)
      (names_in r) h.names k.names);
  paths = listed IsPath (paths_in (expr.Override l r)) (paths_in l ++ paths_in r)
      (fold_override paths_layer l r) (All-append IsPath (paths_in l) (paths_in r) h.paths k.paths);
}

op_names : (op : Op) (ns : List Name) → IsOp op → All IsSymName ns
    → All IsSymName (names_layer (op_layer op ns))
op_names (Rename a b) ns is h =
    All-cons IsSymName a (b ∷ ns) is.0 (All-cons IsSymName b ns is.1 h)
op_names (Restrict a) ns is h = All-cons IsSymName a ns is h
op_names (Freeze a) ns is h = All-cons IsSymName a ns is h
op_names (Hide a) ns is h = All-cons IsSymName a ns is h
op_names (Show names) ns is h = All-append IsSymName names ns is h
op_names (CopyAs a b) ns is h =
    All-cons IsSymName a (b ∷ ns) is.0 (All-cons IsSymName b ns is.1 h)

-- an expression that is seen as an operator on another
pub named_applied : (op : Op) (e x y : Expr) → e ≡ applied op x → y ≡ x → IsOp op → IsNamedExpr y
    → IsNamedExpr e
named_applied op e x y is same names h =
    subst IsNamedExpr (sym is) (record {
      names = listed IsSymName (names_in (applied op x)) (names_layer (op_layer op (names_in x)))
          (fold_applied names_layer op x)
          (op_names op (names_in x) names (subst IsNamedExpr same h).names);
      paths = listed IsPath (paths_in (applied op x)) (paths_in x)
          (fold_applied paths_layer op x ∙ op_paths op (paths_in x))
          (subst IsNamedExpr same h).paths;
    })

-- all of them were seen
pub seen_all : {X : Type 0} (P : X → Type 0) (xs : List X) (i : ℕ) → length xs ≤ i
    → All P (take i xs) → All P xs
seen_all {X} P xs i end h = let Q : List X → Type 0 = All P in subst Q (take_all i xs end) h
