-- The canonical text of an image.
use Rattle.std.specs.Prelude.{ℕ, ◌==◌, ◌&&◌, false, cond, List, [], ◌∷◌, ◌++◌, codes}
use Rattle.std.specs.List.{flat_map}
use Rattle.std.specs.Fmt.{digits}
use Rattle.omos_model.specs.ImageParts.{ImageParts}
use Rattle.omos_model.specs.Names.{same_name}
use Rattle.omos_model.specs.declared.entry.Start.{Start}
use Rattle.omos_model.specs.declared.entry.Start.TheVariants.{Named, NoEntry}
use Rattle.omos_model.specs.declared.expr.Expr.{Expr}
use Rattle.omos_model.specs.declared.expr.Expr.TheFolds.{fold-Expr}
use Rattle.omos_model.specs.declared.expr.Expr.TheOpen.{Expr-F}

-- one space before each
abbrev pub each_spaced : List (List ℕ) → List ℕ
each_spaced texts = flat_map (λ text. 32 ∷ text) texts

-- one space between two
abbrev pub spaced : List (List ℕ) → List ℕ
spaced [] = []
spaced (text ∷ texts) = text ++ each_spaced texts

abbrev pub text_layer : Expr-F (List ℕ) → List ℕ
text_layer (Expr-F.Path p) = p
text_layer (Expr-F.Merge xs) = codes "(merge" ++ each_spaced xs ++ codes ")"
text_layer (Expr-F.Override l r) = codes "(override " ++ l ++ codes " " ++ r ++ codes ")"
text_layer (Expr-F.Rename a b x) =
    codes "(rename " ++ a ++ codes " " ++ b ++ codes " " ++ x ++ codes ")"
text_layer (Expr-F.Restrict a x) = codes "(restrict " ++ a ++ codes " " ++ x ++ codes ")"
text_layer (Expr-F.Freeze a x) = codes "(freeze " ++ a ++ codes " " ++ x ++ codes ")"
text_layer (Expr-F.Hide a x) = codes "(hide " ++ a ++ codes " " ++ x ++ codes ")"
text_layer (Expr-F.Show names x) = codes "(show (" ++ spaced names ++ codes ") " ++ x ++ codes ")"
text_layer (Expr-F.CopyAs a b x) =
    codes "(copy_as " ++ a ++ codes " " ++ b ++ codes " " ++ x ++ codes ")"

-- the tokens with one space between two, but none after `(` and none before `)`
abbrev pub expr_text : Expr → List ℕ
expr_text x = fold-Expr (List ℕ) text_layer x

-- left out where it is `_start`
abbrev pub start_text : Start → List ℕ
start_text (Named name) =
    cond (same_name name (codes "_start")) [] (codes "(entry " ++ name ++ codes ") ")
start_text NoEntry = codes "(no_entry) "

-- `0x` and lower-case digits, with no leading zero
abbrev pub hex_text : ℕ → List ℕ
hex_text n = codes "0x" ++ digits 16 false n

-- left out where it is the default
abbrev pub range_text : ℕ → ℕ → List ℕ
range_text lo hi =
    cond ((lo == 4194304) && (hi == 1073741824)) []
    (codes "(range " ++ hex_text lo ++ codes " " ++ hex_text hi ++ codes ") ")

abbrev pub canonical_text : ImageParts → List ℕ
canonical_text i =
    codes "(image " ++ start_text i.start ++ range_text i.lo i.hi ++ expr_text i.body ++ codes ")"
