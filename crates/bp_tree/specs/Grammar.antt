-- The grammar of blueprint texts, over tokens.
use Rattle.std.specs.Prelude.{◌≡◌, ℕ, zero, suc, ◌≤◌, ◌⊎◌, List, [], ◌∷◌, ◌++◌, map, codes, All}
use Rattle.std.specs.Prelude.{IsTrue, length}
use Rattle.omos_base.specs.SymNames.{IsSymName}
use Rattle.omos_base.specs.Paths.{IsPath}
use Rattle.omos_model.specs.ImageParts.{ImageParts, is_range}
use Rattle.omos_model.specs.Names.{Name}
use Rattle.omos_model.specs.Op.{Op, Rename, Restrict, Freeze, Hide, Show, CopyAs}
use Rattle.omos_model.specs.declared.entry.Start.{Start}
use Rattle.omos_model.specs.declared.entry.Start.TheVariants.{Named, NoEntry}
use Rattle.omos_model.specs.declared.expr.Expr.{Expr}
use Rattle.omos_model.specs.declared.expr.Expr.TheVariants as expr
use Rattle.bp_tree.specs.Tokens.{Token, Open, Close, Word}
use Rattle.bp_tree.specs.Numerals.{IsNumeralOf}

-- ---- operators on one expression

-- what stands between the parenthesis and the operand
abbrev pub op_words : Op → List Token
op_words (Rename a b) = Word (codes "rename") ∷ Word a ∷ Word b ∷ []
op_words (Restrict a) = Word (codes "restrict") ∷ Word a ∷ []
op_words (Freeze a) = Word (codes "freeze") ∷ Word a ∷ []
op_words (Hide a) = Word (codes "hide") ∷ Word a ∷ []
op_words (Show names) = Word (codes "show") ∷ Open ∷ (map Word names ++ Close ∷ [])
op_words (CopyAs a b) = Word (codes "copy_as") ∷ Word a ∷ Word b ∷ []

-- its names are names
abbrev pub IsOp : Op → Type 0
IsOp (Rename a b) = IsSymName a × IsSymName b
IsOp (Restrict a) = IsSymName a
IsOp (Freeze a) = IsSymName a
IsOp (Hide a) = IsSymName a
IsOp (Show names) = All IsSymName names
IsOp (CopyAs a b) = IsSymName a × IsSymName b

-- how deep its own parentheses nest: show has a list
abbrev pub op_nesting : Op → ℕ
op_nesting (Rename a b) = 0
op_nesting (Restrict a) = 0
op_nesting (Freeze a) = 0
op_nesting (Hide a) = 0
op_nesting (Show names) = 1
op_nesting (CopyAs a b) = 0

abbrev pub applied : Op → Expr → Expr
applied (Rename a b) x = expr.Rename a b x
applied (Restrict a) x = expr.Restrict a x
applied (Freeze a) x = expr.Freeze a x
applied (Hide a) x = expr.Hide a x
applied (Show names) x = expr.Show names x
applied (CopyAs a b) x = expr.CopyAs a b x

-- ---- expressions

-- so many expressions, one after the other
abbrev pub AreExprs : (List Token → Expr → Type 0) → List Token → List Expr → Type 0
AreExprs P ts [] = ts ≡ []
AreExprs P ts (x ∷ xs) =
    (front : List Token) × (more : List Token) × (ts ≡ front ++ more) × P front x
    × AreExprs P more xs

abbrev pub IsPathOf : List Token → Expr → Type 0
IsPathOf ts e = (p : Name) × (ts ≡ Word p ∷ []) × (e ≡ expr.Path p) × IsPath p

-- an expression in parentheses, in which others may nest so deep and are as P says
pub data IsOpened (room : ℕ) (P : List Token → Expr → Type 0) (ts : List Token)
    (e : Expr) : Type 0 where
  Merges : (inner : List Token) (xs : List Expr)
      → ts ≡ Open ∷ Word (codes "merge") ∷ (inner ++ Close ∷ []) → e ≡ expr.Merge xs
      → 2 ≤ length xs → AreExprs P inner xs → IsOpened room P ts e
  Overrides : (l r : List Token) (x y : Expr)
      → ts ≡ Open ∷ Word (codes "override") ∷ (l ++ (r ++ Close ∷ [])) → e ≡ expr.Override x y
      → P l x → P r y → IsOpened room P ts e
  Applies : (op : Op) (inner : List Token) (x : Expr)
      → ts ≡ Open ∷ (op_words op ++ (inner ++ Close ∷ [])) → e ≡ applied op x
      → IsOp op → op_nesting op ≤ room → P inner x → IsOpened room P ts e

-- the tokens are the expression, whose parentheses nest at most so deep
unfoldable pub IsExpr : ℕ → List Token → Expr → Type 0
IsExpr zero ts e = IsPathOf ts e
IsExpr (suc room) ts e = IsPathOf ts e ⊎ IsOpened room (IsExpr room) ts e

-- ---- the image

-- where a program starts: `_start` where nothing says it
abbrev pub IsStart : List Token → Start → Type 0
IsStart ts (Named name) =
    ((ts ≡ []) × (name ≡ codes "_start"))
    ⊎ ((ts ≡ Open ∷ Word (codes "entry") ∷ Word name ∷ Close ∷ []) × IsSymName name)
IsStart ts NoEntry = ts ≡ Open ∷ Word (codes "no_entry") ∷ Close ∷ []

-- the range in which it may be placed: 0x400000 to 0x40000000 where nothing says it
abbrev pub IsRange : List Token → ℕ → ℕ → Type 0
IsRange ts lo hi =
    ((ts ≡ []) × (lo ≡ 4194304) × (hi ≡ 1073741824))
    ⊎ ((a : Name) × (b : Name)
    × (ts ≡ Open ∷ Word (codes "range") ∷ Word a ∷ Word b ∷ Close ∷ [])
    × IsNumeralOf a lo × IsNumeralOf b hi × IsTrue (is_range lo hi))

-- the tokens are the image, in whose own parentheses others nest at most so deep
abbrev pub IsImageOf : ℕ → List Token → ImageParts → Type 0
IsImageOf room ts i =
    (start : List Token) × (range : List Token) × (body : List Token)
    × (ts ≡ Open ∷ Word (codes "image") ∷ (start ++ (range ++ (body ++ Close ∷ []))))
    × IsStart start i.start × IsRange range i.lo i.hi × IsExpr room body i.body
