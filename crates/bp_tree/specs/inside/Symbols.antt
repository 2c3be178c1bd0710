-- What may come next in a text, as a list of the grammar's symbols.
use Rattle.std.specs.Prelude.{◌≡◌, ◌≤◌, ℕ, ◌+◌, List, [], ◌∷◌, ◌++◌, map, codes, All, IsTrue}
use Rattle.omos_base.specs.SymNames.{IsSymName}
use Rattle.omos_model.specs.ImageParts.{is_range}
use Rattle.omos_model.specs.Names.{Name}
use Rattle.omos_model.specs.Op.{Op, Rename, Restrict, Freeze, Hide, Show, CopyAs}
use Rattle.omos_model.specs.declared.entry.Start.{Start}
use Rattle.omos_model.specs.declared.expr.Expr.{Expr}
use Rattle.bp_tree.specs.Tokens.{Token, Open, Close, Word, Placed}
use Rattle.bp_tree.specs.Numerals.{IsNumeralOf}
use Rattle.bp_tree.specs.Grammar.{AreExprs, IsOpened, IsExpr, IsStart, IsRange, op_words, IsOp}
use Rattle.bp_tree.specs.Grammar.{op_nesting}
use Rattle.bp_tree.specs.Texts.{words_of}
use Rattle.bp_tree.specs.TextFaults.{Language, Begins, StopsAtToken}
use Rattle.bp_tree.specs.declared.stop.Stop.{Stop}
use Rattle.bp_tree.specs.declared.stop.Stop.TheVariants.{Early, At}
use Rattle.bp_tree.specs.declared.form.Form.{Form}
use Rattle.bp_tree.specs.declared.form.Form.TheVariants as form
use Rattle.bp_tree.specs.declared.form.Applied.{Applied}
use Rattle.bp_tree.specs.declared.form.Applied.TheVariants as applied
use Rattle.bp_tree.specs.declared.operator.Operator.{Operator}
use Rattle.bp_tree.specs.declared.operator.Operator.TheVariants as operator

-- a token; a name; names and `)`; an expression, with the room that it has for parentheses; what
-- stands behind its first one; expressions and `)`; a start; a range; its numbers and `)`; the
-- second of them and `)`
pub data Sym : Type 0 where
  It : Token → Sym
  AName : Sym
  Names : Sym
  AnExpr : ℕ → Sym
  Inside : ℕ → Sym
  Exprs : ℕ → Sym
  AStart : Sym
  ARange : Sym
  Low : Sym
  High : ℕ → Sym

-- the tokens are the symbol, where parentheses may nest so much deeper than they may
abbrev pub IsSym : ℕ → Sym → List Token → Type 0
IsSym more (It t) ts = ts ≡ t ∷ []
IsSym more AName ts = (n : Name) × (ts ≡ Word n ∷ []) × IsSymName n
IsSym more Names ts = (ns : List Name) × (ts ≡ map Word ns ++ Close ∷ []) × All IsSymName ns
IsSym more (AnExpr room) ts = (e : Expr) × IsExpr (room + more) ts e
IsSym more (Inside room) ts =
    (e : Expr) × IsOpened (room + more) (IsExpr (room + more)) (Open ∷ ts) e
IsSym more (Exprs room) ts =
    (inner : List Token) × (xs : List Expr) × (ts ≡ inner ++ Close ∷ [])
    × AreExprs (IsExpr (room + more)) inner xs
IsSym more AStart ts = (s : Start) × IsStart ts s
IsSym more ARange ts = (lo : ℕ) × (hi : ℕ) × IsRange ts lo hi
IsSym more Low ts =
    (a : Name) × (b : Name) × (lo : ℕ) × (hi : ℕ) × (ts ≡ Word a ∷ Word b ∷ Close ∷ [])
    × IsNumeralOf a lo × IsNumeralOf b hi × IsTrue (is_range lo hi)
IsSym more (High lo) ts =
    (b : Name) × (hi : ℕ) × (ts ≡ Word b ∷ Close ∷ []) × IsNumeralOf b hi
    × IsTrue (is_range lo hi)

-- the symbols, one after the other
abbrev pub AreSyms : List Sym → Language
AreSyms [] more ts = ts ≡ []
AreSyms (s ∷ ss) more ts =
    (front : List Token) × (rest : List Token) × (ts ≡ front ++ rest) × IsSym more s front
    × AreSyms ss more rest

-- ---- forms of an expression in parentheses

abbrev pub operator_keyword : Applied → List ℕ
operator_keyword applied.Rename = codes "rename"
operator_keyword applied.Restrict = codes "restrict"
operator_keyword applied.Freeze = codes "freeze"
operator_keyword applied.Hide = codes "hide"
operator_keyword applied.Show = codes "show"
operator_keyword applied.CopyAs = codes "copy_as"

abbrev pub keyword : Form → List ℕ
keyword form.Merge = codes "merge"
keyword form.Override = codes "override"
keyword (form.Apply kind) = operator_keyword kind

-- what stands between the keyword and the operand
abbrev pub arguments : Applied → List Sym
arguments applied.Rename = AName ∷ AName ∷ []
arguments applied.Restrict = AName ∷ []
arguments applied.Freeze = AName ∷ []
arguments applied.Hide = AName ∷ []
arguments applied.Show = It Open ∷ Names ∷ []
arguments applied.CopyAs = AName ∷ AName ∷ []

-- what stands behind the keyword
abbrev pub behind : ℕ → Form → List Sym
behind room form.Merge = AnExpr room ∷ AnExpr room ∷ Exprs room ∷ []
behind room form.Override = AnExpr room ∷ AnExpr room ∷ It Close ∷ []
behind room (form.Apply kind) = arguments kind ++ AnExpr room ∷ It Close ∷ []

-- the parentheses that it opens itself
abbrev pub kind_nesting : Applied → ℕ
kind_nesting applied.Rename = 0
kind_nesting applied.Restrict = 0
kind_nesting applied.Freeze = 0
kind_nesting applied.Hide = 0
kind_nesting applied.Show = 1
kind_nesting applied.CopyAs = 0

abbrev pub form_nesting : Form → ℕ
form_nesting form.Merge = 0
form_nesting form.Override = 0
form_nesting (form.Apply kind) = kind_nesting kind

abbrev pub op_meant : Operator → Op
op_meant (operator.Rename a b) = Rename a b
op_meant (operator.Restrict a) = Restrict a
op_meant (operator.Freeze a) = Freeze a
op_meant (operator.Hide a) = Hide a
op_meant (operator.Show names) = Show names
op_meant (operator.CopyAs a b) = CopyAs a b

-- the tokens, after the keyword, are the operator's
abbrev pub IsOperator : Applied → Operator → List Token → Type 0
IsOperator kind op ts =
    (Word (operator_keyword kind) ∷ ts ≡ op_words (op_meant op)) × IsOp (op_meant op)
    × (op_nesting (op_meant op) ≤ kind_nesting kind)

-- the tokens are more operands and `)`, behind those that are given
abbrev pub AreOperands : ℕ → List Expr → List Expr → List Token → Type 0
AreOperands room given all ts =
    (inner : List Token) × (xs : List Expr) × (ts ≡ inner ++ Close ∷ [])
    × AreExprs (IsExpr room) inner xs × (all ≡ given ++ xs)

-- ---- what reading answers

-- why the tokens stop being the beginning of something, or are only a beginning
abbrev pub WhyStops : Language → List Placed → Stop → Type 0
WhyStops L ts Early = Begins L 0 (words_of ts) × ¬ L 0 (words_of ts)
WhyStops L ts (At fault) = StopsAtToken L ts fault

-- something is said in these symbols
abbrev pub Completable : List Sym → Type 0
Completable ss = (more : ℕ) → Begins (AreSyms ss) more []

-- the symbols are not there, whatever is to follow them
pub record Fails (now : List Sym) (ts : List Placed) (stop : Stop) : Type 0 where
  pub why : (ss : List Sym) → Completable ss → WhyStops (AreSyms (now ++ ss)) ts stop

-- a stop after the symbols is one of the whole
abbrev pub Leads : List Sym → List Placed → List Placed → Type 0
Leads now ts after =
    (ss : List Sym) (stop : Stop) → WhyStops (AreSyms ss) after stop
    → WhyStops (AreSyms (now ++ ss)) ts stop

-- the symbols were read, and their tokens are as V says
pub record AreRead (now : List Sym) (V : List Token → Type 0)
    (ts after : List Placed) : Type 0 where
  pub front : List Placed
  pub parts : ts ≡ front ++ after
  pub value : V (words_of front)
  pub leads : Leads now ts after

-- more of a list was read, that goes on
pub record HasGrown (now : Sym) (V : List Token → Type 0) (ts after : List Placed) : Type 0 where
  pub front : List Placed
  pub parts : ts ≡ front ++ after
  pub value : V (words_of front)
  pub leads : (ss : List Sym) (stop : Stop) → WhyStops (AreSyms (now ∷ ss)) after stop
      → WhyStops (AreSyms (now ∷ ss)) ts stop

-- one expression was read, and stands behind those that are given
abbrev pub HasOneMore : ℕ → List Expr → List Expr → List Placed → List Placed → Type 0
HasOneMore room given all ts after =
    (x : Expr) × (all ≡ given ++ x ∷ [])
    × AreRead (AnExpr room ∷ []) (λ ws. IsExpr room ws x) ts after
