-- What the reading of a header says.
use Rattle.std.specs.Prelude.{◌≡◌, ℕ, List, [], ◌∷◌, ◌++◌, IsTrue, codes}
use Rattle.omos_model.specs.ImageParts.{is_range}
use Rattle.omos_model.specs.Names.{Name}
use Rattle.bp_tree.specs.Tokens.{Token, Open, Close, Word, Placed}
use Rattle.bp_tree.specs.Numerals.{IsNumeralOf}
use Rattle.bp_tree.specs.Texts.{words_of}
use Rattle.omos_model.specs.declared.entry.Start.{Start}
use Rattle.bp_tree.specs.Grammar.{IsStart, IsRange}
use Rattle.bp_tree.specs.inside.Symbols.{Sym, It, AnExpr, AStart, ARange, AreSyms, WhyStops}
use Rattle.bp_tree.specs.declared.stop.Stop.{Stop}

-- the first two of these tokens are a parenthesis and this word
abbrev pub IsOpening : List Placed → List ℕ → List Placed → Type 0
IsOpening ts k after =
    (a : Placed) × (b : Placed) × (ts ≡ a ∷ b ∷ after) × (a.token ≡ Open) × (b.token ≡ Word k)

-- what stands behind the range, and behind the start
abbrev pub body_syms : List Sym
body_syms = AnExpr 63 ∷ It Close ∷ []

abbrev pub range_syms : List Sym
range_syms = ARange ∷ body_syms

-- a part that may be left out was read, and its tokens are as V says
pub record IsHeaderPart (now : Sym) (next : List Sym) (V : List Token → Type 0)
    (ts after : List Placed) : Type 0 where
  pub front : List Placed
  pub parts : ts ≡ front ++ after
  pub value : V (words_of front)
  pub leads : (stop : Stop) → WhyStops (AreSyms next) after stop
      → WhyStops (AreSyms (now ∷ next)) ts stop

-- the numbers of a range and its parenthesis
abbrev pub AreBounds : ℕ → ℕ → List Token → Type 0
AreBounds lo hi ts =
    (a : Name) × (b : Name) × (ts ≡ Word a ∷ Word b ∷ Close ∷ []) × IsNumeralOf a lo
    × IsNumeralOf b hi × IsTrue (is_range lo hi)

-- the second of them
abbrev pub IsUpper : ℕ → ℕ → List Token → Type 0
IsUpper lo hi ts =
    (b : Name) × (ts ≡ Word b ∷ Close ∷ []) × IsNumeralOf b hi × IsTrue (is_range lo hi)

-- the whole image, from its first parenthesis on
abbrev pub image_syms : List Sym
image_syms = It Open ∷ It (Word (codes "image")) ∷ AStart ∷ range_syms

-- the tokens before the expression are the start and the range
abbrev pub IsHead : Start → ℕ → ℕ → List Token → Type 0
IsHead s lo hi ts =
    (start : List Token) × (range : List Token)
    × (ts ≡ Open ∷ Word (codes "image") ∷ (start ++ range)) × IsStart start s
    × IsRange range lo hi

-- they were read
pub record HasHead (s : Start) (lo hi : ℕ) (ts after : List Placed) : Type 0 where
  pub front : List Placed
  pub parts : ts ≡ front ++ after
  pub value : IsHead s lo hi (words_of front)
  pub leads : (stop : Stop) → WhyStops (AreSyms body_syms) after stop
      → WhyStops (AreSyms image_syms) ts stop
