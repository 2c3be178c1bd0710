-- What is wrong with a text that is no image.
use Rattle.std.specs.Prelude.{◌≡◌, ◌<◌, ◌≤◌, ◌+◌, ℕ, ◌⊎◌, List, [], ◌∷◌, ◌++◌, All, length}
use Rattle.omos_model.specs.ImageParts.{ImageParts}
use Rattle.omos_model.specs.declared.refusal.BpFault.{BpFault}
use Rattle.omos_model.specs.declared.refusal.BpFault.TheVariants.{Long, Byte, Shape, Deep, Number}
use Rattle.omos_model.specs.declared.refusal.BpFault.TheVariants.{Range}
use Rattle.bp_tree.specs.Tokens.{Token, Open, Word, Barred, Placed, tokens_of}
use Rattle.bp_tree.specs.Numerals.{IsNumeralOf}
use Rattle.bp_tree.specs.Grammar.{IsImageOf}
use Rattle.bp_tree.specs.Texts.{words_of, max_room}

-- what may be said in tokens, where parentheses may nest so much deeper than they may
abbrev pub Language : Type 1
Language = ℕ → List Token → Type 0

-- some of it begins with these tokens
abbrev pub Begins : Language → ℕ → List Token → Type 0
Begins L more ts = (rest : List Token) × L more (ts ++ rest)

abbrev pub IsNumberWord : List ℕ → Type 0
IsNumberWord word = (n : ℕ) × IsNumeralOf word n

-- a number is called for after these tokens: some word may follow, and none but a number
abbrev pub CallsForNumber : Language → List Token → Type 0
CallsForNumber L ts =
    ((word : List ℕ) × Begins L 0 (ts ++ Word word ∷ []))
    × ((word : List ℕ) → Begins L 0 (ts ++ Word word ∷ []) → IsNumberWord word)

-- it would be right if parentheses might nest deeper
abbrev pub IsTooDeep : Language → List Token → Token → Type 0
IsTooDeep L ts t = (t ≡ Open) × ((more : ℕ) × Begins L more (ts ++ t ∷ []))

abbrev pub IsNoNumber : Language → List Token → Token → Type 0
IsNoNumber L ts t = CallsForNumber L ts × ((word : List ℕ) × (t ≡ Word word) × ¬ IsNumberWord word)

-- a number that fails its test, since else it would be right
abbrev pub IsOffRange : Language → List Token → Token → Type 0
IsOffRange L ts t = CallsForNumber L ts × ((word : List ℕ) × (t ≡ Word word) × IsNumberWord word)

-- what is wrong with a token at a place, after these tokens, with which nothing begins any more
abbrev pub IsTokenFault : Language → List Token → Token → ℕ → BpFault → Type 0
IsTokenFault L ts t place Long = ⊥
IsTokenFault L ts t place (Byte p) = ⊥
IsTokenFault L ts t place (Deep p) = (p ≡ place) × IsTooDeep L ts t
IsTokenFault L ts t place (Number p) = (p ≡ place) × IsNoNumber L ts t
IsTokenFault L ts t place (Range p) = (p ≡ place) × IsOffRange L ts t
IsTokenFault L ts t place (Shape p) =
    (p ≡ place) × ¬ IsTooDeep L ts t × ¬ IsNoNumber L ts t × ¬ IsOffRange L ts t

-- the first token with which nothing begins any more, and what is wrong with it
pub record StopsAtToken (L : Language) (ts : List Placed) (fault : BpFault) : Type 0 where
  pub front : List Placed
  pub token : Placed
  pub behind : List Placed
  pub parts : ts ≡ front ++ token ∷ behind
  pub begins : Begins L 0 (words_of front)
  pub stops : Begins L 0 (words_of front ++ token.token ∷ []) → ⊥
  pub why : IsTokenFault L (words_of front) token.token token.place fault

-- all tokens begin something and aren't it, and the text ends here
abbrev pub EndsUnfinished : Language → List Placed → ℕ → BpFault → Type 0
EndsUnfinished L ts end fault =
    (fault ≡ Shape end) × Begins L 0 (words_of ts) × ¬ L 0 (words_of ts)

abbrev pub HasTokenFault : Language → List Placed → ℕ → BpFault → Type 0
HasTokenFault L ts end fault = StopsAtToken L ts fault ⊎ EndsUnfinished L ts end fault

-- ---- the fault of a text

abbrev pub images : Language
images more ts = (i : ImageParts) × IsImageOf (max_room + more) ts i

-- a token that stands in texts
abbrev pub StandsInTexts : Placed → Type 0
StandsInTexts t = (byte : ℕ) → t.token ≡ Barred byte → ⊥

-- the first byte that no token or comment may have is here
abbrev pub IsBarredAt : List Placed → ℕ → Type 0
IsBarredAt ts place =
    (front : List Placed) × (byte : ℕ) × (behind : List Placed)
    × (ts ≡ front ++ record { token = Barred byte; place = place } ∷ behind)
    × All StandsInTexts front

-- a fault of the tokens, none of which is barred
abbrev pub IsShaped : List ℕ → BpFault → Type 0
IsShaped text fault =
    (length text ≤ 65536) × All StandsInTexts (tokens_of text)
    × HasTokenFault images (tokens_of text) (length text) fault

abbrev pub IsTextFault : List ℕ → BpFault → Type 0
IsTextFault text Long = 65536 < length text
IsTextFault text (Byte place) = (length text ≤ 65536) × IsBarredAt (tokens_of text) place
IsTextFault text (Shape place) = IsShaped text (Shape place)
IsTextFault text (Deep place) = IsShaped text (Deep place)
IsTextFault text (Number place) = IsShaped text (Number place)
IsTextFault text (Range place) = IsShaped text (Range place)
