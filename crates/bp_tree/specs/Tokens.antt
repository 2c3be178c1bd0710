-- How the bytes of a text become tokens, each with the place of its first byte.
use Rattle.std.specs.Prelude.{ℕ, ◌+◌, ◌==◌, ◌||◌, ◌&&◌, not, Bool, true, false, cond, List, [], ◌∷◌}
use Rattle.omos_model.specs.Names.{is_name_byte}

-- a word is a longest run of bytes that a symbol name may have; a byte that may not stand in a
-- text is a token of its own, with which nothing goes on
pub data Token : Type 0 where
  Open : Token
  Close : Token
  Word : List ℕ → Token
  Barred : ℕ → Token

pub record Placed : Type 0 where
  pub token : Token
  pub place : ℕ

-- space, tab, newline and carriage return
abbrev pub is_blank : ℕ → Bool
is_blank byte = (byte == 32) || (byte == 9) || (byte == 10) || (byte == 13)

-- the bytes begin with one that a word may have
abbrev pub begins_word : List ℕ → Bool
begins_word [] = false
begins_word (byte ∷ rest) = is_name_byte byte

-- a word with a byte in front of it
abbrev pub grown : ℕ → Token → Token
grown byte (Word w) = Word (byte ∷ w)
grown byte Open = Open
grown byte Close = Close
grown byte (Barred b) = Barred b

-- a byte, at this place, in front of the word that comes first
abbrev pub in_front : ℕ → ℕ → List Placed → List Placed
in_front byte place [] = []
in_front byte place (t ∷ ts) = record { token = grown byte t.token; place = place } ∷ ts

-- what stands for itself
abbrev pub mark : ℕ → Token
mark byte = cond (byte == 40) Open (cond (byte == 41) Close (Barred byte))

-- the tokens of bytes that begin at a place, in a comment or not: a comment goes from a `;` to the
-- next newline
abbrev pub tokens_from : Bool → ℕ → List ℕ → List Placed
tokens_from comment place [] = []
tokens_from true place (byte ∷ rest) = tokens_from (not (byte == 10)) (place + 1) rest
tokens_from false place (byte ∷ rest) =
    cond (byte == 59) (tokens_from true (place + 1) rest)
    (cond (is_blank byte) (tokens_from false (place + 1) rest)
    (cond (is_name_byte byte && begins_word rest)
    (in_front byte place (tokens_from false (place + 1) rest))
    (record { token = cond (is_name_byte byte) (Word (byte ∷ [])) (mark byte); place = place }
    ∷ tokens_from false (place + 1) rest)))

abbrev pub tokens_of : List ℕ → List Placed
tokens_of text = tokens_from false 0 text
