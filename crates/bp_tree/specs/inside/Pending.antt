-- What a reader has before it.
use Rattle.std.specs.Prelude.{◌≡◌, ◌≤◌, ℕ, List, [], ◌∷◌, Bool, true, false, ◌==◌, take, drop}
use Rattle.std.specs.Prelude.{length, IsTrue}
use Rattle.std.specs.List.{list_all}
use Rattle.omos_model.specs.Names.{is_name_byte}
use Rattle.bp_tree.specs.Tokens.{Token, Open, Close, Word, Barred, Placed, tokens_from, begins_word}
use Rattle.bp_tree.specs.Tokens.{is_blank}
use Rattle.bp_tree.specs.declared.token.Reader.{Reader}
use Rattle.bp_tree.specs.declared.token.Next.{Next}
use Rattle.bp_tree.specs.declared.token.Token as kind
use Rattle.bp_tree.specs.declared.token.Token.TheVariants as code

abbrev pub pending : Reader → List Placed
pending r = tokens_from false r.place r.rest.now

-- the bytes begin with a token, or there are none
abbrev pub AtToken : List ℕ → Type 0
AtToken [] = Unit {0}
AtToken (byte ∷ rest) = ((byte == 59) ≡ false) × (is_blank byte ≡ false)

-- the bytes begin with no blank
abbrev pub AtByte : List ℕ → Type 0
AtByte [] = Unit {0}
AtByte (byte ∷ rest) = is_blank byte ≡ false

abbrev pub begins_comment : List ℕ → Bool
begins_comment [] = false
begins_comment (byte ∷ rest) = byte == 59

abbrev pub seen : kind.Token → Token
seen code.Open = Open
seen code.Close = Close
seen (code.Word w) = Word w.now
seen (code.Barred b) = Barred b

abbrev pub placed_first : Next → Placed
placed_first n = record { token = seen n.token; place = n.place }

-- the first of these tokens, before those that are pending after it
abbrev pub IsNextToken : List Placed → Next → Type 0
IsNextToken ts n = ts ≡ placed_first n ∷ pending n.after

-- a word of so many bytes comes first
pub record IsFirstWord (size : ℕ) (bytes : List ℕ) : Type 0 where
  pub begins : begins_word bytes ≡ true
  pub within : size ≤ length bytes
  pub word : IsTrue (list_all is_name_byte (take size bytes))
  pub longest : begins_word (drop size bytes) ≡ false
