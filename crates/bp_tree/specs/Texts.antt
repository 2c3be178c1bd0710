-- Blueprint texts.
use Rattle.std.specs.Prelude.{ℕ, List, map}
use Rattle.omos_model.specs.ImageParts.{ImageParts}
use Rattle.bp_tree.specs.Tokens.{Token, Placed, tokens_of}
use Rattle.bp_tree.specs.Grammar.{IsImageOf}

abbrev pub words_of : List Placed → List Token
words_of ts = map (λ t. t.token) ts

-- the parentheses of a text nest at most 64 deep, the image's own counted
abbrev pub max_room : ℕ
max_room = 63

-- the text says the image
abbrev pub IsText : List ℕ → ImageParts → Type 0
IsText text image = IsImageOf max_room (words_of (tokens_of text)) image
