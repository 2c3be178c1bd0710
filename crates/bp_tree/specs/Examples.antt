-- Worked examples.
use Rattle.std.specs.Prelude.{◌≡◌, ℕ, List, [], ◌∷◌, codes}
use Rattle.omos_model.specs.ImageParts.{image_of}
use Rattle.omos_model.specs.declared.entry.Start.TheVariants.{Named}
use Rattle.omos_model.specs.declared.expr.Expr.TheVariants.{Path, Merge, Show}
use Rattle.bp_tree.specs.Tokens.{Token, Open, Close, Word, Barred, tokens_of}
use Rattle.bp_tree.specs.Texts.{words_of}
use Rattle.bp_tree.specs.Canonical.{canonical_text}

abbrev words : List ℕ → List Token
words text = words_of (tokens_of text)

pub record TokensWork : Type 0 where
  pub plain : words (codes "(a  b)") ≡ Open ∷ Word (codes "a") ∷ Word (codes "b") ∷ Close ∷ []
  pub comment : words (codes "(a;x)\n)") ≡ Open ∷ Word (codes "a") ∷ Close ∷ []
  pub returned : words (codes "(a;x\r)") ≡ Open ∷ Word (codes "a") ∷ []
  pub quoted : words (codes "\"a") ≡ Barred 34 ∷ Word (codes "a") ∷ []
  pub placed : tokens_of (codes " ab") ≡ record { token = Word (codes "ab"); place = 1 } ∷ []

pub record CanonicalWorks : Type 0 where
  pub merged : canonical_text (image_of (Named (codes "_start")) 4194304 1073741824
      (Merge (Path (codes "/a") ∷ Path (codes "/b") ∷ []))) ≡ codes "(image (merge /a /b))"
  pub ranged : canonical_text
      (image_of (Named (codes "_start")) 65536 1073741824 (Path (codes "/a")))
      ≡ codes "(image (range 0x10000 0x40000000) /a)"
  pub usual : canonical_text
      (image_of (Named (codes "_start")) 4194304 1073741824 (Path (codes "/a")))
      ≡ codes "(image /a)"
  pub shown : canonical_text (image_of (Named (codes "_start")) 4194304 1073741824
      (Show [] (Path (codes "/a")))) ≡ codes "(image (show () /a))"
