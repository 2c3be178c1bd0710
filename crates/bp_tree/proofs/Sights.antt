-- The tokens of the code, and what they are seen as.
use Rattle.std.proofs.Common.{◌≡◌, ℕ, List, sym, ap, ◌∙◌, IsTrue, true, false}
use Rattle.bp_tree.specs.Tokens.{Open, Close, Word, Barred}
use Rattle.bp_tree.specs.inside.Pending.{seen}
use Rattle.bp_tree.specs.declared.token.Token as kind
use Rattle.bp_tree.specs.declared.token.Token.TheVariants as code

pub seen_open : (t : kind.Token) → seen t ≡ Open → (t ≡ code.Open → ⊥) → ⊥
seen_open code.Open h other = other (λ _. code.Open)
seen_open code.Close h other = cc
seen_open (code.Word w) h other = cc
seen_open (code.Barred b) h other = cc

pub seen_close : (t : kind.Token) → seen t ≡ Close → (t ≡ code.Close → ⊥) → ⊥
seen_close code.Open h other = cc
seen_close code.Close h other = other (λ _. code.Close)
seen_close (code.Word w) h other = cc
seen_close (code.Barred b) h other = cc

pub seen_word : (t : kind.Token) (n : List ℕ) → seen t ≡ Word n
    → ((w : _) → t ≡ code.Word w → n ≡ w.now → ⊥) → ⊥
seen_word code.Open n h other = cc
seen_word code.Close n h other = cc
seen_word (code.Word w) n h other = let e : n ≡ w.now = cc in other w (λ _. code.Word w) e
seen_word (code.Barred b) n h other = cc

-- the word that was seen
pub word_is : (t : kind.Token) (w : _) (n : List ℕ) → t ≡ code.Word w → seen t ≡ Word n → n ≡ w.now
word_is t w n e h = let k : Word n ≡ Word w.now = sym h ∙ ap seen e in cc

pub not_close : (t : kind.Token) (w : _) → t ≡ code.Word w → seen t ≡ Close → ⊥
not_close t w e h = let k : Close ≡ Word w.now = sym h ∙ ap seen e in cc

pub not_true : IsTrue false → ⊥
not_true h = let k : false ≡ true = h in cc

pub not_open : (t : kind.Token) (w : _) → t ≡ code.Word w → seen t ≡ Open → ⊥
not_open t w e h = let k : Open ≡ Word w.now = sym h ∙ ap seen e in cc

pub allowed : (t : kind.Token) (byte : ℕ) → seen t ≡ Barred byte → ((b : ℕ) → t ≡ code.Barred b → ⊥)
    → ⊥
allowed code.Open byte h other = cc
allowed code.Close byte h other = cc
allowed (code.Word w) byte h other = cc
allowed (code.Barred b) byte h other = other b (λ _. code.Barred b)
