use Rattle.std.proofs.Common.{◌≡◌, ℕ, List, [], ◌∷◌, ◌++◌, drop, sym, ap, ◌∙◌}
use Rattle.omos_model.specs.ImageParts.{ImageParts, image_of}
use Rattle.bp_tree.specs.Tokens.{Token, Close, tokens_of}
use Rattle.bp_tree.specs.Texts.{words_of}
use Rattle.bp_tree.specs.Grammar.{IsImageOf}
use Rattle.bp_tree.specs.Laws.{OneImageLaw}
use Rattle.bp_tree.proofs.Headers.{expr_kind, range_kind}
use Rattle.bp_tree.proofs.Readings.{one_start, one_range, one_expr}
use Rattle.bp_tree.proofs.laws.texts_say_one_image.Goals as goal

one_image : (n : ℕ) (ts : List Token) (a b : ImageParts) → IsImageOf n ts a → IsImageOf n ts b
    → a ≡ b
one_image n ts a b h k =
    let body = h.2 ++ Close ∷ [] in
    let body' = k.2 ++ Close ∷ [] in
    let plain = expr_kind n h.2 a.body (Close ∷ []) h.6 in
    let plain' = expr_kind n k.2 b.body (Close ∷ []) k.6 in
    let whole : h.0 ++ (h.1 ++ body) ≡ k.0 ++ (k.1 ++ body') = ap (drop 2) (sym h.3 ∙ k.3) in
    let s =
    one_start h.0 k.0 a.start b.start (h.1 ++ body) (k.1 ++ body') whole h.4 k.4
    (range_kind h.1 a.lo a.hi body h.5 plain) (range_kind k.1 b.lo b.hi body' k.5 plain') in
    let r = one_range h.1 k.1 a.lo a.hi b.lo b.hi body body' s.1 h.5 k.5 plain plain' in
    let x = one_expr n h.2 k.2 a.body b.body (Close ∷ []) r.2 h.6 k.6 in
    ap (λ s. image_of s a.lo a.hi a.body) s.0 ∙ ap (λ l. image_of b.start l a.hi a.body) r.0
    ∙ ap (λ u. image_of b.start b.lo u a.body) r.1 ∙ ap (λ e. image_of b.start b.lo b.hi e) x

law : OneImageLaw
law text a b h k = one_image 63 (words_of (tokens_of text)) a b h k

pub returns : goal.returns
returns c = law
