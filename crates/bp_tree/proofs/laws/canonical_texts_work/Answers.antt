use Rattle.std.proofs.Common.{[], ◌∷◌, ◌++◌, ap, ◌∙◌, codes}
use Rattle.std.specs.Fmt.{digits}
use Rattle.omos_model.specs.declared.expr.Expr.TheVariants.{Path}
use Rattle.bp_tree.specs.Canonical.{each_spaced, expr_text}
use Rattle.bp_tree.proofs.Layers.{text_Path, text_Merge, text_Show}
use Rattle.bp_tree.proofs.laws.canonical_texts_work.Goals as goal

pub returns : goal.returns
unfolding digits
returns c = record {
  merged = ap (λ t. codes "(image " ++ t ++ codes ")")
      (text_Merge (Path (codes "/a") ∷ Path (codes "/b") ∷ [])
      ∙ ap (λ t. codes "(merge" ++ each_spaced
      (t ∷ expr_text (Path (codes "/b")) ∷ []) ++ codes ")") (text_Path (codes "/a"))
      ∙ ap (λ t. codes "(merge" ++ each_spaced (codes "/a" ∷ t ∷ []) ++ codes ")")
      (text_Path (codes "/b")));
  ranged = ap (λ t. codes "(image (range 0x10000 0x40000000) " ++ t ++ codes ")")
      (text_Path (codes "/a"));
  usual = ap (λ t. codes "(image " ++ t ++ codes ")") (text_Path (codes "/a"));
  shown = ap (λ t. codes "(image " ++ t ++ codes ")") (text_Show [] (Path (codes "/a"))
      ∙ ap (λ t. codes "(show (" ++ codes ") " ++ t ++ codes ")") (text_Path (codes "/a")));
}
