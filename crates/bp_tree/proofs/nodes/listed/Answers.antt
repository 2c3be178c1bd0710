use Rattle.std.proofs.Common.{[], ◌∷◌, ◌++◌, ◌≡◌, ap, ◌∙◌, map, All}
use Rattle.omos_base.specs.SymNames.{IsSymName}
use Rattle.bp_tree.specs.Tokens.{Open, Close, Word}
use Rattle.bp_tree.specs.inside.Pending.{pending}
use Rattle.bp_tree.specs.inside.Symbols.{It, Names, Fails}
use Rattle.bp_tree.proofs.Arms.{err_arm, onward}
use Rattle.bp_tree.proofs.Sequences.{fails_first, then_fails, then_read}
use Rattle.bp_tree.proofs.Solids.{solid_names}
use Rattle.bp_tree.proofs.nodes.listed.Goals as goal

pub returns-in_err-after : goal.returns-in_err-after
returns-in_err-after c =
    err_arm c.from_residual.result c.in_err-after.field-0.0 _ _
    (Fails (It Open ∷ []) (pending c.args.from))
    (Fails (It Open ∷ Names ∷ []) (pending c.args.from)) c.from_residual.ensures.0
    c.from_residual.ensures.1
    c.in_err-after.ensures
    (λ stop f. fails_first (It Open ∷ []) (Names ∷ []) (pending c.args.from) stop solid_names f)

pub returns : goal.returns
returns c =
    onward c.names.result _ _ _ _ c.names.ensures
    (λ v r. then_read (It Open ∷ []) (Names ∷ []) (λ ws. ws ≡ Open ∷ [])
    (λ ws. (ws ≡ map Word v.0 ++ Close ∷ []) × All IsSymName v.0)
    (λ ws. (ws ≡ Open ∷ (map Word v.0 ++ Close ∷ [])) × All IsSymName v.0)
    (pending c.args.from) (pending c.in_ok-after.after) (pending v.1) c.in_ok-after.ensures r
    (λ xs ys p q. (ap (λ us. us ++ ys) p ∙ ap (λ us. Open ∷ us) q.0, q.1)))
    (λ stop f. then_fails (It Open ∷ []) (Names ∷ []) (λ ws. ws ≡ Open ∷ []) (pending c.args.from)
    (pending c.in_ok-after.after) stop c.in_ok-after.ensures f)
