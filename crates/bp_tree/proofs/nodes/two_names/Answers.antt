use Rattle.std.proofs.Common.{[], ◌∷◌, ◌++◌, ◌≡◌, ap, ◌∙◌}
use Rattle.omos_base.specs.SymNames.{IsSymName}
use Rattle.bp_tree.specs.Tokens.{Word}
use Rattle.bp_tree.specs.inside.Pending.{pending}
use Rattle.bp_tree.specs.inside.Symbols.{AName, Fails}
use Rattle.bp_tree.proofs.Arms.{err_arm}
use Rattle.bp_tree.proofs.Sequences.{fails_first, then_fails, then_read}
use Rattle.bp_tree.proofs.Solids.{solid_name}
use Rattle.bp_tree.proofs.nodes.two_names.Goals as goal

pub returns-in_err-first : goal.returns-in_err-first
returns-in_err-first c =
    err_arm c.from_residual.result c.in_err-first.field-0.0 _ _
    (Fails (AName ∷ []) (pending c.args.from))
    (Fails (AName ∷ AName ∷ []) (pending c.args.from)) c.from_residual.ensures.0
    c.from_residual.ensures.1
    c.in_err-first.ensures
    (λ stop f. fails_first (AName ∷ []) (AName ∷ []) (pending c.args.from) stop solid_name f)

pub returns-in_err-second : goal.returns-in_err-second
returns-in_err-second c =
    err_arm c.from_residual-in_err-second.result c.in_err-second.field-0.0 _ _
    (Fails (AName ∷ []) (pending c.in_ok-first.after))
    (Fails (AName ∷ AName ∷ []) (pending c.args.from)) c.from_residual-in_err-second.ensures.0
    c.from_residual-in_err-second.ensures.1
    c.in_err-second.ensures
    (λ stop f. then_fails (AName ∷ []) (AName ∷ []) _ (pending c.args.from)
    (pending c.in_ok-first.after) stop c.in_ok-first.ensures f)

pub returns : goal.returns
returns c =
    let a = c.in_ok-first.first in
    let b = c.in_ok-second.second in
    then_read (AName ∷ []) (AName ∷ []) (λ ws. (ws ≡ Word a ∷ []) × IsSymName a)
    (λ ws. (ws ≡ Word b ∷ []) × IsSymName b)
    (λ ws. (ws ≡ Word a ∷ Word b ∷ []) × IsSymName a × IsSymName b)
    (pending c.args.from) (pending c.in_ok-first.after) (pending c.in_ok-second.after)
    c.in_ok-first.ensures c.in_ok-second.ensures
    (λ xs ys v w. (ap (λ us. us ++ ys) v.0 ∙ ap (λ us. Word a ∷ us) w.0, v.1, w.1))
