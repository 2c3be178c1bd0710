use Rattle.std.proofs.Common.{[], ◌∷◌, ◌++◌, ap, ◌∙◌, ◌≡◌}
use Rattle.omos_base.specs.SymNames.{IsSymName}
use Rattle.bp_tree.specs.Tokens.{Close, Word}
use Rattle.bp_tree.specs.inside.Pending.{pending}
use Rattle.bp_tree.specs.inside.Symbols.{It, AName, Fails}
use Rattle.bp_tree.proofs.Arms.{fault_onward}
use Rattle.bp_tree.proofs.Sequences.{fails_first, then_fails, then_read}
use Rattle.bp_tree.proofs.Solids.{solid_it}
use Rattle.bp_tree.proofs.header.entry.Goals as goal

pub returns-in-Err : goal.returns-in-Err
returns-in-Err c =
    fault_onward _ c.in-Err.fault _ (Fails (AName ∷ []) (pending c.args.from))
    (Fails (AName ∷ It Close ∷ []) (pending c.args.from)) c.in-Err.ensures
    (λ stop f. fails_first (AName ∷ []) (It Close ∷ []) (pending c.args.from) stop (solid_it Close)
    f)

pub returns-in-Err-close : goal.returns-in-Err-close
returns-in-Err-close c =
    fault_onward _ c.in-Err-close.fault _ (Fails (It Close ∷ []) (pending c.in-Ok.after))
    (Fails (AName ∷ It Close ∷ []) (pending c.args.from)) c.in-Err-close.ensures
    (λ stop f. then_fails (AName ∷ []) (It Close ∷ []) _ (pending c.args.from)
    (pending c.in-Ok.after) stop c.in-Ok.ensures f)

pub returns-in-Ok-close : goal.returns-in-Ok-close
returns-in-Ok-close c =
    let n = c.in-Ok.name in
    then_read (AName ∷ []) (It Close ∷ []) (λ ws. (ws ≡ Word n ∷ []) × IsSymName n)
    (λ ws. ws ≡ Close ∷ [])
    (λ ws. (ws ≡ Word n ∷ Close ∷ []) × IsSymName n)
    (pending c.args.from) (pending c.in-Ok.after) (pending c.in-Ok-close.after) c.in-Ok.ensures
    c.in-Ok-close.ensures
    (λ xs ys v w. (ap (λ us. us ++ ys) v.0 ∙ ap (λ us. Word n ∷ us) w, v.1))
