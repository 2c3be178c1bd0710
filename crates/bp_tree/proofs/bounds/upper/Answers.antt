use Rattle.std.proofs.Common.{[], ◌∷◌, ap, sym, ◌∙◌}
use Rattle.bp_tree.specs.Tokens.{Close}
use Rattle.bp_tree.specs.inside.Pending.{pending, placed_first, seen}
use Rattle.bp_tree.specs.inside.Symbols.{It, High, Fails}
use Rattle.bp_tree.proofs.Arms.{fault_onward}
use Rattle.bp_tree.proofs.Sights.{seen_word, not_true}
use Rattle.bp_tree.proofs.Ranges.{high_called, number_early, number_shape, number_none, high_off}
use Rattle.bp_tree.proofs.Ranges.{high_fails, high_read}
use Rattle.bp_tree.proofs.bounds.upper.Goals as goal

pub returns-in-None : goal.returns-in-None
returns-in-None c =
    number_early (High c.args.lo) (high_called c.args.lo c.requires) (pending c.args.from)
    c.in-None.ensures

pub returns-in_default : goal.returns-in_default
returns-in_default c =
    number_shape (High c.args.lo) (high_called c.args.lo c.requires) (pending c.args.from)
    (placed_first c.in-Some.next) (pending c.in-Some.next.after) c.in-Some.ensures
    (λ w h. seen_word c.in-Some.next.token w h (λ u e _. c.in_default.not-Word u e))

pub returns-in-None-number : goal.returns-in-None-number
returns-in-None-number c =
    number_none (High c.args.lo) (high_called c.args.lo c.requires) (pending c.args.from)
    (placed_first c.in-Some.next) (pending c.in-Some.next.after) c.in-Some.ensures
    c.in-Word.word.now (ap seen c.in-Word.is) c.in-None-number.ensures

pub returns-else-are_bounds : goal.returns-else-are_bounds
returns-else-are_bounds c =
    high_off c.args.lo (pending c.args.from) (placed_first c.in-Some.next)
    (pending c.in-Some.next.after) c.requires c.in-Some.ensures
    c.in-Word.word.now c.in-Some-number.hi (ap seen c.in-Word.is) c.in-Some-number.ensures
    (λ h. not_true (sym c.if-are_bounds.false ∙ c.are_bounds.ensures ∙ h))

pub returns-in-Ok : goal.returns-in-Ok
returns-in-Ok c =
    high_read (pending c.args.from) (placed_first c.in-Some.next) (pending c.in-Some.next.after)
    (pending c.in-Ok.after) c.in-Word.word.now
    c.args.lo c.in-Some-number.hi c.in-Some.ensures (ap seen c.in-Word.is) c.in-Some-number.ensures
    (sym c.are_bounds.ensures ∙ c.if-are_bounds.true) c.in-Ok.ensures

pub returns-in-Err : goal.returns-in-Err
returns-in-Err c =
    fault_onward _ c.in-Err.fault _ (Fails (It Close ∷ []) (pending c.in-Some.next.after))
    (Fails (High c.args.lo ∷ []) (pending c.args.from)) c.in-Err.ensures
    (λ stop f. high_fails (pending c.args.from) (placed_first c.in-Some.next)
    (pending c.in-Some.next.after) c.in-Word.word.now
    c.args.lo c.in-Some-number.hi stop c.in-Some.ensures (ap seen c.in-Word.is)
    c.in-Some-number.ensures
    (sym c.are_bounds.ensures ∙ c.if-are_bounds.true) f)
