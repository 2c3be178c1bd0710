use Rattle.std.proofs.Common.{[], ◌∷◌, sym, ◌∙◌, refl, codes}
use Rattle.bp_tree.specs.inside.Pending.{pending}
use Rattle.bp_tree.specs.inside.Header.{range_syms}
use Rattle.bp_tree.specs.inside.Symbols.{Low, Fails, AreSyms, WhyStops}
use Rattle.bp_tree.proofs.Arms.{fault_onward}
use Rattle.bp_tree.proofs.Sights.{not_true}
use Rattle.bp_tree.proofs.Headers.{range_absent, range_fails, range_read, one_opening, opens_with}
use Rattle.bp_tree.proofs.header.range.Goals as goal

pub returns-in-None : goal.returns-in-None
returns-in-None c =
    range_absent (pending c.args.from) (λ after o. c.in-None.ensures (codes "range") after o)

pub returns-else-same : goal.returns-else-same
returns-else-same c =
    let s = c.in-Some in
    range_absent (pending c.args.from) (λ after o.
    not_true (sym c.if-same.false
    ∙ c.same.ensures.1
    (one_opening (pending c.args.from) (pending s.after) after s.word.now (codes "range")
    s.ensures o)))

pub returns-in-Ok : goal.returns-in-Ok
returns-in-Ok c =
    let s = c.in-Some in
    let o = opens_with (pending c.args.from) (pending s.after) s.word.now (codes "range")
    (c.if-same.ensures.0 refl) s.ensures in
    range_read (pending c.args.from) (pending s.after) (pending c.in-Ok.after) c.in-Ok.lo c.in-Ok.hi
    o c.in-Ok.ensures

pub returns-in-Err : goal.returns-in-Err
returns-in-Err c =
    let s = c.in-Some in
    let o = opens_with (pending c.args.from) (pending s.after) s.word.now (codes "range")
    (c.if-same.ensures.0 refl) s.ensures in
    fault_onward _ c.in-Err.fault _ (Fails (Low ∷ []) (pending s.after))
    (WhyStops (AreSyms range_syms) (pending c.args.from)) c.in-Err.ensures
    (λ stop f. range_fails (pending c.args.from) (pending s.after) stop o f)
