use Rattle.std.proofs.Common.{[], ◌∷◌, codes}
use Rattle.bp_tree.specs.Tokens.{Open, Word}
use Rattle.bp_tree.specs.inside.Pending.{pending}
use Rattle.bp_tree.specs.inside.Header.{range_syms, image_syms}
use Rattle.bp_tree.specs.inside.Symbols.{It, AStart, Fails, AreSyms, WhyStops}
use Rattle.bp_tree.proofs.Arms.{err_arm}
use Rattle.bp_tree.proofs.Images.{open_stops, image_stops, start_stops, range_stops, head_done}
use Rattle.bp_tree.proofs.parser.head.Goals as goal

pub returns-in_err-opened : goal.returns-in_err-opened
returns-in_err-opened c =
    let r = c.from_residual in
    err_arm r.result c.in_err-opened.field-0.0 _ _ (Fails (It Open ∷ []) (pending c.args.from))
    (WhyStops (AreSyms image_syms) (pending c.args.from))
    r.ensures.0 r.ensures.1 c.in_err-opened.ensures (open_stops (pending c.args.from))

pub returns-in_err-named : goal.returns-in_err-named
returns-in_err-named c =
    let r = c.from_residual-in_err-named in
    err_arm r.result c.in_err-named.field-0.0 _ _
    (Fails (It (Word (codes "image")) ∷ []) (pending c.in_ok-opened.opened))
    (WhyStops (AreSyms image_syms) (pending c.args.from))
    r.ensures.0 r.ensures.1 c.in_err-named.ensures
    (λ stop f. image_stops (pending c.args.from) (pending c.in_ok-opened.opened) stop
    c.in_ok-opened.ensures f)

pub returns-in_err-begin : goal.returns-in_err-begin
returns-in_err-begin c =
    let r = c.from_residual-in_err-begin in
    err_arm r.result c.in_err-begin.field-0.0 _ _
    (WhyStops (AreSyms (AStart ∷ range_syms)) (pending c.in_ok-named.named))
    (WhyStops (AreSyms image_syms) (pending c.args.from))
    r.ensures.0 r.ensures.1 c.in_err-begin.ensures
    (λ stop f. start_stops (pending c.args.from) (pending c.in_ok-opened.opened)
    (pending c.in_ok-named.named) stop c.in_ok-opened.ensures c.in_ok-named.ensures f)

pub returns-in_err-lo : goal.returns-in_err-lo
returns-in_err-lo c =
    let r = c.from_residual-in_err-lo in
    err_arm r.result c.in_err-lo.field-0.0 _ _
    (WhyStops (AreSyms range_syms) (pending c.in_ok-begin.behind))
    (WhyStops (AreSyms image_syms) (pending c.args.from))
    r.ensures.0 r.ensures.1 c.in_err-lo.ensures
    (λ stop f. range_stops c.in_ok-begin.begin (pending c.args.from) (pending c.in_ok-opened.opened)
    (pending c.in_ok-named.named) (pending c.in_ok-begin.behind) stop
    c.in_ok-opened.ensures c.in_ok-named.ensures c.in_ok-begin.ensures f)

pub returns : goal.returns
returns c =
    head_done c.in_ok-begin.begin c.in_ok-lo.lo c.in_ok-lo.hi (pending c.args.from)
    (pending c.in_ok-opened.opened) (pending c.in_ok-named.named)
    (pending c.in_ok-begin.behind) (pending c.in_ok-lo.rest) c.in_ok-opened.ensures
    c.in_ok-named.ensures c.in_ok-begin.ensures c.in_ok-lo.ensures
