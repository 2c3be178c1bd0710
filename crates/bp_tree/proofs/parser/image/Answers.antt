use Rattle.std.proofs.Common.{[], ◌∷◌}
use Rattle.bp_tree.specs.Tokens.{Close}
use Rattle.bp_tree.specs.inside.Pending.{pending}
use Rattle.bp_tree.specs.inside.Header.{image_syms}
use Rattle.bp_tree.specs.inside.Symbols.{It, AnExpr, Fails, AreSyms, WhyStops}
use Rattle.bp_tree.specs.TextFaults.{images}
use Rattle.bp_tree.proofs.Arms.{err_arm, fault_onward}
use Rattle.bp_tree.proofs.Images.{as_images, body_stops, close_stops, end_stops, whole, lawful}
use Rattle.bp_tree.proofs.parser.image.Goals as goal

pub returns-in_err-begin : goal.returns-in_err-begin
returns-in_err-begin c =
    let r = c.from_residual in
    err_arm r.result c.in_err-begin.field-0.0 _ _
    (WhyStops (AreSyms image_syms) (pending c.args.from))
    (WhyStops images (pending c.args.from))
    r.ensures.0 r.ensures.1 c.in_err-begin.ensures (as_images (pending c.args.from))

pub returns-in_err-body : goal.returns-in_err-body
returns-in_err-body c =
    let r = c.from_residual-in_err-body in
    let h = c.in_ok-begin in
    err_arm r.result c.in_err-body.field-0.0 _ _ (Fails (AnExpr 63 ∷ []) (pending h.rest))
    (WhyStops images (pending c.args.from))
    r.ensures.0 r.ensures.1 c.in_err-body.ensures
    (λ stop f. body_stops h.begin h.lo h.hi (pending c.args.from) (pending h.rest) stop h.ensures f)

pub returns-in_err-closed : goal.returns-in_err-closed
returns-in_err-closed c =
    let r = c.from_residual-in_err-closed in
    let h = c.in_ok-begin in
    let b = c.in_ok-body in
    err_arm r.result c.in_err-closed.field-0.0 _ _ (Fails (It Close ∷ []) (pending b.behind))
    (WhyStops images (pending c.args.from))
    r.ensures.0 r.ensures.1 c.in_err-closed.ensures
    (λ stop f. close_stops h.begin h.lo h.hi b.body (pending c.args.from) (pending h.rest)
    (pending b.behind) stop h.ensures b.ensures f)

pub of-requires : goal.of-requires
of-requires c =
    let h = c.in_ok-begin in
    let b = c.in_ok-body in
    lawful h.begin h.lo h.hi b.body (pending c.args.from) (pending h.rest) (pending b.behind)
    h.ensures b.ensures

pub returns-in-Err : goal.returns-in-Err
returns-in-Err c =
    let h = c.in_ok-begin in
    let b = c.in_ok-body in
    let q = c.in_ok-closed in
    fault_onward _ c.in-Err.fault _ (WhyStops (AreSyms []) (pending q.closed))
    (WhyStops images (pending c.args.from)) c.in-Err.ensures
    (λ stop f. end_stops h.begin h.lo h.hi b.body (pending c.args.from) (pending h.rest)
    (pending b.behind) (pending q.closed) stop h.ensures b.ensures q.ensures f)

pub returns-in-Ok : goal.returns-in-Ok
returns-in-Ok c =
    let h = c.in_ok-begin in
    let b = c.in_ok-body in
    let q = c.in_ok-closed in
    rw c.of.ensures
    (whole h.begin h.lo h.hi b.body (pending c.args.from) (pending h.rest) (pending b.behind)
    (pending q.closed) h.ensures b.ensures q.ensures c.in-Ok.ensures)
