use Rattle.std.proofs.Common.{ap, sym}
use Rattle.std.specs.Option.{option_map}
use Rattle.omos_model.specs.Places.{serves}
use Rattle.omos_model.specs.declared.placement.Placement.{Placement}
use Rattle.place_book.proofs.Keys.{found, missing}
use Rattle.place_book.proofs.book.first_held.Goals as goal

pub returns-then-at-placed : goal.returns-then-at-placed
returns-then-at-placed c =
    rw (← c.index-placed-at.is)
    (sym (ap (option_map (λ (p : Placement). p.base))
    (found (serves c.args.path.now c.args.pages c.args.lo c.args.hi) c.args.placed.now
    c.position_held-at.result
    c.index-placed-at.result c.position_held-at.ensures.value c.if-at-placed.true
    c.index-placed-at.is)))

pub returns-else-at-placed : goal.returns-else-at-placed
returns-else-at-placed c =
    sym (ap (option_map (λ (p : Placement). p.base))
    (missing (serves c.args.path.now c.args.pages c.args.lo c.args.hi) c.args.placed.now
    c.position_held-at.result
    c.position_held-at.ensures.value c.if-at-placed.false))
