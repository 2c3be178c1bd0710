use Rattle.std.proofs.Common.{◌<◌, ◌≤◌, sym, ◌∙◌, arith}
use Rattle.std.proofs.lemmas.Bool.{true≢false}
use Rattle.fragment_read.proofs.Right.{aim_there, has_name_unless_local, local_common, placed_local}
use Rattle.fragment_read.proofs.Right.{undropped}
use Rattle.fragment_read.proofs.fixups.aim_of.Goals as goal

pub spot_of-requires-clause-placed : goal.spot_of-requires-clause-placed
spot_of-requires-clause-placed c =
    let file = c.args.tables.now in
    let some : 0 < c.args.k = omega (arith, c.if-k-eq0.false) in
    let is = sym c.if-is_local.ensures in
    placed_local file c.args.k c.requires.right (omega arith)
    (aim_there file c.args.k c.requires.there) is
    (undropped file c.args.k c.requires.there some is)

pub spot_of-requires-clause-common : goal.spot_of-requires-clause-common
spot_of-requires-clause-common c =
    let file = c.args.tables.now in
    let low : 1 ≤ c.args.k = omega (arith, c.if-k-eq0.false) in
    let none =
    local_common file c.args.k c.requires.right low (aim_there file c.args.k c.requires.there)
    (sym c.if-is_local.ensures) in
    λ common. absurd (true≢false (sym common ∙ none))

pub name-requires-clause-has : goal.name-requires-clause-has
name-requires-clause-has c =
    let file = c.args.tables.now in
    let low : 1 ≤ c.args.k = omega (arith, c.if-k-eq0.false) in
    has_name_unless_local file c.args.k c.requires.right low
    (aim_there file c.args.k c.requires.there) (sym c.if-is_local.ensures)
