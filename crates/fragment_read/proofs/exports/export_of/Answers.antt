use Rattle.fragment_read.proofs.Right.{placed_export}
use Rattle.fragment_read.proofs.exports.export_of.Goals as goal

pub spot_of-requires-clause-placed : goal.spot_of-requires-clause-placed
spot_of-requires-clause-placed c =
    let r = c.requires in placed_export c.args.tables.now c.args.k r.right r.counted r.there
    r.defined
