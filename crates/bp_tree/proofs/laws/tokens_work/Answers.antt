use Rattle.std.proofs.Common.{refl}
use Rattle.bp_tree.proofs.laws.tokens_work.Goals as goal

pub returns : goal.returns
returns c = record { plain = refl; comment = refl; returned = refl; quoted = refl; placed = refl }
