use Rattle.link_model.proofs.Stamps.{stamp_law, current_law}
use Rattle.link_model.proofs.laws.stamps_decide.Goals as goal

pub returns : goal.returns
returns c = record { stamp = stamp_law; current = current_law }
