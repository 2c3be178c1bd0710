use Rattle.link_model.proofs.Footprints.{frame_law, own_frame_law}
use Rattle.link_model.proofs.laws.footprints_decide.Goals as goal

pub returns : goal.returns
returns c = record { frame = frame_law; own = own_frame_law }
