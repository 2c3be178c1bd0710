use Rattle.link_model.proofs.Short.{image_is_short}
use Rattle.link_model.proofs.laws.images_are_short.Goals as goal

pub returns : goal.returns
returns c = image_is_short
