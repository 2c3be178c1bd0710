use Rattle.bp_tree.proofs.ImageFaults.{image_law}
use Rattle.bp_tree.proofs.laws.images_have_no_token_fault.Goals as goal

pub returns : goal.returns
returns c = image_law
