use Rattle.std.proofs.Common.{arith}
use Rattle.omos_model.specs.declared.refusal.BpFault.TheVariants.{Long, Byte, Shape, Deep, Number}
use Rattle.omos_model.specs.declared.refusal.BpFault.TheVariants.{Range}
use Rattle.bp_tree.specs.Tokens.{tokens_of}
use Rattle.bp_tree.specs.Laws.{NotBothLaw}
use Rattle.bp_tree.proofs.ImageFaults.{image_law, none_barred}
use Rattle.bp_tree.proofs.laws.images_have_no_fault.Goals as goal

law : NotBothLaw
law text image Long is short h = omega arith
law text image (Byte p) is short h = none_barred 63 (tokens_of text) image p is h.1
law text image (Shape p) is short h = image_law text image (Shape p) is h.2
law text image (Deep p) is short h = image_law text image (Deep p) is h.2
law text image (Number p) is short h = image_law text image (Number p) is h.2
law text image (Range p) is short h = image_law text image (Range p) is h.2

pub returns : goal.returns
returns c = law
