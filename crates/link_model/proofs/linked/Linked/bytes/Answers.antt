use Rattle.link_model.proofs.Short.{image_is_short}
use Rattle.link_model.proofs.linked.Linked.bytes.Goals as goal

pub returns-clause-short : goal.returns-clause-short
returns-clause-short c =
    rw (← c.self.view_is)
    (image_is_short c.self.inside.footprint c.self.inside.path c.self.inside.base
    c.self.inside.bytes c.self.invariant.answered)
