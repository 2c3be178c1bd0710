use Rattle.omos_outside.proofs.Written.{wrote_after}
use Rattle.omos_outside.proofs.writing.write_both.Goals as goal

pub returns-in-All-clause-wrote : goal.returns-in-All-clause-wrote
returns-in-All-clause-wrote g c = wrote_after _ _ _ _ _ _ c.in-All.ensures.wrote
    c.write_all-in-All.ensures.wrote
