use Rattle.std.proofs.Common.{length, ap, sym, ◌∙◌}
use Rattle.omos_model.proofs.FixupLaws.{count_of}
use Rattle.omos_model.proofs.fixups.Fixups.len.Goals as goal

pub returns : goal.returns
returns c =
    c.len.ensures ∙ sym (count_of c.self.inside.fields c.self.inside.aims c.self.invariant)
    ∙ ap length c.self.view_is
