use Rattle.std.proofs.Common.{map, ap, sym, ◌∙◌}
use Rattle.omos_model.specs.FixupParts.{field_of}
use Rattle.omos_model.proofs.FixupLaws.{fields_in}
use Rattle.omos_model.proofs.fixups.Fixups.fields.Goals as goal

pub returns : goal.returns
returns c =
    c.as_slice.ensures ∙ sym (fields_in c.self.inside.fields c.self.inside.aims c.self.invariant)
    ∙ ap (map field_of) c.self.view_is
