use Rattle.std.proofs.Common.{List, map, ap, sym, ◌∙◌}
use Rattle.omos_model.specs.declared.fragment.Fixup.{Fixup}
use Rattle.omos_model.proofs.FixupLaws.{aims_in}
use Rattle.omos_model.proofs.fixups.Fixups.aims.Goals as goal

pub returns : goal.returns
returns c =
    sym (aims_in c.self.inside.fields c.self.inside.aims c.self.invariant)
    ∙ ap (λ (xs : List Fixup). map (λ x. x.aim) xs) c.self.view_is
