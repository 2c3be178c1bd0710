use Rattle.std.proofs.Common.{ap, sym, ◌∙◌}
use Rattle.std.specs.List.{list_all}
use Rattle.link_layout.specs.inside.References.{is_bound}
use Rattle.link_layout.proofs.ByPlace.{all-decoded}
use Rattle.link_layout.proofs.references.are_bound.Goals as goal

pub returns : goal.returns
returns c h =
    ap (list_all is_bound) c.parts.ensures.list
    ∙ all-decoded is_bound _ _ (sym c.all_bound.ensures ∙ h)
