use Rattle.std.proofs.Common.{ap, sym, ◌∙◌}
use Rattle.omos_model.specs.declared.entry.Stamped.{Stamped}
use Rattle.link_model.proofs.Ranges.{object_range, image_range}
use Rattle.link_model.proofs.evaluated.range_is_lawful.Goals as goal

pub returns-in-Object : goal.returns-in-Object
returns-in-Object c =
    let first = rw c.footprint.ensures.footprint at c.index-footprint-0.is in
    object_range c.args.evaluated.now c.index-footprint-0.result c.in-Object.field-0
    c.path-path.ensures.evaluated first
    (ap (λ (s : Stamped). s.entry) c.index-footprint-0.is ∙ sym c.get.ensures ∙ c.in-Object.is)

pub returns-in-Blueprint : goal.returns-in-Blueprint
returns-in-Blueprint c =
    let first = rw c.footprint.ensures.footprint at c.index-footprint-0.is in
    image_range c.args.evaluated.now c.index-footprint-0.result c.in-Blueprint.image
    c.path-path.ensures.evaluated first
    (ap (λ (s : Stamped). s.entry) c.index-footprint-0.is ∙ sym c.get.ensures ∙ c.in-Blueprint.is)
    c.lo-lo.ensures.lawful
