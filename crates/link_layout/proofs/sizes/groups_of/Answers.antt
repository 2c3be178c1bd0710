use Rattle.std.proofs.Common.{arith, refl}
use Rattle.omos_model.specs.declared.fragment.Group.TheVariants.{Vars}
use Rattle.link_layout.proofs.Groups.{groups-same}
use Rattle.link_layout.proofs.sizes.groups_of.Goals as goal

pub aligned-requires-clause-offset : goal.aligned-requires-clause-offset
aligned-requires-clause-offset c = omega (arith, c.requires.near Vars)

pub overflow_add-result : goal.overflow_add-result
overflow_add-result c =
    omega (
      arith,
      c.requires.near Vars,
      c.begins_of-begins.ensures.near Vars,
      c.aligned.ensures.near,
    )

pub returns-clause-slots : goal.returns-clause-slots
returns-clause-slots c =
    omega (
      arith,
      c.requires.near Vars,
      c.begins_of-begins.ensures.near Vars,
      c.aligned.ensures.near,
    )

pub returns-clause-groups : goal.returns-clause-groups
returns-clause-groups c = λ parts ends slots.
    groups-same c.args.ends.now c.sizes_of-sizes.result c.begins_of-begins.result c.aligned.result _
    parts ends (c.sizes_of-sizes.ensures.sizes parts ends slots)
    (c.begins_of-begins.ensures.begins parts (c.sizes_of-sizes.ensures.sizes parts ends slots))
    c.aligned.ensures.value refl
