use Rattle.std.proofs.Common.{◌∙◌, arith}
use Rattle.link_layout.specs.Program.{parts_in}
use Rattle.link_layout.proofs.Groups.{sizes-of_groups}
use Rattle.link_layout.proofs.Sized.{few_slots, groups_are, slots_are}
use Rattle.link_layout.proofs.layout_of.measure.Goals as goal

pub ends_of-requires : goal.ends_of-requires
ends_of-requires c = c.requires.leaves

pub groups_of-groups-requires-clause-few : goal.groups_of-groups-requires-clause-few
groups_of-groups-requires-clause-few c =
    few_slots c.args.program.now c.requires _ (c.as_slice.ensures.keys ∙ c.in_ok-slots.ensures)

pub returns-clause-slots : goal.returns-clause-slots
returns-clause-slots c = slots_are c.args.program.now c.requires _ c.in_ok-slots.ensures

pub returns-clause-groups : goal.returns-clause-groups
returns-clause-groups c =
    groups_are c.args.program.now c.requires _ (c.as_slice.ensures.keys ∙ c.in_ok-slots.ensures)
    c.ends_of.result c.groups_of-groups.result c.ends_of.ensures.ends
    c.groups_of-groups.ensures.groups

pub returns-clause-sizes : goal.returns-clause-sizes
returns-clause-sizes c =
    sizes-of_groups c.groups_of-groups.result (parts_in c.args.program.now)
    (groups_are c.args.program.now c.requires _ (c.as_slice.ensures.keys ∙ c.in_ok-slots.ensures)
    c.ends_of.result c.groups_of-groups.result c.ends_of.ensures.ends
    c.groups_of-groups.ensures.groups)

pub returns-clause-fit : goal.returns-clause-fit
returns-clause-fit c =
    omega (
      arith,
      c.groups_of-groups.ensures.slots,
      few_slots c.args.program.now c.requires _ c.in_ok-slots.ensures,
    )
