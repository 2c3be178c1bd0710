use Rattle.std.proofs.Common.{ap, sym, ◌∙◌}
use Rattle.link_model.specs.Layout.{same_target, slot_number}
use Rattle.link_model.proofs.Places.{not_found}
use Rattle.link_model.proofs.layout.number_in.Goals as goal

pub returns-in-None-clause-number : goal.returns-in-None-clause-number
returns-in-None-clause-number c =
    c.len.ensures.len
    ∙ not_found (same_target c.of.result) c.args.slots.now.keys (sym c.in-None.ensures.index)
    ∙ ap (slot_number c.args.slots.now.keys) c.of.ensures
