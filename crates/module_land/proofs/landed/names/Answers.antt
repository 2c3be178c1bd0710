use Rattle.std.proofs.Common.{◌∙◌, ap, map}
use Rattle.link_model.specs.Module.{found}
use Rattle.module_land.proofs.Founds.{found_held, found_of}
use Rattle.module_land.proofs.Taken.{taken_all}
use Rattle.module_land.proofs.landed.names.Goals as goal

pub returns : goal.returns
returns c n =
    let held = c.args.table.now.exports in
    ap (λ xs. found xs n)
    (taken_all found_of c.loop-name.names c.loop-name.name-iterator (map found_of held)
    c.in-None.ensures.steps.0 c.loop-name.invariant)
    ∙ found_held held n
