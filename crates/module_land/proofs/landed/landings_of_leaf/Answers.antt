use Rattle.std.proofs.Common.{map, ap, sym, ◌∙◌}
use Rattle.omos_model.specs.State.{landed}
use Rattle.module_table.specs.TableParts.{defined_in}
use Rattle.dict_row.specs.Keys.{decoded}
use Rattle.dict_row.proofs.Decoded.{map_decoded}
use Rattle.module_land.proofs.landed.landings_of_leaf.Goals as goal

pub returns : goal.returns
returns c =
    let f = landed (defined_in c.args.table.now) in
    let held = c.parts-marks.result.values.now in
    let keys = c.parts-marks.result.keys.now in
    c.of.ensures
    ∙ ap (decoded c.in_ok-landings.landings) c.in_ok-twin.ensures
    ∙ ap (λ landings. decoded landings keys) c.in_ok-landings.ensures
    ∙ sym (map_decoded f held keys)
    ∙ ap (map f) (sym c.parts-marks.ensures.list)
