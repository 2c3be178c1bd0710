use Rattle.std.proofs.Common.{map, ap, sym, ◌∙◌}
use Rattle.omos_model.specs.State.{mark_of}
use Rattle.dict_row.specs.Keys.{decoded}
use Rattle.dict_row.proofs.Decoded.{map_decoded}
use Rattle.module_table.proofs.marks.of_leaf.Goals as goal

pub returns : goal.returns
returns c =
    let f = mark_of c.args.leaf in
    let values = c.parts-aims.result.values.now in
    let keys = c.parts-aims.result.keys.now in
    c.of.ensures
    ∙ ap (decoded c.in_ok-marks.marks) c.in_ok-twin.ensures
    ∙ ap (λ marks. decoded marks keys) c.in_ok-marks.ensures
    ∙ sym (map_decoded f values keys)
    ∙ ap (map f) (sym c.parts-aims.ensures.list)
