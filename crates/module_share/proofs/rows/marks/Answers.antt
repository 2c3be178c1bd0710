use Rattle.std.proofs.Common.{map, ap, sym, ◌∙◌}
use Rattle.dict_row.specs.Keys.{decoded}
use Rattle.dict_row.proofs.Decoded.{map_decoded}
use Rattle.module_share.specs.Shifted.{shifted_mark}
use Rattle.module_share.proofs.rows.marks.Goals as goal

pub returns : goal.returns
returns c =
    let f = shifted_mark c.args.shift in
    let held = c.parts-parts.result.values.now in
    let keys = c.parts-parts.result.keys.now in
    c.of.ensures
    ∙ ap (decoded c.in_ok-copies.copies) c.in_ok-twin.ensures
    ∙ ap (λ marks. decoded marks keys) c.in_ok-copies.ensures
    ∙ sym (map_decoded f held keys)
    ∙ ap (map f) (sym c.parts-parts.ensures.list)
