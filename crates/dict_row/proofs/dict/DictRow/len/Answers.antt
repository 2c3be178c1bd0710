use Rattle.std.proofs.Common.{ap, length, sym, ◌∙◌}
use Rattle.dict_row.proofs.Decoded.{length_decoded}
use Rattle.dict_row.proofs.dict.DictRow.len.Goals as goal

pub returns : goal.returns
returns g c =
    let kept = c.self.inside in
    let all = length_decoded kept.values.items kept.keys c.self.invariant in
    c.len.ensures ∙ ap length c.get.ensures ∙ sym all ∙ ap length c.self.view_is
