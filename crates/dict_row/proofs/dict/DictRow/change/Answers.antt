use Rattle.std.proofs.Common.{length, map, ap, sym, ◌∙◌}
use Rattle.std.proofs.lemmas.List.{with_items_is}
use Rattle.dict_row.specs.Keys.{decoded}
use Rattle.dict_row.proofs.Decoded.{map_decoded}
use Rattle.dict_row.proofs.dict.DictRow.change.Goals as goal

pub returns : goal.returns
returns g c =
    let kept = c.self.inside.values in
    let keys = c.self.inside.keys in
    let whole = c.change_all.auto.values ∙ ap length c.as_mut_slice.ensures.value in
    let written = with_items_is kept c.change_all.new.values (whole ∙ sym kept.ok.0) in
    let made = c.in_ok-change_all.ensures
    ∙ ap (map (g.R.Rule.gives c.args.rule.now)) c.as_mut_slice.ensures.value in
    ap (λ values. decoded values keys) (written ∙ made)
    ∙ sym (map_decoded (g.R.Rule.gives c.args.rule.now) kept.items keys)
    ∙ ap (map (g.R.Rule.gives c.args.rule.now)) c.self.view_is
