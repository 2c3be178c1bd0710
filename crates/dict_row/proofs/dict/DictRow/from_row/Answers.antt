use Rattle.std.proofs.Common.{length, ap, ◌∙◌}
use Rattle.std.specs.List.{range_with_len}
use Rattle.dict_row.specs.Keys.{decoded}
use Rattle.dict_row.proofs.OwnKeys.{are_own_keys, decoded_by_own}
use Rattle.dict_row.proofs.dict.DictRow.from_row.Goals as goal

pub of-requires-2 : goal.of-requires-2
of-requires-2 g c =
    rw (c.in_ok-of.ensures, c.in_ok-keys.ensures, c.len.ensures)
    (are_own_keys (length c.args.values))

pub returns : goal.returns
returns g c =
    c.of-2.ensures
    ∙ ap (decoded c.args.values)
    (c.in_ok-of.ensures ∙ c.in_ok-keys.ensures ∙ ap (range_with_len 0) c.len.ensures)
    ∙ decoded_by_own c.args.values
