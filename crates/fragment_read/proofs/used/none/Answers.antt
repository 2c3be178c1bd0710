use Rattle.std.proofs.Common.{ap, ◌∙◌}
use Rattle.dict_row.specs.Keys.{decoded}
use Rattle.fragment_read.proofs.UsedMore.{none_used}
use Rattle.fragment_read.proofs.used.none.Goals as goal

pub returns-clause-used : goal.returns-clause-used
returns-clause-used c =
    none_used _ c.args.symbols c.in_ok-no_places.ensures c.new.ensures
    (c.from_vec.ensures ∙ c.in_ok-with_capacity.ensures.items) c.ranges.symbols.fits

pub returns-clause-symbols : goal.returns-clause-symbols
unfolding decoded
returns-clause-symbols c =
    ap (decoded c.new.result) (c.from_vec.ensures ∙ c.in_ok-with_capacity.ensures.items)
