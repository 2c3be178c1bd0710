use Rattle.std.proofs.Common.{◌∙◌}
use Rattle.std.specs.Prelude.{negsuc}
use Rattle.workload_calls.specs.Objects.{symbols_of}
use Rattle.workload_calls.proofs.Sizes.{made_as, short_as, small_as, symbols_few, symbols_short}
use Rattle.workload_calls.proofs.objects.object.Goals as goal

pub plain_object-requires-clause-small : goal.plain_object-requires-clause-small
plain_object-requires-clause-small c =
    small_as (symbols_of c.args.n c.args.i) c.as_slice.result.now
    (record { offset = 1; kind = 4; symbol = c.called.result; addend = negsuc 3 })
    (c.as_slice.ensures ∙ c.in_ok-symbols.ensures) (symbols_few c.args.n c.args.i)
    (symbols_short c.args.n c.args.i c.requires.there c.requires.few)

pub returns-clause-made : goal.returns-clause-made
returns-clause-made c =
    made_as c.args.n c.args.i c.called.result c.as_slice.result.now c.plain_object.result
    (c.as_slice.ensures ∙ c.in_ok-symbols.ensures) c.called.ensures c.plain_object.ensures

pub returns-clause-short : goal.returns-clause-short
returns-clause-short c =
    short_as c.args.n c.args.i c.plain_object.result c.requires.there c.requires.few
    (made_as c.args.n c.args.i c.called.result c.as_slice.result.now c.plain_object.result
    (c.as_slice.ensures ∙ c.in_ok-symbols.ensures) c.called.ensures c.plain_object.ensures)
