use Rattle.std.proofs.Common.{refl, arith}
use Rattle.dict_row.specs.Keys.{decoded}
use Rattle.dict_row.proofs.Decoded.{length_decoded, value_at}
use Rattle.image_write.proofs.fields.landing_at.Goals as goal

pub returns : goal.returns
returns c =
    let kept = length_decoded c.args.values.now c.args.keys.now c.requires.keys in
    value_at c.args.values.now c.args.keys.now (decoded c.args.values.now c.args.keys.now)
    c.args.place c.index-values-keys.result c.requires.keys refl
    (omega (arith, kept, c.requires.place)) c.index-values-keys.is
