use Rattle.std.proofs.Common.{◌≡◌, rules, arith, take}
use Rattle.std.proofs.lemmas.List.{take_all}
use Rattle.std.proofs.lemmas.List.Elements.{All-more}
use Rattle.omos_base.specs.SymNames.{IsNameByte}
use Rattle.omos_base.proofs.sym_name.first_barred.Goals as goal

pub loop-place-preserved : goal.loop-place-preserved
loop-place-preserved c =
    All-more IsNameByte _ _ 0 (omega arith) c.loop-place.invariant (search rules)

pub returns : goal.returns
returns c =
    let bytes = c.args.bytes.now in
    let whole : take c.loop-place.place bytes ≡ bytes = take_all _ _ (omega arith) in
    rw whole at c.loop-place.invariant
