use Rattle.std.proofs.Common.{arith}
use Rattle.image_write.proofs.Slotted.{read-as, slots-go}
use Rattle.image_write.proofs.slots.write_slots.Goals as goal

pub loop-number-preserved : goal.loop-number-preserved
loop-number-preserved c =
    slots-go c.args.places.now c.args.base c.args.slots.now c.args.begin c.loop-number.number _
    c.target.result _ _ _ (omega arith)
    c.address_in-address.ensures
    (read-as c.args.slots.now c.loop-number.number c.index-slots-number.result c.target.result
    c.target.ensures c.index-slots-number.is) c.requires.inside
    c.put_u64.ensures c.loop-number.invariant
