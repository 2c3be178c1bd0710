use Rattle.image_write.specs.inside.Addresses.{slots_byte}
use Rattle.image_write.specs.inside.Painted.{Painted}
use Rattle.image_write.proofs.slots.write_slots.Given as goal

abbrev pub invariant-loop-number : goal.invariant-loop-number
invariant-loop-number l =
    Painted l.body (slots_byte l.places l.base l.slots l.begin l.number) l.fn.body
