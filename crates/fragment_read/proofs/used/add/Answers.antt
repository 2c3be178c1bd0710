use Rattle.std.proofs.Common.{arith}
use Rattle.fragment_read.proofs.UsedMore.{one_less_free}
use Rattle.fragment_read.proofs.used.add.Goals as goal

pub overflow_add-place : goal.overflow_add-place
overflow_add-place c =
    let old = c.args.used.now in
    let less = one_less_free old.places.items c.args.k 0 c.requires.there c.requires.new in
    omega (arith, less, c.requires.used.few, c.requires.used.bound, c.len-place.ensures)
