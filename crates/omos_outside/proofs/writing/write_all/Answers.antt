use Rattle.std.proofs.Common.{◌+◌, ◌≤◌, length, arith, length-drop}
use Rattle.std.proofs.lemmas.List.{take_rest}
use Rattle.std.proofs.Math.Seq.{take-add}
use Rattle.omos_outside.proofs.Known.{Appends-then}
use Rattle.omos_outside.proofs.writing.write_all.Goals as goal

pub pieces-preserved : goal.pieces-preserved
pieces-preserved g c =
    let one = rw take_rest at c.in-Bytes.ensures.held in
    let fits = rw take_rest at c.in-Bytes.ensures.room.1 in
    let long = length-drop c.pieces.done c.args.bytes.now in
    let within : c.pieces.done + c.in-Bytes.count ≤ length c.args.bytes.now =
    omega (arith, fits, long) in
    let both = Appends-then _ _ _ _ _ c.pieces.invariant.1 one in (
      within,
      rw (take-add c.pieces.done c.in-Bytes.count c.args.bytes.now) both,
      omega arith,
      λ _. c.in-Bytes.ensures.counts,
    )
