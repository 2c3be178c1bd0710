use Rattle.std.proofs.Common.{length}
use Rattle.omosd_slots.proofs.Seats.{Gathers}
use Rattle.omosd_slots.proofs.run.tell_all.Given as goal
use Rattle.omosd_slots.specs.Slots.{IsSeatTold}

abbrev pub invariant-seats : goal.invariant-seats
invariant-seats l =
    Gathers l.draws l.workers l.fn.seats.items l.all l.seats.items × IsSeatTold l.all

abbrev pub decreases-seats : goal.decreases-seats
decreases-seats l = length l.seats.items
