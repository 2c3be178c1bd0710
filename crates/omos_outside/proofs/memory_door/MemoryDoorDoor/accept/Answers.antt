use Rattle.omos_outside.proofs.Doors.{never_ahead, next_fresh, fresh_link}
use Rattle.omos_outside.proofs.memory_door.MemoryDoorDoor.accept.Goals as goal

pub returns-then-is_listed-clause-out : goal.returns-then-is_listed-clause-out
returns-then-is_listed-clause-out c =
    rw (← c.self.view_is) (never_ahead _ _ _ c.self.invariant.same c.self.invariant.back)

pub returns-in-Some-clause-out : goal.returns-in-Some-clause-out
returns-in-Some-clause-out c = rw (← c.self.view_is)
    (never_ahead _ _ _ c.self.invariant.same c.self.invariant.back)

pub returns-in-None-clause-out : goal.returns-in-None-clause-out
returns-in-None-clause-out c = rw (← c.self.view_is)
    (never_ahead _ _ _ c.self.invariant.same c.self.invariant.back)

pub returns-in-Some-clause-fresh : goal.returns-in-Some-clause-fresh
returns-in-Some-clause-fresh c = fresh_link c.args.self.now (c.in-Some.source, c.in-Some.sink)
    (next_fresh _ _ _ c.in-Some.ensures.items c.self.invariant.fresh).0
