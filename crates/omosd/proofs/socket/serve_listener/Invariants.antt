use Rattle.std.proofs.Common.{All}
use Rattle.omos_adapt.specs.contracts.door.SocketDoorDoor.TheImpl as door
use Rattle.omos_outside.specs.contracts.gate.OpenGateGate.TheImpl as gate
use Rattle.omosd_slots.proofs.Opened.{IsNew}
use Rattle.omosd.proofs.socket.serve_listener.Given as goal

abbrev pub invariant-slots : goal.invariant-slots
invariant-slots g l = All (IsNew door.state-value.it gate.crossings-value.it) l.slots.items
