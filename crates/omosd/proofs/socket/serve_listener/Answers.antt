use Rattle.omos_adapt.specs.contracts.door.SocketDoorDoor.TheImpl as door
use Rattle.omos_outside.specs.contracts.gate.OpenGateGate.TheImpl as gate
use Rattle.omosd_slots.proofs.Opened.{all_open}
use Rattle.omosd.proofs.socket.serve_listener.Goals as goal

pub omosd_socket-requires-clause-doors : goal.omosd_socket-requires-clause-doors
omosd_socket-requires-clause-doors g c κs within =
    all_open door.state-value.it gate.crossings-value.it c.slots.slots.items c.slots.invariant
