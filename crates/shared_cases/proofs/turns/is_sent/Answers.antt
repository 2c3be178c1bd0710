use Rattle.omos_outside.specs.contracts.gate.HoldGateGate.TheImpl as gate
use Rattle.omos_outside.specs.contracts.memory_door.MemoryDoorDoor.TheImpl as door
use Rattle.omosd_slots.proofs.Opened.{all_open}
use Rattle.shared_cases.proofs.turns.is_sent.Goals as goal

pub omosd_socket-status-requires-clause-doors : goal.omosd_socket-status-requires-clause-doors
omosd_socket-status-requires-clause-doors g c κs within =
    all_open door.state-value.it gate.crossings-value.it c.in_ok-slots.slots.items
    c.in_ok-slots.ensures
