use Rattle.std.proofs.Common.{rules, ◌+◌, ◌≤◌, length, arith, sym, subst}
use Rattle.omos_outside.specs.ScriptedDoor.{given_back}
use Rattle.omos_outside.proofs.Doors.{length-given_back, has_more, state_after}
use Rattle.omos_outside.specs.contracts.memory_door.MemoryDoor.{the_view as view}
use Rattle.omos_outside.proofs.memory_door.MemoryDoorDoor.done.Goals as goal

pub unwrap-requires : goal.unwrap-requires
unwrap-requires c =
    let door = c.self.inside in
    let out : length (given_back door.sources.items door.sinks.items) + 1 ≤ door.links =
    subst (λ d. length (given_back d.sources d.sinks) + 1 ≤ d.links)
    (sym c.self.view_is) c.requires in
    let len = length-given_back c.self.inside.sources.items c.self.inside.sinks.items
    c.self.invariant.same in
    let room = c.self.invariant.source_room in
    let is = c.self.inside.sources.ok.0 in
    c.push.ensures.succeeds (omega (arith, out, len, room, is))

pub unwrap-requires-2 : goal.unwrap-requires-2
unwrap-requires-2 c =
    let door = c.self.inside in
    let out : length (given_back door.sources.items door.sinks.items) + 1 ≤ door.links =
    subst (λ d. length (given_back d.sources d.sinks) + 1 ≤ d.links)
    (sym c.self.view_is) c.requires in
    let len = length-given_back c.self.inside.sources.items c.self.inside.sinks.items
    c.self.invariant.same in
    let room = c.self.invariant.sink_room in
    let same = c.self.invariant.same in
    let is = c.self.inside.sinks.ok.0 in
    c.push-2.ensures.succeeds (omega (arith, out, len, room, is, same))

pub invariant_of-self : goal.invariant_of-self
invariant_of-self c =
    let door = c.self.inside in
    let out : length (given_back door.sources.items door.sinks.items) + 1 ≤ door.links =
    subst (λ d. length (given_back d.sources d.sinks) + 1 ≤ d.links)
    (sym c.self.view_is) c.requires in
    has_more _ _ c.self.inside.sources.items c.push.new.self.items c.self.inside.sinks.items
    c.push-2.new.self.items c.args.source c.args.sink _ _ _ _ c.self.invariant out
    (search rules) (search rules) c.push.ensures.capacity c.push-2.ensures.capacity

pub returns-clause-state : goal.returns-clause-state
returns-clause-state c =
    rw (← c.self.view_is)
    (state_after (view c.self.inside) c.push.new.self.items c.push-2.new.self.items
    c.args.source c.args.sink (search rules) (search rules) c.self.invariant.same)
