use Rattle.std.proofs.Common.{rules}
use Rattle.hub_store.proofs.Requests.{after_looked}
use Rattle.hub_store.proofs.store.Store.stats.Goals as goal

pub invariant_of-self : goal.invariant_of-self
invariant_of-self c =
    let room = c.if-not-room.ensures.0 (search rules) in
    rw (c.push_stats.ensures.steps, c.push_stats.ensures.capacity, c.tally-number.ensures.value)
    (after_looked _ _ _ _ _ _ _ c.self.invariant.0 room, c.self.invariant.1, c.self.invariant.2)
