use Rattle.std.proofs.Common.{refl}
use Rattle.hub_store.proofs.Requests.{nothing}
use Rattle.hub_store.proofs.store.Store.open.Goals as goal

pub invariant_of-result : goal.invariant_of-result
invariant_of-result c =
    let steps = rw c.steps.ensures.value at c.steps.ensures.range in
    rw (
      c.in_ok-new.ensures,
      c.in_ok-empty.ensures,
      c.in_ok-new-2.ensures,
      c.new-3.ensures,
      c.steps.ensures.value,
      c.steps-2.ensures.value,
    )
    (nothing _, refl, (c.cache.ensures.range.0, c.cache.ensures.range.1, steps.0, steps.1))
