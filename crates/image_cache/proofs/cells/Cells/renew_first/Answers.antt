use Rattle.std.proofs.Common.{sym, ◌∙◌}
use Rattle.image_cache.proofs.Filled.{item_at}
use Rattle.image_cache.proofs.cells.Cells.renew_first.Goals as goal

pub unreachable-requires : goal.unreachable-requires
unreachable-requires c =
    let within = rw (← c.self.view_is) at c.requires in
    let cell = rw c.as_mut_slice.ensures.value at c.index-as_mut_slice-0.is in
    let item =
    item_at c.self.inside.cells.items 0 c.index-as_mut_slice-0.result c.self.invariant within
    cell in
    let none = sym item.1 ∙ c.index-as_mut_slice-0.is ∙ c.in-None.is in
    cc
