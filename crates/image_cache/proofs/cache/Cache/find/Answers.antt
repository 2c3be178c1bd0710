use Rattle.std.proofs.Common.{◌&&◌}
use Rattle.image_cache.specs.declared.item.Item.{Item}
use Rattle.place_book.proofs.Keys.{any_found}
use Rattle.image_cache.proofs.Items.{passes}
use Rattle.image_cache.proofs.cache.Cache.find.Goals as goal
use Rattle.image_cache.specs.Items.{is_at, is_fresh}

pub returns-then-at-len : goal.returns-then-at-len
returns-then-at-len c =
    let within = rw c.len.ensures.value at c.if-at-len.true in
    rw (← c.self.view_is) (
      within,
      λ i e. passes (λ (j : Item). is_at c.args.path.now j
          && is_fresh c.args.snap.now.entries j) c.self.inside.items c.place_found-at.result i
          c.place_found-at.ensures.value within e,
    )

pub returns-else-at-len : goal.returns-else-at-len
returns-else-at-len c =
    let past = rw c.len.ensures.value at c.if-at-len.false in
    rw (← c.self.view_is)
    ((any_found (λ (j : Item). is_at c.args.path.now j && is_fresh c.args.snap.now.entries j)
    c.self.inside.items c.place_found-at.result c.place_found-at.ensures.value).1 past)
