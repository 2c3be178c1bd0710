use Rattle.std.proofs.Common.{◌∙◌, ◌+◌, sym, arith}
use Rattle.omos_model.specs.Places.{serves}
use Rattle.place_book.specs.Keys.{key_of, key_of_placement}
use Rattle.place_book.proofs.Keys.{key_of_server, jump_position, position_step, same_count}
use Rattle.place_book.proofs.book.position_held.Goals as goal

pub placements-init : goal.placements-init
placements-init c =
    let p = serves c.args.path.now c.args.pages c.args.lo c.args.hi in
    let key = key_of c.args.path.now in
    let count = same_count c.args.keys.now c.args.placed.now c.requires in
    let jump =
    jump_position p key_of_placement key
    (key_of_server c.args.path.now c.args.pages c.args.lo c.args.hi)
    0 c.next_of-at.result c.args.keys.now c.args.placed.now c.requires
    (rw c.key_of-key.ensures at c.next_of-at.ensures.value) in
    (omega (arith, count, c.next_of-at.ensures.within), omega (arith, jump))

pub placements-preserved : goal.placements-preserved
placements-preserved c =
    let p = serves c.args.path.now c.args.pages c.args.lo c.args.hi in
    let key = key_of c.args.path.now in
    let count = same_count c.args.keys.now c.args.placed.now c.requires in
    let step =
    position_step p c.args.placed.now c.placements.at c.index-placed-at.result
    c.placements-test.true
    c.index-placed-at.is (sym c.if-not-serves_path.ensures) in
    let jump =
    jump_position p key_of_placement key
    (key_of_server c.args.path.now c.args.pages c.args.lo c.args.hi)
    (c.placements.at + 1) c.next_of-at-in-placements.result c.args.keys.now c.args.placed.now
    c.requires
    (rw c.key_of-key.ensures at c.next_of-at-in-placements.ensures.value) in (
      omega (arith, count, c.next_of-at-in-placements.ensures.within),
      jump ∙ sym step
          ∙ c.placements.invariant.1,
    )
