use Rattle.std.proofs.Common.{◌∙◌, ◌+◌, ◌++◌, ap, arith}
use Rattle.omos_model.specs.Places.{is_of}
use Rattle.place_book.specs.Keys.{key_of, key_of_placement}
use Rattle.place_book.proofs.Keys.{key_of_path, jump_filter, filter_step, same_count}
use Rattle.place_book.proofs.book.found_of.Goals as goal

pub placements-init : goal.placements-init
placements-init c =
    let p = is_of c.args.path.now in
    let count = same_count c.args.keys.now c.args.placed.now c.requires in
    let jump = jump_filter p key_of_placement (key_of c.args.path.now) (key_of_path c.args.path.now)
    0 c.next_of-at.result c.args.keys.now c.args.placed.now c.requires
    (rw c.key_of-key.ensures at c.next_of-at.ensures.value) in
    (omega (arith, count, c.next_of-at.ensures.within), rw c.new-found.ensures jump)

pub placements-preserved : goal.placements-preserved
placements-preserved c =
    let p = is_of c.args.path.now in
    let count = same_count c.args.keys.now c.args.placed.now c.requires in
    let jump = jump_filter p key_of_placement (key_of c.args.path.now) (key_of_path c.args.path.now)
    (c.placements.at + 1) c.next_of-at-in-placements.result c.args.keys.now c.args.placed.now
    c.requires
    (rw c.key_of-key.ensures at c.next_of-at-in-placements.ensures.value) in
    let step =
    filter_step p c.args.placed.now c.placements.at c.index-placed-at.result c.placements.found
    c.push_of.new.found c.placements-test.true c.index-placed-at.is c.placements.invariant.1
    c.in_ok-push_of.ensures in (
      omega (arith, count, c.next_of-at-in-placements.ensures.within),
      ap (λ ys. c.push_of.new.found ++ ys) jump ∙ step,
    )
