use Rattle.std.proofs.Common.{take, drop, sym, ap, ◌∙◌}
use Rattle.name_tree.specs.Order.{place}
use Rattle.name_tree.proofs.Joints.{entries-around}
use Rattle.name_tree.proofs.Places.{place-drop}
use Rattle.name_tree.proofs.order.around.Goals as goal

pub without_first-requires : goal.without_first-requires
without_first-requires c =
    rw (c.split_at.ensures.back, c.count_below.ensures.place)
    (place-drop c.args.list.now c.args.path.now)

pub returns : goal.returns
returns c = λ s e.
    let list = c.args.list.now in
    let at = c.count_below.ensures.place ∙ ap (place list) (sym e) in
    entries-around list c.split_at.result.0.now c.split_at.result.1.now c.without_first.result.now s
    (c.split_at.ensures.front ∙ ap (λ n. take n list) at)
    (c.split_at.ensures.back ∙ ap (λ n. drop n list) at)
    (c.without_first.ensures s e)
