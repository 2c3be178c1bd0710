use Rattle.std.proofs.Common.{fold, ap, ◌∙◌}
use Rattle.std.specs.List.{zip}
use Rattle.std.proofs.lemmas.List.{length_push}
use Rattle.link_layout.specs.Slots.{fixups_in, slots_with_leaf}
use Rattle.link_layout.specs.inside.Fields.{slots_with_field}
use Rattle.link_layout.proofs.ByPlace.{slots-by-field}
use Rattle.link_layout.proofs.Rest.{pairs-turn, pairs-end, fold-next, fold-done}
use Rattle.link_layout.proofs.slots.fill_slots.Goals as goal

pub loop-leaf-preserved : goal.loop-leaf-preserved
loop-leaf-preserved c =
    let rest =
    pairs-turn c.args.leaves.now c.args.landings.now c.into_iter-leaf-iterator.result (cc) (cc)
    c.loop-leaf.yielded c.loop-leaf.leaf-iterator c.loop-leaf.yielded_by c.next.result
    c.next.new.self
    (c.in-Some.leaf, c.in-Some.row) c.in-Some.is c.next.ensures.steps in
    let same = c.in_ok-add_slots.ensures
    ∙ ap (λ fields. fold slots_with_field c.loop-leaf.slots.keys (zip fields c.in-Some.row.now))
    c.fields_in.ensures.fields
    ∙ slots-by-field c.loop-leaf.slots.keys (fixups_in c.in-Some.leaf.now) c.in-Some.row.now in
    fold-next slots_with_leaf _ _ _ _ c.loop-leaf.slots.keys _ _ rest
    (length_push c.loop-leaf.yielded (c.in-Some.leaf, c.in-Some.row)) same c.loop-leaf.invariant

pub returns : goal.returns
returns c =
    let rest =
    pairs-end c.args.leaves.now c.args.landings.now c.into_iter-leaf-iterator.result (cc) (cc)
    c.loop-leaf.yielded c.loop-leaf.leaf-iterator c.loop-leaf.yielded_by c.next.result
    c.next.new.self
    c.in-None.is c.next.ensures.steps in
    fold-done slots_with_leaf _ _ _ rest c.loop-leaf.invariant
