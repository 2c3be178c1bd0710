use Rattle.std.proofs.Common.{ap, arith, refl, subst, sym, ◌∙◌}
use Rattle.std.proofs.lemmas.Result.{err_from_is_err_and}
use Rattle.dict_row.specs.Keys.{decoded}
use Rattle.link_layout.specs.Slots.{fixups_in}
use Rattle.image_write.specs.inside.Addresses.{slot_in}
use Rattle.image_write.specs.inside.Fields.{IsPatched, overflow_in}
use Rattle.image_write.proofs.Patched.{leaves-all, leaves-more, parts_in, patched-append}
use Rattle.image_write.proofs.Patched.{refused-leaf}
use Rattle.image_write.proofs.fields.patch_fields.Goals as goal

pub returns-in_err-patch_leaf : goal.returns-in_err-patch_leaf
returns-in_err-patch_leaf c =
    let p = err_from_is_err_and c.from_residual.result c.from_residual.ensures.1 in
    let more =
    leaves-more c.args.leaves.now c.args.landings.now c.loop-leaf.leaf
    c.index-leaves-leaf.result c.index-landings-leaf.result _ _ c.requires.count (omega arith)
    c.index-leaves-leaf.is c.index-landings-leaf.is
    (ap (decoded c.parts-row.result.values.now) (c.as_slice.ensures ∙ c.get.ensures)
    ∙ sym c.parts-row.ensures.list) refl in
    rw (p.1, p.2)
    (refused-leaf
    (overflow_in c.args.ground.now.places.now
    (slot_in c.args.ground.now.layout.now c.args.ground.now.base)
    c.args.ground.now.base) c.loop-leaf.leaf _ (parts_in c.args.leaves.now c.args.landings.now)
    _ more c.loop-leaf.invariant.fit
    (c.in_err-patch_leaf.ensures (fixups_in c.index-leaves-leaf.result)
    (sym c.fields_in.ensures.fields)))

pub loop-leaf-preserved : goal.loop-leaf-preserved
loop-leaf-preserved c =
    let more =
    leaves-more c.args.leaves.now c.args.landings.now c.loop-leaf.leaf
    c.index-leaves-leaf.result c.index-landings-leaf.result _ _ c.requires.count (omega arith)
    c.index-leaves-leaf.is c.index-landings-leaf.is
    (ap (decoded c.parts-row.result.values.now) (c.as_slice.ensures ∙ c.get.ensures)
    ∙ sym c.parts-row.ensures.list) refl in
    subst (λ rs. IsPatched c.args.ground.now.places.now
    (slot_in c.args.ground.now.layout.now c.args.ground.now.base)
    c.args.ground.now.base rs c.patch_leaf.new.body c.args.body.now)
    (sym more)
    (patched-append _ _ _ _ _ _ c.loop-leaf.body _ c.loop-leaf.invariant
    (c.in_ok-patch_leaf.ensures (fixups_in c.index-leaves-leaf.result)
    (sym c.fields_in.ensures.fields)))

pub returns : goal.returns
returns c =
    subst (λ rs. IsPatched c.args.ground.now.places.now
    (slot_in c.args.ground.now.layout.now c.args.ground.now.base)
    c.args.ground.now.base rs c.loop-leaf.body c.args.body.now)
    (leaves-all c.args.leaves.now c.args.landings.now c.loop-leaf.leaf c.requires.count
    (omega arith)) c.loop-leaf.invariant
