use Rattle.std.proofs.Common.{◌≡◌, length, pos, ap, arith, subst, sym, ◌∙◌}
use Rattle.std.proofs.lemmas.List.{length-map}
use Rattle.std.proofs.lemmas.Result.{err_from_is_err_and}
use Rattle.dict_row.specs.Keys.{decoded}
use Rattle.dict_row.proofs.Decoded.{length_decoded}
use Rattle.omos_model.specs.FixupParts.{field_of}
use Rattle.omos_model.specs.declared.fixups.Field.{Field}
use Rattle.omos_model.specs.declared.fragment.Kind.TheVariants.{Abs64}
use Rattle.image_write.specs.inside.Addresses.{slot_in}
use Rattle.image_write.specs.inside.Fields.{IsPatched, overflow_in}
use Rattle.image_write.proofs.Patched.{field-more, leaf-all, patched-append, refused-in}
use Rattle.image_write.proofs.fields.patch_leaf.Goals as goal

-- an index reads this where the place isn't there
abbrev blank : Field
blank = record { piece = 0; offset = 0; kind = Abs64; addend = pos 0 }

pub returns-in_err-patch : goal.returns-in_err-patch
returns-in_err-patch c fixups are =
    let p = err_from_is_err_and c.from_residual.result c.from_residual.ensures.1 in
    let more =
    field-more c.args.leaf fixups (decoded c.args.values.now c.args.keys.now) c.loop-number.number
    c.args.fields.now blank c.landing_at.result.now are (omega arith) c.landing_at.ensures in
    rw (p.1, p.2)
    (refused-in
    (overflow_in c.args.ground.now.places.now
    (slot_in c.args.ground.now.layout.now c.args.ground.now.base)
    c.args.ground.now.base) c.loop-number.number _ _ _ more.1
    (c.loop-number.invariant fixups are).fit
    (c.in_err-patch.ensures more.0))

pub loop-number-preserved : goal.loop-number-preserved
loop-number-preserved c fixups are =
    let more =
    field-more c.args.leaf fixups (decoded c.args.values.now c.args.keys.now) c.loop-number.number
    c.args.fields.now blank c.landing_at.result.now are (omega arith) c.landing_at.ensures in
    subst (λ rs. IsPatched c.args.ground.now.places.now
    (slot_in c.args.ground.now.layout.now c.args.ground.now.base)
    c.args.ground.now.base rs c.patch.new.body c.args.body.now)
    (sym more.1)
    (patched-append _ _ _ _ _ _ c.loop-number.body _ (c.loop-number.invariant fixups are)
    (c.in_ok-patch.ensures more.0))

pub returns : goal.returns
returns c fixups are =
    let count : length fixups ≡ length c.args.fields.now =
    sym (length-map fixups field_of) ∙ ap length are in
    let landings = decoded c.args.values.now c.args.keys.now in
    let kept = length_decoded c.args.values.now c.args.keys.now c.requires.keys in
    subst (λ rs. IsPatched c.args.ground.now.places.now
    (slot_in c.args.ground.now.layout.now c.args.ground.now.base)
    c.args.ground.now.base rs c.loop-number.body c.args.body.now)
    (leaf-all c.args.leaf fixups landings c.loop-number.number (omega (arith, count, kept)))
    (c.loop-number.invariant fixups are)
