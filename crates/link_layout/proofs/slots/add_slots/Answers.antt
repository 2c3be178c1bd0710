use Rattle.std.proofs.Common.{◌≡◌, ◌+◌, get_or, pos, refl, arith}
use Rattle.std.specs.List.{zip}
use Rattle.std.proofs.lemmas.Option.{slice_get-get_or}
use Rattle.dict_row.proofs.Decoded.{found}
use Rattle.omos_model.specs.declared.fixups.Field.{Field}
use Rattle.omos_model.specs.declared.fragment.Kind.TheVariants.{Abs64}
use Rattle.link_layout.specs.inside.Fields.{slots_with_field}
use Rattle.link_layout.proofs.ByPlace.{pairs-at, pairs-past}
use Rattle.link_layout.proofs.Rest.{fold-next, fold-done}
use Rattle.link_layout.proofs.slots.add_slots.Goals as goal

-- an index reads this where the place isn't there
abbrev blank : Field
blank = record { piece = 0; offset = 0; kind = Abs64; addend = pos 0 }

pub loop-place-preserved : goal.loop-place-preserved
loop-place-preserved c =
    let fields = c.args.fields.now in
    let landings = c.args.landings.now in
    let place = c.loop-place.place in
    let landing = found landings place (omega arith) in
    let field : Field = get_or fields place blank in
    let step : c.add_slot.new.slots.keys
    ≡ slots_with_field c.loop-place.slots.keys (field, landing.0) =
    c.in_ok-add_slot.ensures landing.0 landing.1 in
    let rest =
    pairs-at fields landings place field landing.0
    (slice_get-get_or fields place blank (omega arith)) landing.1 in
    fold-next slots_with_field (zip fields landings) (field, landing.0) place (place + 1)
    c.loop-place.slots.keys c.add_slot.new.slots.keys _ rest refl step c.loop-place.invariant

pub returns : goal.returns
returns c =
    fold-done slots_with_field _ _ _
    (pairs-past c.args.fields.now c.args.landings.now c.loop-place.place (omega arith))
    c.loop-place.invariant
