use Rattle.std.proofs.Common.{ap, ◌+◌, ◌∙◌}
use Rattle.image_write.specs.inside.Addresses.{place_in_row, slot_in}
use Rattle.image_write.proofs.Patched.{patched-at}
use Rattle.image_write.proofs.fields.patch.Goals as goal

pub returns : goal.returns
returns c aim =
    let begin = c.place_at.ensures
    ∙ ap (λ row. place_in_row row c.args.field.now.piece) c.requires.row in
    patched-at c.args.ground.now.places.now
    (slot_in c.args.ground.now.layout.now c.args.ground.now.base) c.args.ground.now.base _ _
    c.in-Some.value _ _ (λ i. begin i + c.from.ensures i) c.in-Some.ensures c.requires.inside.inside
    c.put.ensures
