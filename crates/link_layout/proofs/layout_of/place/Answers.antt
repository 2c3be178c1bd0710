use Rattle.std.proofs.lemmas.Result.{IfOk-weaker}
use Rattle.link_layout.specs.Program.{parts_in}
use Rattle.link_layout.proofs.Groups.{begins-of_groups}
use Rattle.link_layout.proofs.Sized.{places_are}
use Rattle.link_layout.proofs.layout_of.place.Goals as goal

pub places_of-requires-clause-few : goal.places_of-requires-clause-few
places_of-requires-clause-few c = c.requires.few.leaves

pub returns : goal.returns
returns c =
    let p = c.args.program.now in
    IfOk-weaker c.places_of.result _ _
    (λ places h. places_are p c.requires.few places
    (h (parts_in p) (begins-of_groups c.args.groups.now (parts_in p) c.requires.groups)))
    c.places_of.ensures
