use Rattle.std.proofs.Common.{sym, ◌∙◌}
use Rattle.std.proofs.lemmas.Map.Keys.{any_passes_from_place}
use Rattle.omos_model.specs.State.{is_open_as}
use Rattle.module_table.proofs.Values.{none_more}
use Rattle.module_table.proofs.marks.is_place_open.Goals as goal

pub returns-then-is_open_under : goal.returns-then-is_open_under
returns-then-is_open_under c =
    let opens = sym c.is_open_under.ensures ∙ c.if-is_open_under.true in
    sym
    (any_passes_from_place (is_open_as c.args.name.now) c.args.marks.now c.places.place
    c.get.result.now c.get.ensures opens)

pub places-preserved : goal.places-preserved
places-preserved c =
    let fails = sym c.is_open_under.ensures ∙ c.if-is_open_under.false in
    none_more (is_open_as c.args.name.now) c.args.marks.now c.places.place c.get.result.now
    c.get.ensures c.places.invariant fails
