use Rattle.std.proofs.Common.{List, [], ◌∷◌, ◌++◌, sym, ap, ◌∙◌}
use Rattle.omos_model.specs.Names.{Name}
use Rattle.omos_model.specs.declared.entry.Stamped.{Stamped}
use Rattle.omos_model.specs.declared.entry.Start.TheVariants.{Named}
use Rattle.module_land.proofs.Alone.{is_table_of}
use Rattle.module_land.proofs.made.lone.Goals as goal

pub land-requires : goal.land-requires
land-requires c =
    let lawful = c.holds_fragment.ensures in
    is_table_of c.in_ok-table.table c.args.path c.push.new.self
    (Named c.in_ok-usual_start.field-0) c.args.entry c.in_ok-twin.field-0
    (lawful.0, sym c.get.ensures ∙ lawful.1, lawful.2) c.in_ok-twin.ensures c.in_ok-table.ensures
    (
    c.in_ok-push.ensures.added
    ∙ ap (λ (xs : List Stamped). xs ++ record {
      path = c.in_ok-of.field-0;
      stamp = 1;
      entry = c.args.entry;
    } ∷ []) c.new-footprint.ensures
    ∙ ap (λ (p : Name). record { path = p; stamp = 1; entry = c.args.entry } ∷ [])
    (c.in_ok-of.ensures ∙ c.copy.ensures)
    )
    (ap Named c.in_ok-usual_start.ensures)
