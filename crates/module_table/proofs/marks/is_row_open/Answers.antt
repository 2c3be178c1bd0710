use Rattle.omos_model.specs.State.{is_open_as}
use Rattle.module_table.proofs.Values.{none_at}
use Rattle.module_table.proofs.marks.is_row_open.Goals as goal

pub returns-then-not-is_value_open : goal.returns-then-not-is_value_open
returns-then-not-is_value_open c =
    none_at (is_open_as c.args.name.now) c.parts.result.values.now c.parts.result.keys.now
    c.args.row.now.marks c.is_value_open.result c.parts.ensures.list c.is_value_open.ensures
    c.if-not-is_value_open.true
