use Rattle.std.proofs.Common.{◌≡◌, false, take}
use Rattle.std.specs.List.{list_any}
use Rattle.omos_model.specs.State.{is_open_as}
use Rattle.module_table.proofs.marks.is_place_open.Given as goal

abbrev pub invariant-places : goal.invariant-places
invariant-places l =
    list_any (is_open_as l.name) (take l.place l.marks) ≡ false
