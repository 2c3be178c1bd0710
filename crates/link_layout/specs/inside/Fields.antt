-- Slots by fields, which are fixups without their aims.
use Rattle.std.specs.Prelude.{List, if◌then◌else◌}
use Rattle.omos_model.specs.declared.fixups.Field.{Field}
use Rattle.omos_model.specs.declared.mark.Landing.{Landing}
use Rattle.omos_model.specs.declared.mark.Target.{Target}
use Rattle.link_model.specs.Layout.{is_got, target_at, with_slot}

-- the slots once the field of a reference is seen
abbrev pub slots_with_field : List Target → Field × Landing → List Target
slots_with_field slots r = if is_got r.0.kind then with_slot slots (target_at r.1) else slots
