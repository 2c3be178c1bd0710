-- Slots: one for each distinct target of a GOT fixup.
use Rattle.std.specs.Prelude.{List, fold, if◌then◌else◌}
use Rattle.std.specs.List.{zip}
use Rattle.omos_model.specs.declared.entry.Entry.{Entry}
use Rattle.omos_model.specs.declared.fragment.Fixup.{Fixup}
use Rattle.omos_model.specs.declared.mark.Landing.{Landing}
use Rattle.omos_model.specs.declared.mark.Target.{Target}
use Rattle.link_model.specs.Program.{object_of}
use Rattle.link_model.specs.Layout.{is_got, target_at, with_slot}

-- the fixups of a leaf
abbrev pub fixups_in : Entry → List Fixup
fixups_in leaf = (object_of leaf).fixups

-- the slots once a reference is seen
abbrev pub slots_with : List Target → Fixup × Landing → List Target
slots_with slots r = if is_got r.0.kind then with_slot slots (target_at r.1) else slots

-- the slots once all references of a leaf are seen
abbrev pub slots_with_leaf : List Target → Entry × List Landing → List Target
slots_with_leaf slots x = fold slots_with slots (zip (fixups_in x.0) x.1)
