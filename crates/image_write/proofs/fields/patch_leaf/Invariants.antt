use Rattle.std.proofs.Common.{◌≡◌, List, map, take}
use Rattle.dict_row.specs.Keys.{decoded}
use Rattle.omos_model.specs.FixupParts.{field_of}
use Rattle.omos_model.specs.declared.fragment.Fixup.{Fixup}
use Rattle.image_write.specs.inside.Addresses.{slot_in}
use Rattle.image_write.specs.inside.Fields.{IsPatched, references_of}
use Rattle.image_write.proofs.fields.patch_leaf.Given as goal

abbrev pub invariant-loop-number : goal.invariant-loop-number
invariant-loop-number l =
    (fixups : List Fixup) → map field_of fixups ≡ l.fields
    → IsPatched l.ground.places.now (slot_in l.ground.layout.now l.ground.base) l.ground.base
    (take l.number (references_of l.leaf fixups (decoded l.values l.keys))) l.body l.fn.body
