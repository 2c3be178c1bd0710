use Rattle.std.proofs.Common.{take, map}
use Rattle.std.specs.List.{enumerate_from, flat_map, zip}
use Rattle.link_model.specs.Module.{part_with}
use Rattle.link_model.specs.Program.{references_in}
use Rattle.image_write.specs.inside.Addresses.{slot_in}
use Rattle.image_write.specs.inside.Fields.{IsPatched}
use Rattle.image_write.proofs.fields.patch_fields.Given as goal

abbrev pub invariant-loop-leaf : goal.invariant-loop-leaf
invariant-loop-leaf l =
    IsPatched l.ground.places.now (slot_in l.ground.layout.now l.ground.base) l.ground.base
    (flat_map references_in
    (take l.leaf (enumerate_from 0 (map part_with (zip l.leaves l.landings))))) l.body l.fn.body
