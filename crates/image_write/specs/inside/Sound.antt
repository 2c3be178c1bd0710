-- What holds of a module, its layout and its groups, from which all bounds follow.
use Rattle.std.specs.Prelude.{◌≡◌, ◌+◌, ◌*◌, ◌^◌, ◌≤◌, All, length, Ok}
use Rattle.omos_model.specs.declared.fragment.Group.{Group}
use Rattle.link_model.specs.Layout.{program_pieces, slots_begin}
use Rattle.link_model.specs.Module.{Module, Placing, parts_of_module, plan_of_module}
use Rattle.link_model.specs.declared.groups.Groups.{Groups}
use Rattle.image_write.specs.inside.Addresses.{AreLow}
use Rattle.link_model.specs.Groups.{bytes_of}
use Rattle.image_write.specs.inside.Fields.{AreFieldsInside}
use Rattle.image_write.specs.inside.Groups.{AreGroups, bytes_in_file}
use Rattle.link_layout.specs.Pieces.{IsLawful, all_pieces}
use Rattle.image_write.specs.inside.Plans.{plan_with}
use Rattle.image_write.specs.inside.Sections.{AreInside}
use Rattle.image_write.specs.inside.Standing.{LeavesStand}

-- the module and its layout make the plan, and all that they place lies in the file
pub record IsSound (x : Groups) (m : Module) (l : Placing) : Type 0 where
  pub own : x ≡ l.groups
  pub plan : plan_of_module m ≡ Ok (plan_with m l)
  pub groups : AreGroups x (parts_of_module m)
  pub near : (g : Group) → bytes_of x.begins g ≤ 2 ^ 52
  pub small : bytes_in_file (parts_of_module m) ≤ 2 ^ 23
  pub leaves : length m.leaves ≤ 256
  pub count : length m.landings ≡ length m.leaves
  pub few : length l.slots ≤ 2 ^ 20
  pub lawful : All IsLawful m.leaves
  pub same : program_pieces (parts_of_module m) ≡ all_pieces m.leaves
  pub stand : LeavesStand (parts_of_module m) l.places m.leaves
  pub low : AreLow l.places
  pub pieces : AreInside (bytes_in_file (parts_of_module m)) l.places m.leaves
  pub slots : slots_begin (parts_of_module m) + 8 * length l.slots
      ≤ bytes_in_file (parts_of_module m)
  pub fields : AreFieldsInside (bytes_in_file (parts_of_module m)) l.places m.leaves
