-- Where the groups of a program stand.
use Rattle.std.specs.Prelude.{◌≡◌, ℕ}
use Rattle.omos_model.specs.declared.fragment.Group.TheVariants.{Zeros}
use Rattle.link_model.specs.Program.{Parts}
use Rattle.link_model.specs.Layout.{group_begin, slots_begin}
use Rattle.link_layout.specs.Layout.{AreBegins, AreSizes}
use Rattle.link_model.specs.declared.groups.Groups.{Groups}

-- these are the sizes and begins of a program's groups, and the begin of its slots
pub record AreGroups (x : Groups) (parts : Parts) : Type 0 where
  pub sizes : AreSizes x.sizes parts
  pub begins : AreBegins x.begins parts
  pub slots : x.slots ≡ slots_begin parts

-- how many bytes the pages of Code, Consts and Vars have
abbrev pub bytes_in_file : Parts → ℕ
bytes_in_file parts = group_begin Zeros parts
