-- A number of bytes for each group, and where the groups of a program stand.
use Rattle.std.specs.Prelude.{ℕ}
use Rattle.omos_model.specs.declared.fragment.Group.{Group}
use Rattle.omos_model.specs.declared.fragment.Group.TheVariants.{Code, Consts, Vars, Zeros}
use Rattle.link_model.specs.declared.groups.ByGroup.{ByGroup}
use Rattle.link_model.specs.declared.groups.Groups.{Groups}
use Rattle.link_model.specs.Program.{Parts}
use Rattle.link_model.specs.Layout.{group_begin, group_size, slots_begin}

-- the number of a group
abbrev pub bytes_of : ByGroup → Group → ℕ
bytes_of x Code = x.code
bytes_of x Consts = x.consts
bytes_of x Vars = x.vars
bytes_of x Zeros = x.zeros

-- each group with its number
abbrev pub by_group : (Group → ℕ) → ByGroup
by_group f = record { code = f Code; consts = f Consts; vars = f Vars; zeros = f Zeros }

-- how large the groups of a program are, where each begins, and where the slots do
abbrev pub groups_of : Parts → Groups
groups_of parts =
    record {
      sizes = by_group (λ g. group_size g parts);
      begins = by_group (λ g. group_begin g parts);
      slots = slots_begin parts;
    }
