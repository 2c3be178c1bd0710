use Rattle.std.proofs.Common.{◌≡◌, ◌-◌}
use Rattle.std.specs.List.{find}
use Rattle.std.specs.BTreeSet.{contains}
use Rattle.omos_model.specs.Numbers.{numbers_from}
use Rattle.omos_model.specs.ElfFields.{symbols}
use Rattle.omos_model.specs.ElfFaults.{is_again}
use Rattle.elf_object.specs.inside.Seen.{HaveSeen, name_order}
use Rattle.elf_object.proofs.exports.first_again.Given as goal

-- the names that the symbols below k define were seen, and none of these is there again
abbrev pub invariant-loop-k : goal.invariant-loop-k
invariant-loop-k l = record {
  seen : HaveSeen l.file l.k l.places.items (contains name_order l.others);
  none : find (is_again l.file) (symbols l.file)
      ≡ find (is_again l.file) (numbers_from l.k (l.table.count - l.k));
}
