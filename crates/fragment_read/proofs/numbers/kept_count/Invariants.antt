use Rattle.std.proofs.Common.{◌≡◌, ◌-◌, ◌≤◌}
use Rattle.std.specs.List.{count_by}
use Rattle.omos_model.specs.ElfFields.{e_shnum}
use Rattle.omos_model.specs.ElfFaults.{is_kept}
use Rattle.omos_model.specs.Numbers.{numbers_from}
use Rattle.fragment_read.proofs.numbers.kept_count.Given as goal

abbrev pub invariant-loop-i : goal.invariant-loop-i
invariant-loop-i l = record {
  count : l.count ≡ count_by (is_kept l.tables) (numbers_from 1 (l.i - 1));
  within : l.i - 1 ≤ e_shnum l.tables - 1;
  few : l.count ≤ l.i;
}
