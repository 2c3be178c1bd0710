use Rattle.std.proofs.Common.{◌≡◌, ◌-◌, ◌≤◌, map}
use Rattle.std.specs.Prelude.{filter}
use Rattle.std.specs.List.{filter_map, flat_map}
use Rattle.omos_model.specs.ElfFields.{e_shnum}
use Rattle.omos_model.specs.ElfFaults.{entry_count, is_used_rela}
use Rattle.omos_model.specs.FragmentOf.{fixup_of}
use Rattle.omos_model.specs.Numbers.{numbers_from}
use Rattle.fragment_read.specs.inside.Gathered.{AreGathered, gathered}
use Rattle.fragment_read.proofs.fixups.push_all.Given as goal

abbrev pub invariant-loop-i : goal.invariant-loop-i
invariant-loop-i l = record {
  right : AreGathered l.tables l.fields l.used;
  fixups : gathered l.tables l.fields l.used
      ≡ filter_map (fixup_of l.tables)
      (flat_map (λ i. map (λ j. (i, j)) (numbers_from 0 (entry_count l.tables i)))
      (filter (is_used_rela l.tables) (numbers_from 1 (l.i - 1))));
  within : l.i - 1 ≤ e_shnum l.tables - 1;
}
