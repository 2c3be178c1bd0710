use Rattle.std.proofs.Common.{◌≡◌, ◌-◌, ◌+◌, ◌≤◌, map}
use Rattle.std.specs.Prelude.{filter}
use Rattle.omos_model.specs.ElfFields.{symbol_count}
use Rattle.omos_model.specs.ElfFaults.{is_export}
use Rattle.omos_model.specs.FragmentOf.{common_piece}
use Rattle.omos_model.specs.Numbers.{numbers_from}
use Rattle.fragment_read.specs.inside.Numbered.{export_of}
use Rattle.fragment_read.proofs.exports.exports.Given as goal

abbrev pub invariant-loop-k : goal.invariant-loop-k
invariant-loop-k l = record {
  exports : l.exports
      ≡ map (export_of l.tables) (filter (is_export l.tables) (numbers_from 1 (l.k - 1)));
  common : l.common ≡ common_piece l.tables l.k;
  within : l.k - 1 ≤ symbol_count l.tables - 1;
  few : l.common ≤ l.first_common + l.k;
}
