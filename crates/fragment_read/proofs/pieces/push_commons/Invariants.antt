use Rattle.std.proofs.Common.{◌≡◌, ◌-◌, ◌≤◌, ◌++◌, map}
use Rattle.std.specs.Prelude.{filter}
use Rattle.omos_model.specs.Numbers.{numbers_from}
use Rattle.omos_model.specs.ElfFields.{symbol_count}
use Rattle.omos_model.specs.FragmentOf.{is_common, piece_of_common}
use Rattle.fragment_read.proofs.pieces.push_commons.Given as goal

abbrev pub invariant-loop-k : goal.invariant-loop-k
invariant-loop-k l = record {
  pieces : l.pieces
      ≡ l.initial.pieces
      ++ map (piece_of_common l.tables) (filter (is_common l.tables) (numbers_from 1 (l.k - 1)));
  within : l.k - 1 ≤ symbol_count l.tables - 1;
}
