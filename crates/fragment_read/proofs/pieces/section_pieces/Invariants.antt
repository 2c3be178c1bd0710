use Rattle.std.proofs.Common.{◌≡◌, ◌-◌, ◌≤◌, map}
use Rattle.std.specs.Prelude.{filter}
use Rattle.omos_model.specs.Numbers.{numbers_from}
use Rattle.omos_model.specs.ElfFields.{e_shnum}
use Rattle.omos_model.specs.ElfFaults.{is_kept}
use Rattle.omos_model.specs.FragmentOf.{piece_of_section}
use Rattle.fragment_read.proofs.pieces.section_pieces.Given as goal

abbrev pub invariant-loop-i : goal.invariant-loop-i
invariant-loop-i l = record {
  pieces : l.pieces
      ≡ map (piece_of_section l.tables) (filter (is_kept l.tables) (numbers_from 1 (l.i - 1)));
  within : l.i - 1 ≤ e_shnum l.tables - 1;
}
