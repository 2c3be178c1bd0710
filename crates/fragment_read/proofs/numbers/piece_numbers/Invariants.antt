use Rattle.std.proofs.Common.{◌≡◌, ℕ, ◌<◌, ◌≤◌, get_or, length}
use Rattle.omos_model.specs.FragmentOf.{section_piece}
use Rattle.fragment_read.proofs.numbers.piece_numbers.Given as goal

abbrev pub invariant-loop-i : goal.invariant-loop-i
invariant-loop-i l = record {
  all : length l.numbers ≡ l.i;
  each : (k : ℕ) → k < l.i → get_or l.numbers k 0 ≡ section_piece l.tables k;
  count : l.count ≡ section_piece l.tables l.i;
  few : l.count ≤ l.i;
}
