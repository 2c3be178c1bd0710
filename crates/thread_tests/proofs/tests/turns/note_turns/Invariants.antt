use Rattle.std.proofs.Common.{◌≡◌, ◌≤◌, false, length}
use Rattle.thread_tests.proofs.tests.turns.note_turns.Given as goal

abbrev pub invariant-turns : goal.invariant-turns
invariant-turns g l = record {
  lock : l.pass.lock ≡ l.lock;
  idle : l.pass.holds_turn ≡ false;
  few : length l.pass.turns ≤ l.turn;
}
