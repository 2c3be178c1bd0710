use Rattle.std.proofs.Common.{◌≡◌, ◌≤◌, false, length}
use Rattle.turn_bench.proofs.turns.take_turns.Given as goal

abbrev pub invariant-loop-turn : goal.invariant-loop-turn
invariant-loop-turn g l = record {
  lock : l.pass.lock ≡ l.lock;
  idle : l.pass.holds_turn ≡ false;
  few : length l.pass.turns ≤ l.turn;
}
