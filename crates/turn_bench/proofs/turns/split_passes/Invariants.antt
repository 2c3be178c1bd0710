use Rattle.std.proofs.Common.{◌≡◌, ◌≤◌, false, [], length, All}
use Rattle.turn_bench.proofs.turns.split_passes.Given as goal

abbrev pub invariant-loop-number : goal.invariant-loop-number
invariant-loop-number l = record {
  lock : l.first.lock ≡ l.lock;
  idle : l.first.holds_turn ≡ false;
  number : l.first.number ≡ 0;
  made : l.first.made ≡ l.number;
  passes : All (λ p. (p.lock ≡ l.lock) × (p.holds_turn ≡ false) × (p.turns ≡ [])) l.passes.items;
}
