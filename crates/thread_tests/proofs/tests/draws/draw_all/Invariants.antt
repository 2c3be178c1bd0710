use Rattle.std.proofs.Common.{◌≡◌}
use Rattle.thread_tests.proofs.tests.draws.draw_all.Given as goal

abbrev pub invariant-draws : goal.invariant-draws
invariant-draws l = (l.seat.line ≡ l.draws) × (l.seat.missed ≡ 0)
