use Rattle.std.proofs.Common.{arith, ap, Option, true≢false, unwrap_or}
use Rattle.std.specs.Option.{option_map}
use Rattle.history_book.specs.Steps.{Ask}
use Rattle.history_book.specs.Due.{due}
use Rattle.history_book.proofs.examples.records_are_refused.Goals as goal

pub returns : goal.returns
unfolding due
returns c = record {
  number = λ legal. omega (arith, legal.runs.0.next);
  version = λ legal. omega (arith, legal.runs.0.1);
  mark = λ legal. true≢false legal.runs.0.2;
  order = λ legal. legal.runs.0;
  twice = λ legal. true≢false legal.runs.1.1.0.2.waits;
  seat = λ legal.
      omega (
        arith,
        ap (λ (o : Option Ask). unwrap_or (option_map (λ (x : Ask). x.seat) o) 0)
            legal.runs.1.0.2.asked,
      );
  room = λ legal. omega (arith, legal.runs.0.fits);
}
