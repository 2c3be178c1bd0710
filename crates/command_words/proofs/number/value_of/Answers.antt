use Rattle.std.proofs.Common.{arith}
use Rattle.command_words.proofs.Digits.{room}
use Rattle.command_words.proofs.number.value_of.Goals as goal

-- src/number.rt:48:9
pub next_value-value-requires-clause-few : goal.next_value-value-requires-clause-few
next_value-value-requires-clause-few c =
    room c.digits.value c.digits.byte-index c.digits.invariant.1
    (omega (arith, c.requires.few, c.digits-test.true))
