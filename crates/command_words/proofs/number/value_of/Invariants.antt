use Rattle.std.proofs.Common.{◌≡◌, take, ◌^◌, ◌<◌}
use Rattle.command_words.specs.Numbers.{decimal_value}
use Rattle.command_words.proofs.number.value_of.Given as goal

abbrev pub invariant-digits : goal.invariant-digits
invariant-digits l =
    (l.value ≡ decimal_value (take l.byte-index l.word)) × (l.value < 10 ^ l.byte-index)
