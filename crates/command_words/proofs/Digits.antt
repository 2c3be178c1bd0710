-- The value of decimal digits, digit by digit.
use Rattle.std.proofs.Common.{ℕ, ◌+◌, ◌-◌, ◌*◌, ◌^◌, ◌<◌, ◌≤◌, IsTrue, nat_le, arith}
use Rattle.std.proofs.lemmas.Bool.{and_parts, leb-true}
use Rattle.std.proofs.lemmas.Grind.{pow_more}
use Rattle.std.proofs.Math.Nat.{pow-le-pow_right}
use Rattle.command_words.specs.Numbers.{is_digit}

-- fewer than nine digits leave room for one more
pub room : (value count : ℕ) → value < 10 ^ count → count ≤ 8 → value < 100000000
room value count below few =
    let more : 10 ^ count ≤ 100000000 =
    pow-le-pow_right {n = 10} (omega arith) {i = count} {j = 8} few in
    omega (arith, below, more)

-- one more digit is below ten times as much
pub more : (value count digit : ℕ) → value < 10 ^ count → IsTrue (is_digit digit)
    → 10 * value + (digit - 48) < 10 ^ (count + 1)
more value count digit below is =
    let both = and_parts (nat_le 48 digit) (nat_le digit 57) is in
    let high : digit ≤ 57 = leb-true digit 57 both.1 in
    omega (arith, pow_more 10 count, below, high)
