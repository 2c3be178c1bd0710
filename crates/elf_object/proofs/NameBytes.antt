-- Bytes that a name may have, by a range.
use Rattle.std.proofs.Common.{◌≡◌, ◌≢◌, ℕ, ◌<◌, true, arith}
use Rattle.std.proofs.lemmas.Bool.Decides.{nat_tests}
use Rattle.omos_model.specs.Names.{is_name_byte}

pub plain : (b : ℕ) → 41 < b → b < 127 → b ≢ 59 → is_name_byte b ≡ true
plain b low high other = grind (arith, nat_tests)
