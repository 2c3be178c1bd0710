-- The test on symbol names says what a symbol name is.
use Rattle.std.proofs.Common.{ℕ, ◌≤◌, ◌==◌, Bool, not, ◌&&◌, List, length, refl, ◌≢◌, arith}
use Rattle.std.specs.Prelude.{nat_le}
use Rattle.std.specs.Bool.{Decides}
use Rattle.std.specs.List.{list_all, All}
use Rattle.std.specs.Int.{IsInRange}
use Rattle.std.proofs.lemmas.Bool.Decides.{Decides-by_and, Decides-and, Decides-or, Decides-not}
use Rattle.std.proofs.lemmas.Bool.Decides.{Decides-like, Decides-eqb, nat_tests}
use Rattle.omos_base.specs.SymNames.{IsNameByte}
use Rattle.omos_model.specs.Laws.{NameLaw}
use Rattle.omos_model.specs.Names.{is_name_byte}

leb_law : (a b : ℕ) → Decides (nat_le a b) (a ≤ b)
leb_law a b = (λ h. grind (arith, nat_tests), λ h. grind (arith, nat_tests))

barred : (a b : ℕ) → Decides (not (a == b)) (a ≢ b)
barred a b = Decides-not (a == b) (Decides-eqb a b)

within : (lo hi b : ℕ) → Decides (nat_le lo b && nat_le b hi) (IsInRange lo hi b)
within lo hi b = Decides-and (nat_le lo b) (nat_le b hi) (leb_law lo b) (leb_law b hi)

five : {P Q R S T : Type 0} (p q r s t : Bool) → Decides p P → Decides q Q → Decides r R
    → Decides s S → Decides t T
    → Decides (p && q && r && s && t) (P × Q × R × S × T)
five {P} {Q} {R} {S} {T} p q r s t a b c d e =
    Decides-like (p && q && r && s && t) (λ h. (h.0.0.0.0, h.0.0.0.1, h.0.0.1, h.0.1, h.1))
    (λ h. ((((h.0, h.1), h.2), h.3), h.4))
    (Decides-and (p && q && r && s) t
    (Decides-and (p && q && r) s (Decides-and (p && q) r (Decides-and p q a b) c) d) e)

byte_law : (b : ℕ) → Decides (is_name_byte b) (IsNameByte b)
byte_law b =
    five _ _ _ _ _
    (Decides-or (nat_le 33 b && nat_le b 126) (nat_le 128 b && nat_le b 255) (within 33 126 b)
    (within 128 255 b))
    (barred b 34) (barred b 40) (barred b 41) (barred b 59)

bytes_law : (bs : List ℕ) → Decides (list_all is_name_byte bs) (All IsNameByte bs)
bytes_law =
    Decides-by_and is_name_byte IsNameByte (list_all is_name_byte) byte_law refl (λ _ _. refl)

pub name_law : NameLaw
name_law bs =
    Decides-and (nat_le 1 (length bs) && nat_le (length bs) 1024) (list_all is_name_byte bs)
    (Decides-and (nat_le 1 (length bs)) (nat_le (length bs) 1024) (leb_law 1 (length bs))
    (leb_law (length bs) 1024)) (bytes_law bs)
