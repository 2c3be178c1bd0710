-- The slots' bytes.
use Rattle.std.proofs.Common.{◌≡◌, ℕ, ◌+◌, ◌-◌, ◌*◌, ◌/◌, ◌%◌, ◌<◌, ◌≤◌, List, length, get_or}
use Rattle.std.proofs.Common.{Option, Some, None, Bool, true, false}
use Rattle.std.proofs.Common.{refl, sym, ap, subst, ◌∙◌, arith, inl, inr}
use Rattle.std.specs.Prelude.{slice_get, slice_index, if◌then◌else◌}
use Rattle.std.specs.Option.{option_map, option_or}
use Rattle.std.proofs.lemmas.Bool.{cases_lt}
use Rattle.std.proofs.lemmas.Bool.Decides.{nat_tests}
use Rattle.omos_base.specs.Endian.{little_bytes}
use Rattle.omos_base.specs.Fields.{with_number}
use Rattle.omos_model.specs.declared.mark.Target.{Target}
use Rattle.link_model.specs.ImageBytes.{covers}
use Rattle.image_write.specs.inside.Addresses.{address_in, slots_byte}
use Rattle.image_write.specs.inside.Painted.{Painted, run_at}
use Rattle.image_write.proofs.Painting.{painted-as, painted-run, painted-then, run_at-behind}
use Rattle.image_write.proofs.Painting.{run_at-below, run_at-inside}
use Rattle.std.proofs.lemmas.Option.{slice_get_read}

-- ---- the bytes

abbrev slot_byte_in : List (List ℕ) → ℕ → List Target → ℕ → ℕ → Option ℕ
slot_byte_in places base slots begin x =
    option_map
    (λ target. slice_index (little_bytes 8 (address_in places base target)) ((x - begin) % 8))
    (slice_get slots ((x - begin) / 8))

covers-yes : (begin size x : ℕ) → begin ≤ x → x < begin + size → covers begin size x ≡ true
covers-yes begin size x h k = grind (arith, nat_tests)

pub covers-below : (begin size x : ℕ) → x < begin → covers begin size x ≡ false
covers-below begin size x h = grind (arith, nat_tests)

covers-behind : (begin size x : ℕ) → begin + size ≤ x → covers begin size x ≡ false
covers-behind begin size x h = grind (arith, nat_tests)

if_none : {X : Type 0} (b : Bool) (o : Option X) → b ≡ false → (if b then o else None) ≡ None
if_none b o h = λ i. if h i then o else None

if_some : {X : Type 0} (b : Bool) (o : Option X) → b ≡ true → (if b then o else None) ≡ o
if_some b o h = λ i. if h i then o else None

none_both : {X : Type 0} (a b c : Option X) → a ≡ None → b ≡ None → c ≡ None → option_or a b ≡ c
none_both a b c p q r = (λ i. option_or (p i) (q i)) ∙ sym r

from_second : {X : Type 0} (a b c o : Option X) → a ≡ None → b ≡ o → c ≡ o → option_or a b ≡ c
from_second a b c o p q r = (λ i. option_or (p i) (q i)) ∙ sym r

from_first : {X : Type 0} (a b c : Option X) (y : X) → a ≡ Some y → c ≡ Some y → option_or a b ≡ c
from_first a b c y p r = ap (λ o. option_or o b) p ∙ sym r

slots_byte-next : (places : List (List ℕ)) (base : ℕ) (slots : List Target) (begin i : ℕ)
    (target : Target) (bytes : List ℕ) (x : ℕ)
    → i < length slots → target ≡ get_or slots i target
    → bytes ≡ little_bytes 8 (address_in places base target) → length bytes ≡ 8
    → option_or (run_at (begin + 8 * i) bytes x) (slots_byte places base slots begin i x)
    ≡ slots_byte places base slots begin (i + 1) x
slots_byte-next places base slots begin i target bytes x lt et eb n =
    elim (cases_lt x begin) [
      | inl below ↦
          none_both _ _ _ (run_at-below (begin + 8 * i) bytes x (omega arith))
          (if_none _ inner (covers-below begin (8 * i) x below))
          (if_none _ inner (covers-below begin (8 * (i + 1)) x below))
      | inr from ↦
          elim (cases_lt x (begin + 8 * i)) [
            | inl old ↦
                from_second _ _ _ inner (run_at-below (begin + 8 * i) bytes x old)
                (if_some _ inner (covers-yes begin (8 * i) x from old))
                (if_some _ inner (covers-yes begin (8 * (i + 1)) x from (omega arith)))
            | inr new ↦
                elim (cases_lt x (begin + 8 * i + 8)) [
                  | inl now ↦
                      from_first _ _ _ _ (run_at-inside (begin + 8 * i) bytes x new (omega arith))
                      (if_some _ inner (covers-yes begin (8 * (i + 1)) x from (omega arith))
                      ∙ here new now)
                  | inr behind ↦
                      none_both _ _ _ (run_at-behind (begin + 8 * i) bytes x (omega arith))
                      (if_none _ inner (covers-behind begin (8 * i) x (omega arith)))
                      (if_none _ inner (covers-behind begin (8 * (i + 1)) x (omega arith)))
                ]
          ]
    ] where
      inner : Option ℕ
      inner = slot_byte_in places base slots begin x

      here : begin + 8 * i ≤ x → x < begin + 8 * i + 8
          → inner ≡ Some (slice_index bytes (x - (begin + 8 * i)))
      here h k =
          let q : (x - begin) / 8 ≡ i = omega arith in
          let m : (x - begin) % 8 ≡ x - (begin + 8 * i) = omega arith in
          (λ j. option_map (λ t. slice_index (little_bytes 8 (address_in places base t)) (m j))
          (slice_get slots (q j)))
          ∙ ap (option_map
          (λ t. slice_index (little_bytes 8 (address_in places base t)) (x - (begin + 8 * i))))
          (slice_get_read slots (length slots) i target refl lt et)
          ∙ (λ j. Some (slice_index (sym eb j) (x - (begin + 8 * i))))

pub slots-go : (places : List (List ℕ)) (base : ℕ) (slots : List Target) (begin i value : ℕ)
    (target : Target) (new mid old : List ℕ)
    → i < length slots → value ≡ address_in places base target → target ≡ get_or slots i target
    → begin + 8 * length slots ≤ length old → new ≡ with_number 8 (begin + 8 * i) value mid
    → Painted mid (slots_byte places base slots begin i) old
    → Painted new (slots_byte places base slots begin (i + 1)) old
slots-go places base slots begin i value target new mid old lt ev et fits en before =
    let fits' : begin + 8 * i + 8 ≤ length mid = omega (arith, before.size) in
    let run : Painted (with_number 8 (begin + 8 * i) value mid)
    (run_at (begin + 8 * i) (little_bytes 8 value)) mid =
    painted-run mid (begin + 8 * i) (little_bytes 8 value) fits' in
    let later : Painted new (run_at (begin + 8 * i) (little_bytes 8 value)) mid =
    subst (λ (xs : List ℕ). Painted xs (run_at (begin + 8 * i) (little_bytes 8 value)) mid) (sym en)
    run in
    painted-as (slots_byte places base slots begin (i + 1)) (painted-then later before)
    (λ x _. slots_byte-next places base slots begin i target (little_bytes 8 value) x lt et
    (ap (little_bytes 8) ev) refl)

-- what is made of an item is read where the item is
pub read-as : (xs : List Target) (i : ℕ) (x t : Target) → t ≡ x → x ≡ get_or xs i x
    → t ≡ get_or xs i t
read-as xs i x t e h = e ∙ h ∙ ap (get_or xs i) (sym e)
