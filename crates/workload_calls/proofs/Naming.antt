-- `f` and a number is a name, and no long one.
use Rattle.std.proofs.Common.{ℕ, ◌+◌, ◌<◌, ◌≤◌, ◌^◌, ◌%◌, List, [], ◌∷◌, length, arith, inl}
use Rattle.std.proofs.Common.{length-append}
use Rattle.std.proofs.lemmas.Fmt.{decimal_by_steps, length-decimal-le}
use Rattle.std.proofs.lemmas.List.Elements.{All-append, All-cons, All-nil}
use Rattle.std.specs.Prelude.{codes, decimal}
use Rattle.std.specs.List.{All}
use Rattle.omos_base.specs.SymNames.{HasNameFault, IsNameByte, IsSymName}
use Rattle.omos_base.specs.declared.sym_name.NameFault.{NameFault}
use Rattle.omos_base.specs.declared.sym_name.NameFault.TheVariants.{Length, Byte}
use Rattle.workload_calls.specs.Objects.{numbered}

digit_named : (d : ℕ) → d < 10 → IsNameByte (48 + d)
digit_named d h = (
  inl (omega arith, omega arith),
  (λ e. omega (arith, e)),
  (λ e. omega (arith, e)),
  (λ e. omega (arith, e)),
  (λ e. omega (arith, e)),
)

digits_named : (n : ℕ) → n < 2 ^ 64 → All IsNameByte (decimal n)
digits_named n h =
    decimal_by_steps (λ _ ds. All IsNameByte ds)
    (λ d small. All-cons IsNameByte (48 + d) [] (digit_named d small) (All-nil IsNameByte))
    (λ d ds _ before. All-append IsNameByte ds ((48 + d % 10) ∷ []) before
    (All-cons IsNameByte (48 + d % 10) [] (digit_named (d % 10) (omega arith))
    (All-nil IsNameByte)))
    n h

pub short_number : (n : ℕ) → n < 2 ^ 32 → length (decimal n) ≤ 10
short_number n h = length-decimal-le 10 n (omega arith) (omega arith) (omega arith)

f_named : IsNameByte 102
f_named = (
  inl (omega arith, omega arith),
  (λ e. omega (arith, e)),
  (λ e. omega (arith, e)),
  (λ e. omega (arith, e)),
  (λ e. omega (arith, e)),
)

pub function_named : (n : ℕ) → n < 2 ^ 32 → IsSymName (numbered (codes "f") n)
function_named n h = (
  (
    omega (arith, length-append (codes "f") (decimal n)),
    omega (arith, length-append (codes "f") (decimal n), short_number n h),
  ),
  All-append IsNameByte (102 ∷ []) (decimal n)
      (All-cons IsNameByte 102 [] f_named (All-nil IsNameByte)) (digits_named n (omega arith)),
)

-- a name has no fault
pub no_fault : (bytes : List ℕ) (x : NameFault) → IsSymName bytes → HasNameFault bytes x → ⊥
no_fault bytes Length is fault = fault is.0
no_fault bytes (Byte place) is fault = fault.1.2 (is.1 place 0 fault.1.0)
