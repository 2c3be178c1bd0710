-- Writes over a list of bytes, one after another.
use Rattle.std.proofs.Common.{◌≡◌, ℕ, ◌+◌, ◌-◌, ◌<◌, ◌≤◌, List, ◌++◌, length, get_or, take, drop}
use Rattle.std.proofs.Common.{Option, Some, None, unwrap_or, refl, sym, ap, ◌∙◌, arith, rules, inl}
use Rattle.std.proofs.Common.{inr}
use Rattle.std.proofs.lemmas.Bool.{cases_lt}
use Rattle.std.specs.Prelude.{slice_index}
use Rattle.std.specs.Option.{option_map, option_or}
use Rattle.std.proofs.lemmas.List.{places}
use Rattle.std.proofs.lemmas.Bool.Decides.{nat_tests}
use Rattle.image_write.specs.inside.Painted.{Painted, run_at}

-- nothing is written
pub painted-nothing : (old : List ℕ) → Painted old (λ x. None) old
painted-nothing old = record { size = refl; each = λ x h. refl }

-- the same is written
pub painted-as : {new old : List ℕ} {p : ℕ → Option ℕ} (q : ℕ → Option ℕ) → Painted new p old
    → ((x : ℕ) → x < length old → p x ≡ q x) → Painted new q old
painted-as {old} q h same =
    record {
      size = h.size;
      each = λ x lt. h.each x lt
          ∙ (λ i. unwrap_or (same x lt i) (slice_index old x));
    }

-- one call after another
or_else : {X : Type 0} (p q : Option X) (d : X)
    → unwrap_or q (unwrap_or p d) ≡ unwrap_or (option_or q p) d
or_else p (Some y) d = refl
or_else p None d = refl

pub painted-then : {new mid old : List ℕ} {p q : ℕ → Option ℕ} → Painted new q mid
    → Painted mid p old
    → Painted new (λ x. option_or (q x) (p x)) old
painted-then {new} {mid} {old} {p} {q} later before =
    record {
      size = later.size ∙ before.size;
      each = λ x lt.
          let within : x < length mid = omega (arith, before.size) in
          later.each x within ∙ ap (unwrap_or (q x)) (before.each x lt)
          ∙ or_else (p x) (q x) (slice_index old x);
    }

-- a function of one of two
pub either : {X Y : Type 0} (f : X → Y) (a b : Option X)
    → option_or (option_map f a) (option_map f b) ≡ option_map f (option_or a b)
either f (Some x) b = refl
either f None b = refl

pub run_at-inside : (at : ℕ) (bytes : List ℕ) (x : ℕ) → at ≤ x → x < at + length bytes
    → run_at at bytes x ≡ Some (slice_index bytes (x - at))
run_at-inside at bytes x h k = grind (arith, nat_tests)

pub run_at-below : (at : ℕ) (bytes : List ℕ) (x : ℕ) → x < at → run_at at bytes x ≡ None
run_at-below at bytes x h = grind (arith, nat_tests)

pub run_at-behind : (at : ℕ) (bytes : List ℕ) (x : ℕ) → at + length bytes ≤ x
    → run_at at bytes x ≡ None
run_at-behind at bytes x h = grind (arith, nat_tests)

-- the bytes once others are written from a place on
abbrev with_run : List ℕ → ℕ → List ℕ → List ℕ
with_run old at bytes = take at old ++ bytes ++ drop (at + length bytes) old

with_run-below : (old : List ℕ) (at : ℕ) (bytes : List ℕ) (x : ℕ) → at + length bytes ≤ length old
    → x < at
    → get_or (with_run old at bytes) x 0 ≡ get_or old x 0
with_run-below old at bytes x fits h = search (rules, places)

with_run-inside : (old : List ℕ) (at : ℕ) (bytes : List ℕ) (x : ℕ) → at + length bytes ≤ length old
    → at ≤ x
    → x < at + length bytes → get_or (with_run old at bytes) x 0 ≡ get_or bytes (x - at) 0
with_run-inside old at bytes x fits h k = search (rules, places)

with_run-behind : (old : List ℕ) (at : ℕ) (bytes : List ℕ) (x : ℕ) → at + length bytes ≤ length old
    → at + length bytes ≤ x → get_or (with_run old at bytes) x 0 ≡ get_or old x 0
with_run-behind old at bytes x fits h = search (rules, places)

-- bytes written from a place on
pub painted-run : (old : List ℕ) (at : ℕ) (bytes : List ℕ) → at + length bytes ≤ length old
    → Painted (take at old ++ bytes ++ drop (at + length bytes) old) (run_at at bytes) old
painted-run old at bytes fits =
    record {
      size = search (rules, places);
      each = λ x lt.
          elim (cases_lt x at) [
            | inl below ↦
                with_run-below old at bytes x fits below
                ∙ (λ i. unwrap_or (sym (run_at-below at bytes x below) i) (slice_index old x))
            | inr from ↦
                elim (cases_lt x (at + length bytes)) [
                  | inl to ↦
                      with_run-inside old at bytes x fits from to
                      ∙ (λ i. unwrap_or (sym (run_at-inside at bytes x from to) i)
                      (slice_index old x))
                  | inr behind ↦
                      with_run-behind old at bytes x fits behind
                      ∙ (λ i. unwrap_or (sym (run_at-behind at bytes x behind) i)
                      (slice_index old x))
                ]
          ];
    }
