-- Texts that were put together piece by piece.
use Rattle.std.proofs.Common.{◌≡◌, ℕ, ◌+◌, List, [], ◌++◌, length, ap, ◌∙◌, arith, append_assoc}
use Rattle.std.proofs.Common.{length-append}

pub line_by : (t1 d1 t2 d2 t3 d3 t4 d4 t5 d5 t6 d6 t7 d7 e l0 l1 l2 l3 l4 l5 l6 l7 l8 : List ℕ)
    → l0 ≡ [] → l1 ≡ l0 ++ t1 ++ d1 → l2 ≡ l1 ++ t2 ++ d2 → l3 ≡ l2 ++ t3 ++ d3
    → l4 ≡ l3 ++ t4 ++ d4
    → l5 ≡ l4 ++ t5 ++ d5 → l6 ≡ l5 ++ t6 ++ d6 → l7 ≡ l6 ++ t7 ++ d7 → l8 ≡ l7 ++ e
    → l8 ≡ t1 ++ d1 ++ t2 ++ d2 ++ t3 ++ d3 ++ t4 ++ d4 ++ t5 ++ d5 ++ t6 ++ d6 ++ t7 ++ d7 ++ e
line_by t1 d1 t2 d2 t3 d3 t4 d4 t5 d5 t6 d6 t7 d7 e l0 l1 l2 l3 l4 l5 l6 l7 l8 e0 e1 e2 e3 e4 e5 e6
    e7 e8 =
    let one : l1 ≡ t1 ++ d1 = e1 ∙ ap (λ (l : List ℕ). l ++ t1 ++ d1) e0 in
    let two : l2 ≡ t1 ++ d1 ++ t2 ++ d2 = e2 ∙ ap (λ (l : List ℕ). l ++ t2 ++ d2) one in
    let three : l3 ≡ t1 ++ d1 ++ t2 ++ d2 ++ t3 ++ d3 =
    e3 ∙ ap (λ (l : List ℕ). l ++ t3 ++ d3) two in
    let four : l4 ≡ t1 ++ d1 ++ t2 ++ d2 ++ t3 ++ d3 ++ t4 ++ d4 =
    e4 ∙ ap (λ (l : List ℕ). l ++ t4 ++ d4) three in
    let five : l5 ≡ t1 ++ d1 ++ t2 ++ d2 ++ t3 ++ d3 ++ t4 ++ d4 ++ t5 ++ d5 =
    e5 ∙ ap (λ (l : List ℕ). l ++ t5 ++ d5) four in
    let six : l6 ≡ t1 ++ d1 ++ t2 ++ d2 ++ t3 ++ d3 ++ t4 ++ d4 ++ t5 ++ d5 ++ t6 ++ d6 =
    e6 ∙ ap (λ (l : List ℕ). l ++ t6 ++ d6) five in
    e8 ∙ ap (λ (l : List ℕ). l ++ e) (e7 ∙ ap (λ (l : List ℕ). l ++ t7 ++ d7) six)

-- the second text is of two pieces
pub program_by : (t d s o f e l0 l1 l2 l3 : List ℕ) → l0 ≡ [] → l1 ≡ l0 ++ t ++ d
    → l2 ≡ l1 ++ (s ++ o) ++ f → l3 ≡ l2 ++ e
    → l3 ≡ t ++ d ++ s ++ (o ++ f) ++ e
program_by t d s o f e l0 l1 l2 l3 e0 e1 e2 e3 =
    let one : l1 ≡ t ++ d = e1 ∙ ap (λ (l : List ℕ). l ++ t ++ d) e0 in
    let two : l2 ≡ (t ++ d) ++ (s ++ o) ++ f = e2 ∙ ap (λ (l : List ℕ). l ++ (s ++ o) ++ f) one in
    let same : (t ++ d) ++ (s ++ o) ++ f ≡ t ++ d ++ s ++ (o ++ f) = simp append_assoc in
    e3 ∙ ap (λ (l : List ℕ). l ++ e) (two ∙ same)

pub program_short : (t d s f e l0 l1 l2 l3 : List ℕ) → l0 ≡ [] → l1 ≡ l0 ++ t ++ d
    → l2 ≡ l1 ++ s ++ f → l3 ≡ l2 ++ e
    → length l3 ≡ length t + length d + length s + length f + length e
program_short t d s f e l0 l1 l2 l3 e0 e1 e2 e3 =
    omega (
      arith,
      ap length e0,
      ap length e1,
      ap length e2,
      ap length e3,
      length-append l0 t,
      length-append (l0 ++ t) d,
      length-append l1 s,
      length-append (l1 ++ s) f,
      length-append l2 e,
    )

-- one piece more
pub piece_short : (t d old new : List ℕ) → new ≡ old ++ t ++ d
    → length new ≡ length old + length t + length d
piece_short t d old new e =
    omega (arith, ap length e, length-append old t, length-append (old ++ t) d)
