-- A record stays numbered, and counts what waits, by one step more.
use Rattle.std.proofs.Common.{◌≡◌, ℕ, ◌+◌, ◌<◌, ◌≤◌, Bool, true, false, not, ◌&&◌, ◌||◌, ◌==◌}
use Rattle.std.proofs.Common.{List, [], ◌∷◌, ◌++◌, refl, ap, sym, ◌∙◌}
use Rattle.std.proofs.Common.{arith, true≢false}
use Rattle.std.specs.List.{All, list_any, sum_by, count_by}
use Rattle.std.proofs.lemmas.Bool.{and_left}
use Rattle.std.proofs.lemmas.Bool.Decides.{nat_tests}
use Rattle.std.proofs.lemmas.List.Elements.{All-push, All-weaker, All-nil}
use Rattle.std.proofs.lemmas.List.Sums.{sum_by_push, sum_by-cons}
use Rattle.omos_model.specs.Names.{Name}
use Rattle.history_book.specs.Steps.{number_of, is_asked, is_answer}
use Rattle.history_book.specs.Steps.{is_ask_of, Ask}
use Rattle.history_book.specs.Told.{requests, is_answered, IsOpen}
use Rattle.history_book.specs.Room.{is_waiting, unanswered}
use Rattle.history_book.specs.Owed.{IsNumbered}
use Rattle.history_book.specs.Tallied.{one_if}
use Rattle.history_book.specs.declared.step.Note.{Note}
use Rattle.history_book.specs.declared.step.Step.{Step}
use Rattle.history_book.specs.declared.step.Step.TheVariants.{Asked}
use Rattle.history_book.specs.declared.step.Step.TheVariants.{Answered}
use Rattle.history_book.proofs.Grow.{requests_push, answered_push}
use Rattle.history_book.proofs.Numbers.{has_ask, IsBelow, fresh_answer, fresh_count, asked_below}

-- ---- counting

pub count_same : {X : Type 0} (p q : X → Bool) → ((x : X) → p x ≡ q x) → (xs : List X)
    → count_by p xs ≡ count_by q xs
count_same p q same [] = refl
count_same p q same (x ∷ xs) =
    omega (
      arith,
      sum_by-cons (λ y. one_if (p y)) x xs,
      sum_by-cons (λ y. one_if (q y)) x xs,
      ap one_if (same x),
      count_same p q same xs,
    )

counts_add : {X : Type 0} (f g h : X → ℕ) → ((x : X) → f x + g x ≡ h x) → (xs : List X)
    → sum_by f xs + sum_by g xs ≡ sum_by h xs
counts_add f g h same [] = refl
counts_add f g h same (x ∷ xs) =
    omega (
      arith,
      sum_by-cons f x xs,
      sum_by-cons g x xs,
      sum_by-cons h x xs,
      same x,
      counts_add f g h same xs,
    )

any_counts : {X : Type 0} (p : X → Bool) (xs : List X) → list_any p xs ≡ true → 1 ≤ count_by p xs
any_counts p [] e = absurd (true≢false (sym e))
any_counts p (x ∷ xs) e = go (p x) refl e (any_counts p xs)
  where
    go : (b : Bool) → p x ≡ b → (b || list_any p xs) ≡ true
        → (list_any p xs ≡ true → 1 ≤ count_by p xs)
        → 1 ≤ count_by p (x ∷ xs)
    go true d k i = omega (arith, sum_by-cons (λ y. one_if (p y)) x xs, ap one_if d)
    go false d k i = omega (arith, sum_by-cons (λ y. one_if (p y)) x xs, i k)

-- ---- one step more

or_false : (b : Bool) → (b || false) ≡ b
or_false true = refl
or_false false = refl

pub answered_same : (P : List Step) (s : Step) → is_answer s ≡ false → (n : ℕ)
    → is_answered (P ++ s ∷ []) n ≡ is_answered P n
answered_same P s e n =
    answered_push P s n
    ∙ ap (λ b. is_answered P n || (b || false)) (and_left (is_answer s) (number_of s == n) e)
    ∙ or_false (is_answered P n)

waits_same : (P : List Step) (s : Step) → is_answer s ≡ false → (x : Step)
    → is_waiting (P ++ s ∷ []) x ≡ is_waiting P x
waits_same P s e x = ap (λ b. is_asked x && not b) (answered_same P s e (number_of x))

unanswered_push : (P : List Step) (s : Step) → is_answer s ≡ false
    → unanswered (P ++ s ∷ []) ≡ unanswered P + one_if (is_waiting P s)
unanswered_push P s e =
    sum_by_push (λ x. one_if (is_waiting (P ++ s ∷ []) x)) P s
    ∙ ap (λ n. n + one_if (is_waiting (P ++ s ∷ []) s))
    (count_same (is_waiting (P ++ s ∷ [])) (is_waiting P) (waits_same P s e) P)
    ∙ ap (λ b. unanswered P + one_if b) (waits_same P s e s)

below_push : (P : List Step) (s : Step) → All (IsBelow (requests P)) P
    → number_of s < requests (P ++ s ∷ [])
    → All (IsBelow (requests (P ++ s ∷ []))) (P ++ s ∷ [])
below_push P s all l =
    All-push (IsBelow (requests (P ++ s ∷ []))) P s
    (All-weaker (IsBelow (requests P)) (IsBelow (requests (P ++ s ∷ [])))
    (λ x h. omega (arith, requests_push P s)) P all) l

pub counted : (p : Step → Bool) (P : List Step) (s : Step)
    → count_by p (P ++ s ∷ []) ≡ count_by p P + one_if (p s)
counted p P s = sum_by_push (λ x. one_if (p x)) P s

-- neither a link request nor an answer
pub numbered_other : (P : List Step) (s : Step) → IsNumbered P
    → number_of s < requests (P ++ s ∷ [])
    → is_asked s ≡ false → is_answer s ≡ false → IsNumbered (P ++ s ∷ [])
numbered_other P s h l no_asking no_answer = record {
  below = below_push P s h.below l;
  once = λ n. omega (
    arith,
    counted (is_ask_of n) P s,
    ap one_if (and_left (is_asked s) (number_of s == n) no_asking),
    h.once n,
  );
  own = omega (
    arith,
    unanswered_push P s no_answer,
    ap one_if (and_left (is_asked s) (not (is_answered P (number_of s))) no_asking),
    counted is_answer P s,
    ap one_if no_answer,
    counted is_asked P s,
    ap one_if no_asking,
    h.own,
  );
}

-- a link request draws the next number
pub numbered_ask : (P : List Step) (seat : ℕ) (path : Name) (version : ℕ) (hit : Bool)
    → IsNumbered P
    → IsNumbered (P ++ Asked seat (requests P) path version hit ∷ [])
numbered_ask P seat path version hit h =
    let s : Step = Asked seat (requests P) path version hit in
    let waits : is_waiting P s ≡ true = ap not (fresh_answer P (requests P) h.below) in
    record {
      below = below_push P s h.below (omega (arith, requests_push P s));
      once = λ n. once n (requests P == n) refl;
      own = omega (
        arith,
        unanswered_push P s refl,
        ap one_if waits,
        counted is_answer P s,
        counted is_asked P s,
        h.own,
      );
    }
  where
    once : (n : ℕ) (b : Bool) → (requests P == n) ≡ b
        → count_by (is_ask_of n) (P ++ Asked seat (requests P) path version hit ∷ []) ≤ 1
    once n true d =
        let same : requests P ≡ n = grind (arith, nat_tests, d) in
        omega (
          arith,
          counted (is_ask_of n) P (Asked seat (requests P) path version hit),
          ap one_if d,
          ap (λ m. count_by (is_ask_of m) P) same,
          fresh_count (requests P) P h.below,
        )
    once n false d =
        omega (
          arith,
          counted (is_ask_of n) P (Asked seat (requests P) path version hit),
          ap one_if d,
          h.once n,
        )

-- what waits before an answer, waits behind it or is answered by it
one_less : (asked answered same here : Bool) → (same ≡ true → answered ≡ false) → here ≡ same
    → one_if (asked && not (answered || (here || false))) + one_if (asked && same)
    ≡ one_if (asked && not answered)
one_less false b e d f g = refl
one_less true b true d f g = rw (g, f refl) refl
one_less true true false d f g = refl
one_less true false false d f g = rw g refl

swapped : (m n : ℕ) → (n == m) ≡ (m == n)
swapped m n = go (m == n) refl
  where
    go : (b : Bool) → (m == n) ≡ b → (n == m) ≡ b
    go true e = grind (arith, nat_tests, e)
    go false e = grind (arith, nat_tests, e)

answers_one : (P : List Step) (seat n : ℕ) (note : Note) → is_answered P n ≡ false
    → unanswered (P ++ Answered seat n note ∷ []) + count_by (is_ask_of n) P ≡ unanswered P
answers_one P seat n note un =
    let s : Step = Answered seat n note in
    omega (
      arith,
      sum_by_push (λ x. one_if (is_waiting (P ++ s ∷ []) x)) P s,
      counts_add (λ x. one_if (is_waiting (P ++ s ∷ []) x)) (λ x. one_if (is_ask_of n x))
          (λ x. one_if (is_waiting P x)) each P,
    )
  where
    each : (x : Step)
        → one_if (is_waiting (P ++ Answered seat n note ∷ []) x) + one_if (is_ask_of n x)
        ≡ one_if (is_waiting P x)
    each x =
        ap (λ b. one_if (is_asked x && not b) + one_if (is_ask_of n x))
        (answered_push P (Answered seat n note) (number_of x))
        ∙ one_less (is_asked x) (is_answered P (number_of x)) (number_of x == n) (n == number_of x)
        (λ e. ap (is_answered P) (let same : number_of x ≡ n = grind (arith, nat_tests, e) in same)
        ∙ un) (swapped (number_of x) n)

-- an answer takes the number of a link request that waits
pub numbered_answer : (P : List Step) (a : Ask) (seat : ℕ) (note : Note) → IsNumbered P → IsOpen P a
    → IsNumbered (P ++ Answered seat a.number note ∷ [])
numbered_answer P a seat note h o =
    let s : Step = Answered seat a.number note in
    record {
      below = below_push P s h.below (omega (arith, requests_push P s, asked_below P a h o.asked));
      once = λ n. omega (arith, counted (is_ask_of n) P s, h.once n);
      own = omega (
        arith,
        answers_one P seat a.number note o.waits,
        h.once a.number,
        any_counts (is_ask_of a.number) P (has_ask a.number P a o.asked),
        counted is_answer P s,
        counted is_asked P s,
        h.own,
      );
    }

pub numbered_nothing : IsNumbered []
numbered_nothing = record { below = All-nil (IsBelow 0); once = λ n. omega arith; own = refl }
