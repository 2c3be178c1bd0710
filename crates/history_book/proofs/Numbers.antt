-- The numbers of requests, those that were drawn and those still to come.
use Rattle.std.proofs.Common.{◌≡◌, ℕ, ◌<◌, ◌≤◌, Bool, true, false, ◌||◌, ◌==◌}
use Rattle.std.proofs.Common.{List, [], ◌∷◌, ◌++◌, Option, Some, None, is_some, refl, ap, sym, ◌∙◌}
use Rattle.std.proofs.Common.{arith, if◌then◌else◌, true≢false, nat_lt}
use Rattle.std.specs.List.{All, list_any, filter_map, cons_option, count_by}
use Rattle.std.proofs.lemmas.Bool.{and_right}
use Rattle.std.proofs.lemmas.Bool.Decides.{nat_tests}
use Rattle.std.proofs.lemmas.List.Elements.{All-weaker, All-head, All-tail}
use Rattle.std.proofs.lemmas.List.Elements.{filter_map-append}
use Rattle.std.proofs.lemmas.List.Folds.{list_any_none}
use Rattle.std.proofs.lemmas.List.Sums.{sum_by-cons}
use Rattle.omos_model.specs.Names.{Name}
use Rattle.history_book.specs.Steps.{number_of, is_asked, is_answer, is_placing}
use Rattle.history_book.specs.Steps.{is_ask_of, is_answer_of, is_placing_of, Ask, ask_in}
use Rattle.history_book.specs.Told.{requests, ask_of, first_of, is_answered, is_placed}
use Rattle.history_book.specs.Owed.{IsNumbered}
use Rattle.history_book.specs.Tallied.{one_if}
use Rattle.history_book.specs.declared.step.Step.{Step}
use Rattle.history_book.specs.declared.step.Step.TheVariants.{Put, Missed, Looked, Asked, Placed}
use Rattle.history_book.specs.declared.step.Step.TheVariants.{Answered, Evicted, Stored, Flushed}

-- ---- the link request with a number

ask_in_is : (n : ℕ) (s : Step) → is_some (ask_in n s) ≡ is_ask_of n s
ask_in_is n (Put seat number path entry size) = refl
ask_in_is n (Missed seat number) = refl
ask_in_is n (Looked seat number look) = refl
ask_in_is n (Asked seat number path version hit) = go (number == n)
  where
    a : Ask
    a = record { seat = seat; number = number; path = path; version = version; hit = hit }

    go : (b : Bool) → is_some (if b then Some a else None) ≡ b
    go true = refl
    go false = refl
ask_in_is n (Placed seat number path base pages) = refl
ask_in_is n (Answered seat number note) = refl
ask_in_is n (Evicted seat number path) = refl
ask_in_is n (Stored seat number path version) = refl
ask_in_is n (Flushed seat number path held) = refl

first_is : {X : Type 0} (o : Option X) (xs : List X)
    → is_some (first_of (cons_option o xs)) ≡ (is_some o || is_some (first_of xs))
first_is None xs = refl
first_is (Some x) xs = refl

-- the first step that says something passes the test, if one does
pub first_passes : {X : Type 0} (f : Step → Option X) (test : Step → Bool)
    → ((s : Step) → is_some (f s) ≡ test s) → (P : List Step)
    → is_some (first_of (filter_map f P)) ≡ list_any test P
first_passes f test same [] = refl
first_passes f test same (s ∷ P) =
    first_is (f s) (filter_map f P)
    ∙ ap (λ b. b || is_some (first_of (filter_map f P))) (same s)
    ∙ ap (λ b. test s || b) (first_passes f test same P)

pub asked_is : (n : ℕ) (P : List Step) → is_some (ask_of P n) ≡ list_any (is_ask_of n) P
asked_is n P = first_passes (ask_in n) (is_ask_of n) (ask_in_is n) P

pub has_ask : (n : ℕ) (P : List Step) (a : Ask) → ask_of P n ≡ Some a
    → list_any (is_ask_of n) P ≡ true
has_ask n P a e = sym (asked_is n P) ∙ ap is_some e

pub first_stays : {X : Type 0} (xs ys : List X) (x : X) → first_of xs ≡ Some x
    → first_of (xs ++ ys) ≡ Some x
first_stays [] ys x e = absurd cc
first_stays (y ∷ xs) ys x e = e

pub first_behind : {X : Type 0} (xs ys : List X) → first_of xs ≡ None
    → first_of (xs ++ ys) ≡ first_of ys
first_behind [] ys e = refl
first_behind (x ∷ xs) ys e = absurd cc

pub ask_stays : (P Q : List Step) (n : ℕ) (a : Ask) → ask_of P n ≡ Some a
    → ask_of (P ++ Q) n ≡ Some a
ask_stays P Q n a e =
    ap first_of (filter_map-append (ask_in n) P Q)
    ∙ first_stays (filter_map (ask_in n) P) (filter_map (ask_in n) Q) a e

pub ask_now : (P : List Step) (seat n : ℕ) (path : Name) (version : ℕ) (hit : Bool)
    → ask_of P n ≡ None
    → ask_of (P ++ Asked seat n path version hit ∷ []) n
    ≡ Some (record { seat = seat; number = n; path = path; version = version; hit = hit })
ask_now P seat n path version hit e =
    let s : Step = Asked seat n path version hit in
    let same : (n == n) ≡ true = grind (arith, nat_tests) in
    ap first_of (filter_map-append (ask_in n) P (s ∷ []))
    ∙ first_behind (filter_map (ask_in n) P) (filter_map (ask_in n) (s ∷ [])) e
    ∙ rw same refl

-- ---- numbers that are still to come

abbrev pub IsBelow : ℕ → Step → Type 0
IsBelow n s = number_of s < n

apart : (m n : ℕ) → m < n → (m == n) ≡ false
apart m n l = grind (arith, nat_tests, l)

pub none_is : {X : Type 0} (o : Option X) → is_some o ≡ false → o ≡ None
none_is None e = refl
none_is (Some x) e = absurd (true≢false e)

no_ask : (n : ℕ) (s : Step) → number_of s < n → is_ask_of n s ≡ false
no_ask n s l = and_right (is_asked s) (number_of s == n) (apart (number_of s) n l)

pub fresh_ask : (P : List Step) (n : ℕ) → All (IsBelow n) P → ask_of P n ≡ None
fresh_ask P n all =
    none_is (ask_of P n)
    (asked_is n P
    ∙ list_any_none (is_ask_of n) P
    (All-weaker (IsBelow n) (λ s. is_ask_of n s ≡ false) (no_ask n) P all))

pub fresh_answer : (P : List Step) (n : ℕ) → All (IsBelow n) P → is_answered P n ≡ false
fresh_answer P n all =
    list_any_none (is_answer_of n) P
    (All-weaker (IsBelow n) (λ s. is_answer_of n s ≡ false)
    (λ s l. and_right (is_answer s) (number_of s == n) (apart (number_of s) n l)) P all)

pub fresh_place : (P : List Step) (n : ℕ) → All (IsBelow n) P → is_placed P n ≡ false
fresh_place P n all =
    list_any_none (is_placing_of n) P
    (All-weaker (IsBelow n) (λ s. is_placing_of n s ≡ false)
    (λ s l. and_right (is_placing s) (number_of s == n) (apart (number_of s) n l)) P all)

pub fresh_count : (n : ℕ) (P : List Step) → All (IsBelow n) P → count_by (is_ask_of n) P ≡ 0
fresh_count n [] all = refl
fresh_count n (s ∷ P) all =
    omega (
      arith,
      sum_by-cons (λ x. one_if (is_ask_of n x)) s P,
      ap one_if (no_ask n s (All-head (IsBelow n) s P all)),
      fresh_count n P (All-tail (IsBelow n) s P all),
    )

-- a number that was asked isn't still to come
pub asked_below : (P : List Step) (a : Ask) → IsNumbered P → ask_of P a.number ≡ Some a
    → a.number < requests P
asked_below P a h e = go (nat_lt a.number (requests P)) refl
  where
    go : (b : Bool) → nat_lt a.number (requests P) ≡ b → a.number < requests P
    go true d = grind (arith, nat_tests, d)
    go false d =
        let l : requests P ≤ a.number = grind (arith, nat_tests, d) in
        let none =
        fresh_ask P a.number
        (All-weaker (IsBelow (requests P)) (IsBelow a.number) (λ s i. omega arith) P h.below) in
        absurd (true≢false (ap is_some (sym e ∙ none)))
