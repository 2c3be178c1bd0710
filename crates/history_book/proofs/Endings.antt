-- How a link request ended, read from a whole record.
use Rattle.std.proofs.Common.{◌≡◌, ℕ, Bool, true, false, not, ◌&&◌, ◌||◌, ◌==◌, List, [], ◌∷◌, ◌++◌}
use Rattle.std.proofs.Common.{Some, None, is_some, refl, ap, sym, ◌∙◌, arith, if◌then◌else◌}
use Rattle.std.proofs.Common.{true≢false}
use Rattle.std.specs.List.{filter_map}
use Rattle.std.proofs.lemmas.Bool.Decides.{nat_tests}
use Rattle.std.proofs.lemmas.List.Elements.{filter_map-append}
use Rattle.std.proofs.lemmas.List.Sums.{sum_by_push}
use Rattle.history_book.specs.Steps.{number_of, is_asked, is_answer, is_answer_of, note_in}
use Rattle.history_book.specs.Told.{first_of, note_of, is_answered}
use Rattle.history_book.specs.Room.{is_waiting, unanswered}
use Rattle.history_book.specs.Owed.{IsNumbered}
use Rattle.history_book.specs.Laws.{AnswerLaw}
use Rattle.history_book.specs.Tallied.{one_if}
use Rattle.history_book.specs.declared.step.Note.{Note}
use Rattle.history_book.specs.declared.step.Step.{Step}
use Rattle.history_book.specs.declared.step.Step.TheVariants.{Put, Missed, Looked, Asked, Placed}
use Rattle.history_book.specs.declared.step.Step.TheVariants.{Answered, Evicted, Stored, Flushed}
use Rattle.history_book.proofs.Grow.{answered_push}
use Rattle.history_book.proofs.Lawful.{sound_all, sound_nothing, follows_good}
use Rattle.history_book.proofs.Legality.{cut_law}
use Rattle.history_book.proofs.Numbers.{first_passes, first_behind, none_is}
use Rattle.history_book.proofs.Numbered.{count_same, counted}

note_in_is : (n : ℕ) (s : Step) → is_some (note_in n s) ≡ is_answer_of n s
note_in_is n (Put seat number path entry size) = refl
note_in_is n (Missed seat number) = refl
note_in_is n (Looked seat number look) = refl
note_in_is n (Asked seat number path version hit) = refl
note_in_is n (Placed seat number path base pages) = refl
note_in_is n (Answered seat number note) = go (number == n)
  where
    go : (b : Bool) → is_some (if b then Some note else None) ≡ b
    go true = refl
    go false = refl
note_in_is n (Evicted seat number path) = refl
note_in_is n (Stored seat number path version) = refl
note_in_is n (Flushed seat number path held) = refl

-- the first answer is the one that is given
pub note_now : (P more : List Step) (seat n : ℕ) (note : Note) → is_answered P n ≡ false
    → note_of (P ++ Answered seat n note ∷ more) n ≡ Some note
note_now P more seat n note un =
    let same : (n == n) ≡ true = grind (arith, nat_tests) in
    let none =
    none_is (note_of P n) (first_passes (note_in n) (is_answer_of n) (note_in_is n) P ∙ un) in
    ap first_of (filter_map-append (note_in n) P (Answered seat n note ∷ more))
    ∙ first_behind (filter_map (note_in n) P) (filter_map (note_in n) (Answered seat n note ∷ more))
    none
    ∙ rw same refl

still : (a b : Bool) → (b ≡ true → a ≡ true) → (a || (b || false)) ≡ a
still true b f = refl
still false true f = absurd (true≢false (sym (f refl)))
still false false f = refl

-- a second answer would leave the count of those that wait
waits_still : (P : List Step) (seat n : ℕ) (note : Note) → is_answered P n ≡ true
    → unanswered (P ++ Answered seat n note ∷ []) ≡ unanswered P
waits_still P seat n note e =
    let s : Step = Answered seat n note in
    omega (
      arith,
      sum_by_push (λ x. one_if (is_waiting (P ++ s ∷ []) x)) P s,
      count_same (is_waiting (P ++ s ∷ [])) (is_waiting P) each P,
    )
  where
    each : (x : Step) → is_waiting (P ++ Answered seat n note ∷ []) x ≡ is_waiting P x
    each x =
        ap (λ b. is_asked x && not b) (answered_push P (Answered seat n note) (number_of x)
        ∙ still (is_answered P (number_of x)) (n == number_of x)
        (λ d. ap (is_answered P) (let same : number_of x ≡ n = grind (arith, nat_tests, d) in same)
        ∙ e))

unanswered_before : (P : List Step) (seat n : ℕ) (note : Note) → IsNumbered P
    → IsNumbered (P ++ Answered seat n note ∷ []) → is_answered P n ≡ false
unanswered_before P seat n note h k = go (is_answered P n) refl
  where
    s : Step
    s = Answered seat n note

    go : (b : Bool) → is_answered P n ≡ b → is_answered P n ≡ false
    go false e = e
    go true e =
        let no : ⊥ = omega (
          arith,
          h.own,
          k.own,
          waits_still P seat n note e,
          counted is_answer P s,
          counted is_asked P s,
        ) in
        absurd no

pub answer_law : AnswerLaw
answer_law c r P more seat n note runs =
    let parts = (cut_law c r [] P (Answered seat n note ∷ more)).0 runs in
    let sound = sound_all c r [] P (sound_nothing c) parts.0 in
    let good = follows_good c r P (Answered seat n note) sound parts.1.0 in
    note_now P more seat n note (unanswered_before P seat n note sound.numbered good.0)
