-- Tickets and endings, from the record that was seen to the one that is found.
use Rattle.std.proofs.Common.{◌≡◌, ◌≢◌, inl, inr, ℕ, zero, suc, ◌+◌, ◌≤◌, Bool, true, false, not}
use Rattle.std.proofs.Common.{◌||◌, cond, eqb, List, [], ◌∷◌, ◌++◌, length, take}
use Rattle.std.proofs.Common.{refl, ap, sym, ◌∙◌, subst, arith, true≢false, eq-eqb, append-nil}
use Rattle.std.proofs.Common.{append_assoc}
use Rattle.std.specs.List.{All, list_any, before_first, position_or_len}
use Rattle.turn_lock.specs.Steps.{steps_by}
use Rattle.link_model.specs.Answer.{answer}
use Rattle.link_model.specs.Plan.{plan_of}
use Rattle.omos_model.specs.declared.refusal.Refusal.{Refusal}
use Rattle.history_book.specs.Steps.{seat_of, is_ask_of, Ask}
use Rattle.history_book.specs.Told.{version_after, book_of, is_placed}
use Rattle.history_book.specs.Legal.{Runs, IsRefusal}
use Rattle.history_book.specs.declared.step.Step.{Step}
use Rattle.history_book.proofs.Grow.{namespace_stays}
use Rattle.history_book.proofs.Lawful.{place_stays, room_stays}
use Rattle.history_book.proofs.Numbers.{has_ask}
use Rattle.history_book.proofs.Turns.{open_stays}
use Rattle.hub_store.specs.Parts.{TicketParts, IsTicket, asking_of}
use Rattle.hub_store.specs.Links.{MayFinish}
use Rattle.hub_store.specs.declared.reply.Outcome.{Outcome}
use Rattle.hub_store.specs.declared.reply.Outcome.TheVariants as outcome
use Rattle.hub_store.proofs.Kept.{version_grows}
use Rattle.omos_hub.specs.inside.Carries.{TicketsCarry, EndingsCarry}

-- the steps that follow a beginning of a record run on from it
runs_on : (c r : ℕ) (D xs ys : List Step) → Runs c r D (xs ++ ys) → Runs c r (D ++ xs) ys
runs_on c r D [] ys h = subst (λ Q. Runs c r Q ys) (sym (append-nil D)) h
runs_on c r D (x ∷ xs) ys h =
    subst (λ Q. Runs c r Q ys) (append_assoc D (x ∷ []) xs) (runs_on c r (D ++ x ∷ []) xs ys h.1)

not_nothing : {X : Type 0} (x : X) (xs : List X) → x ∷ xs ≡ [] → ⊥
not_nothing x xs e = cc

-- a list without a step of the seat has steps of others alone
others_alone : (n : ℕ) (xs : List Step) → steps_by seat_of n xs ≡ [] → All (λ s. seat_of s ≢ n) xs
others_alone n [] e k d lt = absurd (omega (arith, lt))
others_alone n (x ∷ xs) e k d lt = go (eqb (seat_of x) n) refl e (λ f. others_alone n xs f) k d lt
  where
    go : (b : Bool) → eqb (seat_of x) n ≡ b
        → cond b (x ∷ steps_by seat_of n xs) (steps_by seat_of n xs) ≡ []
        → (steps_by seat_of n xs ≡ [] → All (λ s. seat_of s ≢ n) xs)
        → All (λ s. seat_of s ≢ n) (x ∷ xs)
    go true t k f j d lt = absurd (not_nothing x (steps_by seat_of n xs) k)
    go false t k f zero d lt = λ same. true≢false (sym (eq-eqb (seat_of x) n same) ∙ t)
    go false t k f (suc j) d lt = f k j d (omega (arith, lt))

before_more : {X : Type 0} (p : X → Bool) (x : X) (xs : List X) → p x ≡ false
    → before_first p (x ∷ xs) ≡ x ∷ before_first p xs
before_more p x xs e =
    let next : position_or_len p (x ∷ xs) ≡ suc (position_or_len p xs) =
    ap (λ b. cond (not b) (1 + position_or_len p xs) 0) e ∙ omega arith in
    ap (λ n. take n (x ∷ xs)) next

before_stays : {X : Type 0} (p : X → Bool) (xs ys : List X) → list_any p xs ≡ true
    → before_first p (xs ++ ys) ≡ before_first p xs
before_stays p [] ys e = absurd (true≢false (sym e))
before_stays p (x ∷ xs) ys e = go (p x) refl e (before_stays p xs ys)
  where
    go : (b : Bool) → p x ≡ b → (b || list_any p xs) ≡ true
        → (list_any p xs ≡ true → before_first p (xs ++ ys) ≡ before_first p xs)
        → before_first p (x ∷ xs ++ ys) ≡ before_first p (x ∷ xs)
    go true d k f =
        ap (λ b. take (cond (not b) (1 + position_or_len p (xs ++ ys)) 0) (x ∷ xs ++ ys)) d
        ∙ sym (ap (λ b. take (cond (not b) (1 + position_or_len p xs) 0) (x ∷ xs)) d)
    go false d k f = before_more p x (xs ++ ys) d ∙ ap (λ zs. x ∷ zs) (f k)
        ∙ sym (before_more p x xs d)

pub tickets_carried : TicketsCarry
tickets_carried c r P H numbers t legal legal' g has h =
    let runs : Runs c r P g.more =
    runs_on c r [] P g.more (subst (λ Q. Runs c r [] Q) g.whole legal'.runs) in
    let o = open_stays c r P g.more (asking_of t) legal runs h.here refl
    (others_alone t.seat g.more (g.others t.seat has)) in
    let within = h.within in
    let grows = version_grows P g.more in
    let stays : IsTicket (P ++ g.more) t
    × (is_placed (P ++ g.more) t.number ≡ is_placed P t.number) = (
      record {
        here = o.0;
        within = omega (arith, within, grows);
        space = h.space ∙ sym (namespace_stays P g.more t.version h.within);
        placed = h.placed
            ∙ ap (λ Q. length (book_of Q))
            (sym (before_stays (is_ask_of t.number) P g.more
            (has_ask t.number P (asking_of t) h.here.asked)));
      },
      o.1,
    ) in
    subst (λ Q. IsTicket Q t × (is_placed Q t.number ≡ is_placed P t.number)) (sym g.whole) stays

refusal_stays : (c r : ℕ) (P more : List Step) (a : Ask) (x : Refusal) → Runs c r P more
    → a.version ≤ version_after P → IsRefusal P a x → IsRefusal (P ++ more) a x
refusal_stays c r P more a x runs l (inl e) =
    inl (ap (λ ns. plan_of ns a.path) (namespace_stays P more a.version l) ∙ e)
refusal_stays c r P more a x runs l (inr (inl h)) =
    inr (inl (h.0, room_stays c r P more a h.0 runs l h.1, h.2))
refusal_stays c r P more a x runs l (inr (inr h)) =
    inr (inr (
      h.0,
      h.1,
      place_stays c r P more a h.0 h.1 runs l h.2,
      ap (λ ns. answer ns a.path h.1) (namespace_stays P more a.version l) ∙ h.3,
    ))

ending_stays : (c r : ℕ) (P more : List Step) (t : TicketParts) (o : Outcome) → Runs c r P more
    → t.version ≤ version_after P → MayFinish P t o → MayFinish (P ++ more) t o
ending_stays c r P more t (outcome.Image l) runs low h = (
  h.0,
  record {
    path = h.1.path;
    listed = h.1.listed;
    place = place_stays c r P more (asking_of t) h.0 l.base runs low h.1.place;
  },
)
ending_stays c r P more t (outcome.Refused x) runs low h =
    refusal_stays c r P more (asking_of t) x runs low h
ending_stays c r P more t outcome.NoMemory runs low h = tt
ending_stays c r P more t outcome.Replayed runs low h =
    (h.0, h.1, h.2, place_stays c r P more (asking_of t) h.1 h.2 runs low h.3)

pub endings_carried : EndingsCarry
endings_carried c r P H numbers t o legal g h may =
    let runs : Runs c r P g.more =
    runs_on c r [] P g.more (subst (λ Q. Runs c r [] Q) g.whole legal.runs) in
    subst (λ Q. MayFinish Q t o) (sym g.whole) (ending_stays c r P g.more t o runs h.within may)
