-- From slots to workers, and through their run.
use Rattle.std.proofs.Common.{◌≡◌, ◌⊎◌, ℕ, zero, suc, ◌+◌, ◌*◌, ◌^◌, ◌<◌, ◌≤◌, Bool, true, false}
use Rattle.std.proofs.Common.{List, [], ◌∷◌, ◌++◌, length, get_or, Option, None, Some, All, refl}
use Rattle.std.proofs.Common.{sym, ap, ◌∙◌, subst, arith, append_assoc, append-nil, length-append}
use native.Mathlib.Numerals.{unary_clauses}
use Rattle.turn_lock.specs.Knowledge.{TableId, Knowledge}
use Rattle.omos_outside.specs.Links.{DoorState, GivenBack}
use Rattle.worker_line.specs.Drawn.{Line, Drawn, DrewOn, IsNew, new_seat}
use Rattle.worker_line.specs.Served.{WasRun}
use Rattle.worker_line.specs.declared.workers.Seated.{Seated}
use Rattle.turn_lock.specs.Steps.{steps_by}
use Rattle.omosd_slots.specs.Visits.{WasServed}
use Rattle.history_book.specs.declared.step.Step.{Step}
use Rattle.history_book.specs.Steps.{seat_of}
use Rattle.history_book.specs.Legal.{IsLegal}
use Rattle.omos_hub.specs.Passes.{new_pass}
use Rattle.omosd_slots.proofs.Visited.{served_none}
use Rattle.omosd_slots.specs.declared.slot.Slot.{Slot}
use Rattle.omosd_slots.specs.Fits.{WorkerState, FitsHub, HasBack, kept_of, IsWorkerOf}
use Rattle.omosd_slots.specs.Slots.{SlotState, AreOpen, new_worker, seated_at, seated_from, HaveRun}
use Rattle.omosd_slots.specs.Slots.{HasRunSlot, IsOpenSlot, slot_states}

module _ {A : Type 0} where
  pub tail_at : (x : A) (xs : List A) (j : ℕ) (d : A) → get_or (x ∷ xs) (j + 1) d ≡ get_or xs j d
  tail_at x xs j d = simp unary_clauses refl

  -- the first of a list that is told by its places, and the rest of it
  pub next_at : (F : ℕ → A) (xs : List A) (x : A) (ys : List A) (k k' : ℕ) → xs ≡ x ∷ ys
      → k' ≡ k + 1 → ((j : ℕ) (d : A) → j < length xs → get_or xs j d ≡ F (k + j + 1))
      → (x ≡ F (k + 1)) × ((j : ℕ) (d : A) → j < length ys → get_or ys j d ≡ F (k' + j + 1))
  next_at F xs x ys k k' is more h =
      let len : length xs ≡ length (x ∷ ys) = ap length is in (
        sym (ap (λ (l : List A). get_or l 0 x) is)
            ∙ (h 0 x (omega (arith, len)) ∙ ap F (omega arith)),
        λ j d lt. sym (tail_at x ys j d)
            ∙ (sym (ap (λ (l : List A). get_or l (j + 1) d) is)
            ∙ (h (j + 1) d (omega (arith, len, lt)) ∙ ap F (omega (arith, more)))),
      )

module _ (hub : TableId) (c r n : ℕ) (line : Line) where
  abbrev It : Type 0
  It = Seated WorkerState

  abbrev From : ℕ → List SlotState → List It
  From = seated_from hub c r n line

  abbrev At : ℕ → SlotState → It
  At = seated_at hub c r n line

  pub length-from : (m : ℕ) (ss : List SlotState) → length (From m ss) ≡ length ss
  length-from m [] = refl
  length-from m (s ∷ ss) = let h = length-from (m + 1) ss in omega (arith, h)

  -- one more worker
  pub seats_next : (its its' : List It) (x : It) (ss ss' : List SlotState) (s : SlotState)
      (all : List It) → its ++ From (length its + 1) ss ≡ all → ss ≡ s ∷ ss' → its' ≡ its ++ x ∷ []
      → x ≡ At (length its + 1) s
      → its' ++ From (length its' + 1) ss' ≡ all
  seats_next its its' x ss ss' s all e is is' at =
      let len : length its' ≡ length its + 1 = ap length is' ∙ length-append its (x ∷ []) in
      (λ i. is' i ++ From (len i + 1) ss')
      ∙ (append_assoc its (x ∷ []) (From (length its + 1 + 1) ss')
      ∙ (ap (λ (y : It). its ++ y ∷ From (length its + 1 + 1) ss') at
      ∙ (ap (λ (l : List SlotState). its ++ From (length its + 1) l) (sym is) ∙ e)))

  -- what holds of each new worker holds at each place
  pub each_new : (P : It → Type 0) → ((m : ℕ) (s : SlotState) → 0 < m → IsOpenSlot s → P (At m s))
      → (m : ℕ) (ss : List SlotState) → 0 < m → AreOpen ss → (k : ℕ) (d : It)
      → k < length (From m ss) → P (get_or (From m ss) k d)
  each_new P h m [] some open_ k d lt = absurd (omega (arith, lt))
  each_new P h m (s ∷ ss) some open_ zero d lt = h m s some open_.0
  each_new P h m (s ∷ ss) some open_ (suc k) d lt =
      each_new P h (m + 1) ss (omega (arith, some)) open_.1 k d (omega (arith, lt))

  back_new : (p : Knowledge Step) (back : Option (List GivenBack)) → p.seen ≡ [] → p.turns ≡ []
      → HasBack p back back 0
  back_new p None seen turns = tt
  back_new p (Some links) seen turns = (
    [],
    sym (append-nil links),
    refl,
    subst (λ (ts : List ℕ). WasServed p.first p.second p.number p.seen ts []) (sym turns)
        (served_none p.first p.second p.number p.seen (ap (steps_by seat_of p.number) seen)),
  )

  pub fits_new : IsLegal c r [] → r ≤ 65536 → (m : ℕ) (s : SlotState) → 0 < m → IsOpenSlot s
      → FitsHub hub (new_worker (new_pass hub c r n m) s.door s.crossed)
  fits_new legal room m s some open_ =
      let a = open_.links in let b = open_.faults in let e = open_.crossed in (
        s.door,
        record {
          lock = refl;
          idle = refl;
          legal = legal;
          some = some;
          room = room;
          joined = refl;
          turns = omega arith;
          gate = omega (arith, e);
          links_low = omega (arith, a);
          faults_low = omega (arith, b);
          links_are = omega arith;
          calls_are = refl;
          stands = (open_.open_is, refl, refl);
          back = back_new (new_pass hub c r n m) s.door.back refl refl;
        },
      )

  abbrev Run : It → It → Type 0
  Run = WasRun (λ (w : WorkerState). w.calls) (λ (w : WorkerState). w.stopped) kept_of (FitsHub hub)

  pub have_run : (m : ℕ) (ss : List SlotState) (its : List It) → length its ≡ length (From m ss)
      → ((k : ℕ) (d : It) → k < length (From m ss) → Run (get_or (From m ss) k d) (get_or its k d))
      → HaveRun hub c r n line m ss its
  have_run m [] [] len h = tt
  have_run m [] (it ∷ its) len h = absurd (omega (arith, len))
  have_run m (s ∷ ss) [] len h = absurd (omega (arith, len))
  have_run m (s ∷ ss) (it ∷ its) len h =
      let w = h 0 it (omega arith) in (
        record {
          seat = w.seat;
          calls_is = w.calls_is;
          kept_is = w.kept_is;
          fits = w.fits;
          ended = w.ended;
          told = (w.few (omega arith), w.told);
        },
        have_run (m + 1) ss its (omega (arith, len)) (λ k d lt. h (suc k) d (omega (arith, lt))),
      )

  pub ran_of : (ss : List SlotState) (olds its : List It) → olds ≡ From 1 ss
      → length its ≡ length olds
      → ((k : ℕ) (d : It) → k < length olds → Run (get_or olds k d) (get_or its k d))
      → HaveRun hub c r n line 1 ss its
  ran_of ss olds its is len h =
      have_run 1 ss its (len ∙ ap length is)
      (subst (λ (l : List It). (k : ℕ) (d : It) → k < length l
      → Run (get_or l k d) (get_or its k d)) is h)

pub length-slots : {D G : Type 0} (state : D → DoorState) (crossings : G → ℕ)
    (slots : List (Slot D G)) → length (slot_states state crossings slots) ≡ length slots
length-slots state crossings [] = refl
length-slots state crossings (s ∷ slots) = let h =
    length-slots state crossings slots in omega (arith, h)
