-- What a run leaves.
use Rattle.std.proofs.Common.{◌≡◌, ◌⊎◌, ⊎_elim, inl, inr, ℕ, zero, suc, ◌+◌, ◌-◌, ◌<◌, ◌≤◌, Bool}
use Rattle.std.proofs.Common.{true, false, ◌||◌, nat_lt, List, [], ◌∷◌, ◌++◌, length, map, drop}
use Rattle.std.proofs.Common.{get_or, Option, None, Some, All, refl, sym, ap, ◌∙◌, subst, arith}
use Rattle.std.proofs.Common.{length-append}
use Rattle.std.proofs.lemmas.Bool.Decides.{nat_tests}
use Rattle.std.proofs.Math.Seq.{drop-append_seam}
use Rattle.turn_lock.specs.Steps.{Has, GoesOn, AllBelow, steps_by}
use Rattle.turn_lock.specs.Knowledge.{TableId, Knowledge, numbers}
use Rattle.omos_outside.specs.Links.{DoorState, GivenBack}
use Rattle.worker_line.specs.Drawn.{Line, Drawn, DrewOn, new_seat}
use Rattle.worker_line.specs.declared.workers.Seated.{Seated}
use Rattle.history_book.specs.declared.step.Step.{Step}
use Rattle.hub_store.specs.Parts.{StoreParts}
use Rattle.history_book.specs.Steps.{seat_of}
use Rattle.history_book.specs.Legal.{IsLegal}
use Rattle.omos_hub.specs.Passes.{AreAll, HasAll, new_pass, joined_at, IsPassOf}
use Rattle.omosd_slots.specs.Visits.{WasServed}
use Rattle.omosd_slots.specs.Fits.{WorkerState, FitsHub, HasBack, kept_from, kept_of, told_count}
use Rattle.omosd_slots.specs.Fits.{told_before, GoesOnOrStops, IsWorkerOf, one_where}
use Rattle.omosd_slots.proofs.Linked.{kept_is}
use Rattle.omosd_slots.specs.Slots.{SlotState, new_worker, HaveRun, slot_of, pass_of, draws_of}
use Rattle.omosd_slots.specs.Slots.{links_of, failed_of, got_of, is_stopped, ServedBack, AreServed}
use Rattle.omosd_slots.specs.Slots.{links_between, stopped_between, failed_between, TellAll}
use Rattle.omosd_slots.specs.Slots.{Ran as Whole}
use Rattle.omosd_slots.specs.Slots.{DrawsFrom, HasRunSlot, IsSeatTold, IsServedSlot, seat_missed}
use Rattle.omosd_slots.specs.Slots.{seat_parts, slots_total}

below_self : (n : ℕ) → nat_lt n n ≡ false
below_self n = grind (arith, nat_tests)

below_next : (n : ℕ) → nat_lt n (n + 1) ≡ true
below_next n = grind (arith, nat_tests)

module _ (hub : TableId) (c r n : ℕ) (line : Line) where
  abbrev It : Type 0
  It = Seated WorkerState

  abbrev Ran1 : ℕ → SlotState → It → Type 0
  Ran1 = HasRunSlot hub c r n line

  abbrev Ran : ℕ → List SlotState → List It → Type 0
  Ran = HaveRun hub c r n line

  pub length-ran : (m : ℕ) (ss : List SlotState) (its : List It) → Ran m ss its
      → length its ≡ length ss
  length-ran m [] [] h = refl
  length-ran m [] (i ∷ its) h = absurd h
  length-ran m (s ∷ ss) [] h = absurd h
  length-ran m (s ∷ ss) (i ∷ its) h = let e = length-ran (m + 1) ss its h.1 in omega (arith, e)

  -- ---- the numbers that were kept

  kept_at : (m : ℕ) (s : SlotState) (it : It) → Ran1 m s it → (j : ℕ)
      → get_or (kept_of it.worker) j 0
      ≡ get_or (kept_of (new_worker (new_pass hub c r n m) s.door s.crossed)) j 0
  kept_at m s it h j = ap (λ (l : List ℕ). get_or l j 0) h.kept_is

  -- the worker's door at the start
  abbrev start_of : (m : ℕ) (s : SlotState) (it : It) → Ran1 m s it → DoorState
  start_of m s it h = h.fits.0

  started_at : (m : ℕ) (s : SlotState) (it : It) (h : Ran1 m s it) (j : ℕ)
      → get_or (kept_from it.worker.pass (start_of m s it h)) j 0
      ≡ get_or (kept_of (new_worker (new_pass hub c r n m) s.door s.crossed)) j 0
  started_at m s it h j =
      ap (λ (l : List ℕ). get_or l j 0) (sym (kept_is hub h.fits.0 it.worker h.fits.1))
      ∙ kept_at m s it h j

  told_new : (back : Option (List GivenBack)) → told_before back 0 ≡ told_count back
  told_new None = refl
  told_new (Some links) = omega arith

  number_is : (m : ℕ) (s : SlotState) (it : It) → Ran1 m s it → it.worker.pass.number ≡ m
  number_is m s it h = kept_at m s it h 0

  first_is : (m : ℕ) (s : SlotState) (it : It) → Ran1 m s it → it.worker.pass.first ≡ c
  first_is m s it h = kept_at m s it h 2

  second_is : (m : ℕ) (s : SlotState) (it : It) → Ran1 m s it → it.worker.pass.second ≡ r
  second_is m s it h = kept_at m s it h 3

  links_start : (m : ℕ) (s : SlotState) (it : It) (h : Ran1 m s it)
      → (start_of m s it h).links ≡ s.door.links
  links_start m s it h = let e = started_at m s it h 4 in omega (arith, e)

  faults_start : (m : ℕ) (s : SlotState) (it : It) (h : Ran1 m s it)
      → (start_of m s it h).faults ≡ s.door.faults
  faults_start m s it h = let e = started_at m s it h 5 in omega (arith, e)

  told_start : (m : ℕ) (s : SlotState) (it : It) (h : Ran1 m s it)
      → told_count (start_of m s it h).back ≡ told_count s.door.back
  told_start m s it h = started_at m s it h 6 ∙ told_new s.door.back

  -- ---- one worker

  pub pass_ran : (m : ℕ) (s : SlotState) (it : It) → Ran1 m s it → IsPassOf hub n m it.worker.pass
  pass_ran m s it h = record {
    lock = h.fits.1.lock;
    idle = h.fits.1.idle;
    number_is = number_is m s it h;
    made_is = kept_at m s it h 1;
    joined_is = h.fits.1.joined ∙ ap joined_at (number_is m s it h);
  }

  stands_at : (start door : DoorState) (stopped failed : Bool) (faults : ℕ) → start.faults ≡ faults
      → GoesOnOrStops start door stopped failed
      → ((door.is_shut || nat_lt faults door.faults) ≡ stopped)
      × (nat_lt faults door.faults ≡ failed) × (faults ≤ door.faults)
  stands_at start door false failed faults same h =
      let e : faults ≡ door.faults = sym same ∙ sym h.1 in
      let b : nat_lt faults door.faults ≡ false = ap (nat_lt faults) (sym e) ∙ below_self faults in
      ((λ i. h.0 i || b i), b ∙ sym h.2, omega (arith, e))
  stands_at start door true failed faults same (inl h) =
      let e : faults ≡ door.faults = sym same ∙ sym h.1 in
      let b : nat_lt faults door.faults ≡ false = ap (nat_lt faults) (sym e) ∙ below_self faults in
      ((λ i. h.0 i || b i), b ∙ sym h.2, omega (arith, e))
  stands_at start door true failed faults same (inr h) =
      let e : door.faults ≡ faults + 1 = h.1 ∙ ap (λ (k : ℕ). k + 1) same in
      let b : nat_lt faults door.faults ≡ true = ap (nat_lt faults) e ∙ below_next faults in
      ((λ i. h.0 i || b i), b ∙ sym h.2, omega (arith, e))

  ended_at : (m : ℕ) (s : SlotState) (it : It) → Ran1 m s it
      → (is_stopped s.door it.worker.door ≡ it.worker.stopped)
      × (nat_lt s.door.faults it.worker.door.faults ≡ it.worker.failed)
      × (s.door.faults ≤ it.worker.door.faults)
  ended_at m s it h =
      stands_at h.fits.0 it.worker.door it.worker.stopped it.worker.failed s.door.faults
      (faults_start m s it h) h.fits.1.stands

  risen : (m : ℕ) (s : SlotState) (it : It) → Ran1 m s it
      → (it.worker.door.links - s.door.links ≡ it.worker.links)
      × (s.door.links ≤ it.worker.door.links)
  risen m s it h = let a = h.fits.1.links_are in let b =
      links_start m s it h in (omega (arith, a, b), omega (arith, a, b))

  back_at : (steps : List Step) (p : Knowledge Step) (m count links : ℕ)
      (before start now : Option (List GivenBack)) → told_count start ≡ told_count before
      → count ≡ links → p.number ≡ m → p.first ≡ c → p.second ≡ r
      → GoesOn seat_of (numbers p) p.seen steps
      → HasBack p start now links → ServedBack c r steps m count before now
  back_at steps p m count links None None None told is num one two goes h = tt
  back_at steps p m count links None None (Some now) told is num one two goes h = absurd h
  back_at steps p m count links None (Some start) now told is num one two goes h =
      absurd (omega (arith, told))
  back_at steps p m count links (Some before) None now told is num one two goes h =
      absurd (omega (arith, told))
  back_at steps p m count links (Some before) (Some start) None told is num one two goes h =
      absurd h
  back_at steps p m count links (Some before) (Some start) (Some now) told is num one two goes h =
      let same : length start ≡ length before = omega (arith, told) in
      let len = ap length h.1 in
      let sum = length-append start h.0 in
      let some = h.2 in
      let rest : drop (length before) now ≡ h.0 = (λ i. drop (sym same i) (h.1 i))
      ∙ drop-append_seam start h.0 in (
        omega (arith, len, sum, some, is, same),
        p.seen,
        record {
          more = goes.more;
          whole = goes.whole;
          others = λ k has. ⊎_elim (λ (e : m ≡ k). goes.others k (inl (num ∙ e))) (λ x. absurd x)
              has;
        },
        p.turns,
        subst (λ (l : List GivenBack). WasServed c r m p.seen p.turns l) (sym rest)
            (subst (λ (k : ℕ). WasServed c r k p.seen p.turns h.0) num
            (subst (λ (k : ℕ). WasServed c k p.number p.seen p.turns h.0) two
            (subst (λ (k : ℕ). WasServed k p.second p.number p.seen p.turns h.0) one h.3))),
      )

  pub served_at : (steps : List Step) (m : ℕ) (s : SlotState) (it : It) → Ran1 m s it
      → GoesOn seat_of (numbers it.worker.pass) it.worker.pass.seen steps
      → IsServedSlot c r steps m s.door it.worker.door
  served_at steps m s it h goes = record {
    links = (risen m s it h).1;
    faults = (ended_at m s it h).2;
    back = back_at steps it.worker.pass m (it.worker.door.links - s.door.links) it.worker.links
        s.door.back h.fits.0.back it.worker.door.back (told_start m s it h) (risen m s it h).0
        (number_is m s it h) (first_is m s it h) (second_is m s it h) goes h.fits.1.back;
  }

  -- ---- all workers

  pub passes_ran : (m : ℕ) (ss : List SlotState) (its : List It) → Ran m ss its
      → (k : ℕ) (d : Knowledge Step) → k < length (map pass_of its)
      → IsPassOf hub n (m + k) (get_or (map pass_of its) k d)
  passes_ran m [] [] h k d lt = absurd (omega (arith, lt))
  passes_ran m [] (i ∷ its) h k d lt = absurd h
  passes_ran m (s ∷ ss) [] h k d lt = absurd h
  passes_ran m (s ∷ ss) (i ∷ its) h zero d lt =
      subst (λ (j : ℕ). IsPassOf hub n j i.worker.pass) (omega arith) (pass_ran m s i h.0)
  passes_ran m (s ∷ ss) (i ∷ its) h (suc k) d lt =
      subst (λ (j : ℕ). IsPassOf hub n j (get_or (map pass_of its) k d)) (omega arith)
      (passes_ran (m + 1) ss its h.1 k d (omega (arith, lt)))

  pub seats_ran : (m : ℕ) (ss : List SlotState) (its : List It) → Ran m ss its
      → All (DrawsFrom line n) (map draws_of its)
  seats_ran m [] [] h k d lt = absurd (omega (arith, lt))
  seats_ran m [] (i ∷ its) h k d lt = absurd h
  seats_ran m (s ∷ ss) [] h k d lt = absurd h
  seats_ran m (s ∷ ss) (i ∷ its) h zero d lt = (h.0.seat.line, h.0.seat.workers)
  seats_ran m (s ∷ ss) (i ∷ its) h (suc k) d lt =
      seats_ran (m + 1) ss its h.1 k d (omega (arith, lt))

  pub told_ran : (m : ℕ) (ss : List SlotState) (its : List It) → Ran m ss its
      → All IsSeatTold (map draws_of its)
  told_ran m [] [] h k d lt = absurd (omega (arith, lt))
  told_ran m [] (i ∷ its) h k d lt = absurd h
  told_ran m (s ∷ ss) [] h k d lt = absurd h
  told_ran m (s ∷ ss) (i ∷ its) h zero d lt = h.0.told
  told_ran m (s ∷ ss) (i ∷ its) h (suc k) d lt = told_ran (m + 1) ss its h.1 k d (omega (arith, lt))

  pub served_ran : (steps : List Step) (m : ℕ) (ss : List SlotState) (its : List It) → Ran m ss its
      → ((k : ℕ) (d : Knowledge Step) → k < length (map pass_of its)
      → GoesOn seat_of (numbers (get_or (map pass_of its) k d)) (get_or (map pass_of its) k d).seen
      steps)
      → AreServed c r steps m ss (map slot_of its)
  served_ran steps m [] [] h goes = tt
  served_ran steps m [] (i ∷ its) h goes = absurd h
  served_ran steps m (s ∷ ss) [] h goes = absurd h
  served_ran steps m (s ∷ ss) (i ∷ its) h goes = (
    served_at steps m s i h.0 (goes 0 i.worker.pass (omega arith)),
    served_ran steps (m + 1) ss its h.1 (λ k d lt. goes (suc k) d (omega (arith, lt))),
  )

  abbrev stopped_of : It → ℕ
  stopped_of it = one_where it.worker.stopped

  -- what the counts come to
  pub record Counts (ss : List SlotState) (its : List It) : Type 0 where
    pub links : links_between ss (map slot_of its) ≡ slots_total links_of its
    pub stopped : stopped_between ss (map slot_of its) ≡ slots_total stopped_of its
    pub failed : failed_between ss (map slot_of its) ≡ slots_total failed_of its
    pub got : slots_total got_of (map draws_of its)
        ≡ slots_total links_of its + slots_total stopped_of its
    pub parts : slots_total seat_parts (map draws_of its) ≡ length its
    pub missed : length its ≤ slots_total seat_missed (map draws_of its) + slots_total stopped_of
        its

  none_counts : Counts [] []
  none_counts =
      record {
        links = refl;
        stopped = refl;
        failed = refl;
        got = refl;
        parts = refl;
        missed = omega arith;
      }

  missed_or : (it : It) → (it.seat.missed ≡ 1) ⊎ (it.worker.stopped ≡ true)
      → 1 ≤ it.seat.missed + one_where it.worker.stopped
  missed_or it (inl e) = omega (arith, e)
  missed_or it (inr e) = let b : one_where it.worker.stopped ≡ 1 =
      ap one_where e in omega (arith, b)

  pub counts_ran : (m : ℕ) (ss : List SlotState) (its : List It) → Ran m ss its → Counts ss its
  counts_ran m [] [] h = none_counts
  counts_ran m [] (i ∷ its) h = absurd h
  counts_ran m (s ∷ ss) [] h = absurd h
  counts_ran m (s ∷ ss) (i ∷ its) h =
      let t = counts_ran (m + 1) ss its h.1 in
      let e = ended_at m s i h.0 in
      let l = (risen m s i h.0).0 in
      let es = ap one_where e.0 in
      let ef = ap one_where e.1 in
      let a = t.links in let b = t.stopped in let d = t.failed in let g = t.got in let p =
      t.parts in let q = t.missed in
      let calls = h.0.calls_is in
      let are = h.0.fits.1.calls_are in
      let part = h.0.seat.parts in
      let or = missed_or i h.0.ended in
      record {
        links = omega (arith, a, l);
        stopped = omega (arith, b, es);
        failed = omega (arith, d, ef);
        got = omega (arith, g, calls, are);
        parts = omega (arith, p, part);
        missed = omega (arith, q, or);
      }

  pub length-passes : (its : List It) → length (map pass_of its) ≡ length its
  length-passes [] = refl
  length-passes (i ∷ its) = let h = length-passes its in omega (arith, h)

  pub length-draws : (its : List It) → length (map draws_of its) ≡ length its
  length-draws [] = refl
  length-draws (i ∷ its) = let h = length-draws its in omega (arith, h)

  pub all_ran : (ss : List SlotState) (its : List It) → Ran 1 ss its → n ≡ length its
      → 0 < length its → AreAll hub (map pass_of its)
  all_ran ss its h count some =
      let len = length-passes its in record {
        some = omega (arith, len, some);
        each = λ k d lt. subst (λ (j : ℕ). IsPassOf hub j (k + 1) (get_or (map pass_of its) k d))
            (count ∙ sym len)
            (subst (λ (j : ℕ). IsPassOf hub n j (get_or (map pass_of its) k d)) (omega arith)
            (passes_ran 1 ss its h k d lt));
      }

  limits_ran : (m : ℕ) (ss : List SlotState) (its : List It) → Ran m ss its
      → (k : ℕ) (d : Knowledge Step) → k < length (map pass_of its)
      → ((get_or (map pass_of its) k d).first ≡ c) × ((get_or (map pass_of its) k d).second ≡ r)
  limits_ran m [] [] h k d lt = absurd (omega (arith, lt))
  limits_ran m [] (i ∷ its) h k d lt = absurd h
  limits_ran m (s ∷ ss) [] h k d lt = absurd h
  limits_ran m (s ∷ ss) (i ∷ its) h zero d lt = (first_is m s i h.0, second_is m s i h.0)
  limits_ran m (s ∷ ss) (i ∷ its) h (suc k) d lt =
      limits_ran (m + 1) ss its h.1 k d (omega (arith, lt))

  -- what the store was closed with, beside the passes
  pub record Closed (passes : List (Knowledge Step)) (store : StoreParts) : Type 0 where
    pub all : HasAll passes store.steps
    pub below : AllBelow seat_of (length passes + 1) store.steps
    pub none : steps_by seat_of 0 store.steps ≡ []
    pub limits : (d : Knowledge Step)
        → (store.limits.cache ≡ (get_or passes (length passes - 1) d).first)
        × (store.limits.steps ≡ (get_or passes (length passes - 1) d).second)
    pub legal : IsLegal store.limits.cache store.limits.steps store.steps

  pub ran_all : (ss : List SlotState) (its : List It) (store : StoreParts) (sessions failures : ℕ)
      (d : Knowledge Step) → Ran 1 ss its → n ≡ length its → 0 < length its
      → Closed (map pass_of its) store
      → TellAll line n (map draws_of its) → line.sessions ≡ sessions
      → failures ≡ slots_total failed_of its
      → Whole c r sessions ss (map slot_of its) (slots_total links_of its) (nat_lt 0 failures) store
  ran_all ss its store sessions failures d h count some k tell is fails =
      let len = length-passes its in
      let sl = length-ran 1 ss its h in
      let t = counts_ran 1 ss its h in
      let last =
      limits_ran 1 ss its h (length (map pass_of its) - 1) d (omega (arith, len, some)) in
      let lim = k.limits d in
      let one : store.limits.cache ≡ c = lim.0 ∙ last.0 in
      let two : store.limits.steps ≡ r = lim.1 ∙ last.1 in
      let g = t.got in let w = tell.within in let st = t.stopped in let mi = t.missed in let pa =
      t.parts in
      record {
        limits = (one, two);
        legal = subst (λ (x : ℕ). IsLegal x r store.steps) one
            (subst (λ (x : ℕ). IsLegal store.limits.cache x store.steps) two k.legal);
        below = subst (λ (x : ℕ). AllBelow seat_of x store.steps) (omega (arith, len, sl)) k.below;
        none = k.none;
        each = served_ran store.steps 1 ss its h k.all;
        served_is = sym t.links;
        most = omega (arith, g, w, is);
        least = λ lt. let e = tell.all (omega (arith, pa, count)) (omega (arith, mi, st, lt, sl)) in
            omega (arith, e, g, st, is);
        failed_is = ap (nat_lt 0) (fails ∙ sym t.failed);
      }
