-- One more link.
use Rattle.std.proofs.Common.{◌≡◌, ℕ, ◌+◌, ◌-◌, ◌*◌, ◌^◌, ◌<◌, ◌≤◌, Bool, true, false, List, []}
use Rattle.std.proofs.Common.{◌∷◌, ◌++◌, length, Option, None, Some, ⊎_elim, inl, inr, refl, sym}
use Rattle.std.proofs.Common.{ap, ◌∙◌, subst, arith, append_assoc, length-append}
use Rattle.std.specs.Prelude.{IfSome, IsSome}
use Rattle.omos_outside.specs.Stream.{Stream}
use Rattle.omos_outside.specs.Faults.{Rose}
use Rattle.omos_outside.specs.Links.{DoorState, GivenBack, IsFresh, link_of, after_done}
use Rattle.turn_lock.specs.Knowledge.{TableId, Knowledge}
use Rattle.history_book.specs.declared.step.Step.{Step}
use Rattle.history_book.specs.Legal.{IsLegal}
use Rattle.omos_hub.specs.Standing.{seen_by}
use Rattle.omos_session.specs.Session.{IsSession}
use Rattle.omosd_slots.specs.Visits.{HasVisit, WasServed}
use Rattle.omos_session.specs.declared.session.SessionEnd.{SessionEnd}
use Rattle.omos_session.specs.declared.session.SessionEnd.TheVariants as ending
use Rattle.omosd_slots.proofs.Visited.{served_more, visit_of, cause_of}
use Rattle.omosd_slots.specs.Fits.{WorkerState, FitsFrom, HasBack, kept_from, kept_of, told_count}
use Rattle.omosd_slots.specs.Fits.{told_before, GoesOnOrStops, IsWorkerOf, one_where}

module _ (hub : TableId) (p p' : Knowledge Step) (x y : ℕ) (told told' : Option Stream)
    (holds holds' : Option (List ℕ)) (sf sf' kf kf' : ℕ) (end : SessionEnd) where
  -- where the door tells its links, a session over a fresh one is a visit
  pub visit_where : (back : Option (List GivenBack)) → IsFresh back told holds sf kf
      → IsSession false (seen_by hub (Some x) p) (seen_by hub (Some y) p') told told' holds holds'
      end
      → (end ≡ ending.ReadFault → Rose sf sf') → (end ≡ ending.WriteFault → Rose kf kf')
      → IfSome back (λ _. HasVisit p p' (link_of told' holds' sf' kf'))
  visit_where None fresh session read write = tt
  visit_where (Some links) fresh session read write =
      visit_of hub p p' x y end sf' kf' told told' holds holds' session fresh.source_tells
      fresh.given fresh.sink_tells fresh.held
      (cause_of end (link_of told' holds' sf' kf') sf kf fresh.source fresh.sink read write)

module _ (p p' : Knowledge Step) (link : GivenBack)
    (same : p' ≡ record p { seen = p'.seen; turns = p'.turns }) where
  abbrev q : Knowledge Step
  q = record p { seen = p'.seen; turns = p'.turns }

  back_more : (before now : Option (List GivenBack)) (count : ℕ) → HasBack p before now count
      → IfSome now (λ _. HasVisit p p' link)
      → HasBack q before
      (after_done link (record { links = 0; faults = 0; is_shut = false; back = now })).back
      (count + 1)
  back_more None None count h v = tt
  back_more None (Some now) count h v = absurd h
  back_more (Some before) None count h v = absurd h
  back_more (Some before) (Some now) count h v =
      let w = served_more p.first p.second p.number p.seen p.turns h.0 record {
        before = p.seen;
        after = p'.seen;
        turns = v.piece;
        link = link;
      } h.3 refl v.visit v.climbs in
      let len = length-append h.0 (link ∷ []) in
      let count_is = h.2 in (
        h.0 ++ link ∷ [],
        ap (λ (l : List GivenBack). l ++ link ∷ []) h.1 ∙ append_assoc before h.0 (link ∷ []),
        omega (arith, len, count_is),
        subst (λ (ts : List ℕ). WasServed p.first p.second p.number p'.seen ts (h.0 ++ link ∷ []))
            (sym v.turns) w,
      )

  pub fits_more : (hub : TableId) (start door now : DoorState) (x y n m : ℕ) (stopped failed : Bool)
      → IsWorkerOf hub p start door x n m stopped failed → stopped ≡ false
      → IsLegal p.first p.second p'.seen
      → length p'.turns ≤ length p.turns + 262144 → y ≤ x + 65536
      → now ≡ after_done link (record door { links = door.links + 1 })
      → IfSome door.back (λ _. HasVisit p p' link)
      → IsWorkerOf hub p' start now y (n + 1) (m + 1) stopped failed
  fits_more hub start door now x y n m stopped failed f open_ legal few gate is v =
      let a = f.turns in let b = f.gate in let c = f.links_low in let d = f.faults_low in let e =
      f.links_are in let g = f.calls_are in
      subst (λ (k : Knowledge Step). IsWorkerOf hub k start now y (n + 1) (m + 1) stopped failed)
      (sym same)
      (subst (λ (s : DoorState). IsWorkerOf hub q start s y (n + 1) (m + 1) stopped failed) (sym is)
      record {
        lock = f.lock;
        idle = f.idle;
        legal = legal;
        some = f.some;
        room = f.room;
        joined = f.joined;
        turns = omega (arith, a, few);
        gate = omega (arith, b, gate);
        links_low = omega (arith, c);
        faults_low = omega (arith, d);
        links_are = omega (arith, e);
        calls_are = omega (arith, g);
        stands = stands stopped f.stands;
        back = back_more start.back door.back m f.back v;
      })
    where
      stands : (b : Bool) → GoesOnOrStops start door b failed
          → GoesOnOrStops start (after_done link (record door { links = door.links + 1 })) b failed
      stands true h = h
      stands false h = h

-- the same from the door as it was once it had handed the link out
pub fits_on : (p p' : Knowledge Step) (hub : TableId) (start door mid now : DoorState) (x y n m : ℕ)
    (stopped failed : Bool) → IsWorkerOf hub p start door x n m stopped failed → stopped ≡ false
    → p' ≡ record p { seen = p'.seen; turns = p'.turns } → IsLegal p.first p.second p'.seen
    → length p'.turns ≤ length p.turns + 262144 → y ≤ x + 65536
    → mid ≡ record door { links = door.links + 1 }
    → (link : GivenBack) × (now ≡ after_done link mid) × IfSome mid.back (λ _. HasVisit p p' link)
    → IsWorkerOf hub p' start now y (n + 1) (m + 1) stopped failed
fits_on p p' hub start door mid now x y n m stopped failed f goes same legal few gate is v =
    fits_more p p' v.0 same hub start door now x y n m stopped failed f goes legal few gate
    (v.1 ∙ ap (after_done v.0) is)
    (subst (λ (s : DoorState). IfSome s.back (λ _. HasVisit p p' v.0)) is v.2)

-- ---- the numbers at the start

told_is : (p : Knowledge Step) (before now : Option (List GivenBack)) (count : ℕ)
    → HasBack p before now count → told_before now count ≡ told_count before
told_is p None None count h = refl
told_is p None (Some now) count h = absurd h
told_is p (Some before) None count h = absurd h
told_is p (Some before) (Some now) count h = let e = ap length h.1 in let l =
    length-append before h.0 in let n = h.2 in omega (arith, e, l, n)

faults_are : (start door : DoorState) (stopped failed : Bool)
    → GoesOnOrStops start door stopped failed → door.faults - one_where failed ≡ start.faults
faults_are start door false failed h = let a = h.1 in let b =
    ap one_where h.2 in omega (arith, a, b)
faults_are start door true failed (inl h) = let a = h.1 in let b =
    ap one_where h.2 in omega (arith, a, b)
faults_are start door true failed (inr h) = let a = h.1 in let b =
    ap one_where h.2 in omega (arith, a, b)

pub kept_is : (hub : TableId) (start : DoorState) (w : WorkerState) → FitsFrom hub start w
    → kept_of w ≡ kept_from w.pass start
kept_is hub start w f =
    let l : w.door.links - w.links ≡ start.links = (let a = f.links_are in omega (arith, a)) in
    let d = faults_are start w.door w.stopped w.failed f.stands in
    let t = told_is w.pass start.back w.door.back w.links f.back in
    λ i. w.pass.number ∷ w.pass.made ∷ w.pass.first ∷ w.pass.second ∷ l i ∷ d i ∷ t i ∷ []
