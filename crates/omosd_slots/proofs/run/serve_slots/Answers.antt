use Rattle.std.proofs.Common.{rules, ◌≡◌, ℕ, ◌+◌, ◌<◌, ◌≤◌, false, List, [], ◌∷◌, length, map}
use Rattle.std.proofs.Common.{get_or, All, refl, sym, ap, ◌∙◌, subst, arith, vec_capacity, nat_lt}
use Rattle.worker_line.specs.Drawn.{IsNew}
use Rattle.worker_line.specs.declared.workers.Seated.{Seated}
use Rattle.omosd_slots.specs.Fits.{WorkerState, FitsHub}
use Rattle.omos_hub.specs.Passes.{AreAll, new_pass}
use Rattle.omosd_slots.specs.Slots.{draws_of, links_of, TellAll, Ran}
use Rattle.omosd_slots.specs.Slots.{DrawsFrom, IsSeatTold, slot_states, slots_total}
use Rattle.omosd_slots.proofs.Runs.{each_new, fits_new, ran_of, length-from, length-slots}
use Rattle.omosd_slots.proofs.Ends.{seats_ran, told_ran, all_ran, length-draws, Closed, ran_all}
use Rattle.omosd_slots.proofs.Crosses.{hub_sync}
use denote.Param.Send.{sendable}
use Rattle.omosd_slots.proofs.run.serve_slots.Goals as goal

pub seat_all-requires-clause-seats : goal.seat_all-requires-clause-seats
seat_all-requires-clause-seats g c =
    let w : c.len-workers.result ≡ length c.args.slots.now.items = search rules in (
      c.in_ok-draws.ensures.count
          ∙ w,
      subst (λ (k : ℕ). All (IsNew c.in_ok-draws.draws k) c.in_ok-draws.seats.items) w
          c.in_ok-draws.ensures.seats,
    )

pub run_workers-requires-clause-seats : goal.run_workers-requires-clause-seats
run_workers-requires-clause-seats g c κs within =
    let P : Seated WorkerState → Type 0 = λ it. (it.seat.line ≡ c.in_ok-draws.draws)
    × (it.seat.missed ≡ 0) in
    subst (All P) (sym c.seat_all.ensures.seated)
    (each_new _ _ _ _ _ P (λ m s some open_. (refl, refl)) 1 _ (omega arith) c.requires.doors)

pub run_workers-requires-clause-calls : goal.run_workers-requires-clause-calls
run_workers-requires-clause-calls g c κs within =
    let P : Seated WorkerState → Type 0 = λ it. it.worker.calls ≡ length it.seat.got in
    subst (All P) (sym c.seat_all.ensures.seated)
    (each_new _ _ _ _ _ P (λ m s some open_. refl) 1 _ (omega arith) c.requires.doors)

pub run_workers-requires-clause-workers : goal.run_workers-requires-clause-workers
run_workers-requires-clause-workers g c κs within =
    let few : c.args.limits.steps ≤ 65536 = search rules in
    let P : Seated WorkerState → Type 0 = λ it. (it.worker.stopped ≡ false)
    × FitsHub c.in_ok-hub.hub it.worker in
    subst (All P) (sym c.seat_all.ensures.seated)
    (each_new _ _ _ _ _ P
    (λ m s some open_. (
      refl,
      fits_new c.in_ok-hub.hub c.args.limits.cache c.args.limits.steps _
          c.in_ok-draws.draws c.in_ok-hub.ensures.legal few m s some open_,
    )) 1 _ (omega arith)
    c.requires.doors)

pub unseat_all-sessions-requires-clause-few : goal.unseat_all-sessions-requires-clause-few
unseat_all-sessions-requires-clause-few g c =
    let n : ℕ = length c.args.slots.now.items in
    let count : length c.run_workers.new.workers.items ≡ n = c.run_workers.ensures.count
    ∙ (ap length c.seat_all.ensures.seated
    ∙ (length-from c.in_ok-hub.hub c.args.limits.cache c.args.limits.steps n c.in_ok-draws.draws
    1 (slot_states g.D.Door.state g.G.Gate.crossings c.args.slots.now.items)
    ∙ length-slots g.D.Door.state g.G.Gate.crossings c.args.slots.now.items)) in
    let most = c.requires.slots.1 in omega (arith, count, most)

pub unseat_all-sessions-requires-clause-slots : goal.unseat_all-sessions-requires-clause-slots
unseat_all-sessions-requires-clause-slots g c =
    let n : ℕ = length c.args.slots.now.items in
    let count : length c.run_workers.new.workers.items ≡ n = c.run_workers.ensures.count
    ∙ (ap length c.seat_all.ensures.seated
    ∙ (length-from c.in_ok-hub.hub c.args.limits.cache c.args.limits.steps n c.in_ok-draws.draws
    1 (slot_states g.D.Door.state g.G.Gate.crossings c.args.slots.now.items)
    ∙ length-slots g.D.Door.state g.G.Gate.crossings c.args.slots.now.items)) in
    let cap = c.seat_all.ensures.slots.1 in
    let low : n ≤ vec_capacity c.args.slots.now = search rules in
    (c.seat_all.ensures.slots.0, omega (arith, count, cap, low))

pub unseat_all-sessions-requires-clause-passes : goal.unseat_all-sessions-requires-clause-passes
unseat_all-sessions-requires-clause-passes g c =
    let n : ℕ = length c.args.slots.now.items in
    let count : length c.run_workers.new.workers.items ≡ n = c.run_workers.ensures.count
    ∙ (ap length c.seat_all.ensures.seated
    ∙ (length-from c.in_ok-hub.hub c.args.limits.cache c.args.limits.steps n c.in_ok-draws.draws
    1 (slot_states g.D.Door.state g.G.Gate.crossings c.args.slots.now.items)
    ∙ length-slots g.D.Door.state g.G.Gate.crossings c.args.slots.now.items)) in
    let w : c.len-workers.result ≡ length c.args.slots.now.items = search rules in
    let cap = c.seat_all.ensures.passes.1 in
    let is = c.in_ok-hub.ensures.count in
    let low : length c.in_ok-hub.passes.items ≤ vec_capacity c.in_ok-hub.passes = search rules in
    (c.seat_all.ensures.passes.0, omega (arith, count, cap, low, is, w))

pub unseat_all-sessions-requires-clause-seats : goal.unseat_all-sessions-requires-clause-seats
unseat_all-sessions-requires-clause-seats g c =
    let n : ℕ = length c.args.slots.now.items in
    let count : length c.run_workers.new.workers.items ≡ n = c.run_workers.ensures.count
    ∙ (ap length c.seat_all.ensures.seated
    ∙ (length-from c.in_ok-hub.hub c.args.limits.cache c.args.limits.steps n c.in_ok-draws.draws
    1 (slot_states g.D.Door.state g.G.Gate.crossings c.args.slots.now.items)
    ∙ length-slots g.D.Door.state g.G.Gate.crossings c.args.slots.now.items)) in
    let w : c.len-workers.result ≡ length c.args.slots.now.items = search rules in
    let cap = c.seat_all.ensures.seats.1 in
    let is = c.in_ok-draws.ensures.count in
    let low : length c.in_ok-draws.seats.items ≤ vec_capacity c.in_ok-draws.seats = search rules in
    (c.seat_all.ensures.seats.0, omega (arith, count, cap, low, is, w))

pub tell_all-requires-clause-some : goal.tell_all-requires-clause-some
tell_all-requires-clause-some g c =
    let n : ℕ = length c.args.slots.now.items in
    let count : length c.run_workers.new.workers.items ≡ n = c.run_workers.ensures.count
    ∙ (ap length c.seat_all.ensures.seated
    ∙ (length-from c.in_ok-hub.hub c.args.limits.cache c.args.limits.steps n c.in_ok-draws.draws
    1 (slot_states g.D.Door.state g.G.Gate.crossings c.args.slots.now.items)
    ∙ length-slots g.D.Door.state g.G.Gate.crossings c.args.slots.now.items)) in
    let is = ap length c.unseat_all-sessions.ensures.seats in
    let len =
    length-draws c.in_ok-hub.hub 0 0 0 c.in_ok-draws.draws c.run_workers.new.workers.items in
    let some = c.requires.slots.0 in
    omega (arith, count, is, len, some)

pub tell_all-requires-clause-each : goal.tell_all-requires-clause-each
tell_all-requires-clause-each g c =
    let n : ℕ = length c.args.slots.now.items in
    let count : length c.run_workers.new.workers.items ≡ n = c.run_workers.ensures.count
    ∙ (ap length c.seat_all.ensures.seated
    ∙ (length-from c.in_ok-hub.hub c.args.limits.cache c.args.limits.steps n c.in_ok-draws.draws
    1 (slot_states g.D.Door.state g.G.Gate.crossings c.args.slots.now.items)
    ∙ length-slots g.D.Door.state g.G.Gate.crossings c.args.slots.now.items)) in
    let w : c.len-workers.result ≡ length c.args.slots.now.items = search rules in
    let ss = slot_states g.D.Door.state g.G.Gate.crossings c.args.slots.now.items in
    let its = c.run_workers.new.workers.items in
    let hub = c.in_ok-hub.hub in
    let cache = c.args.limits.cache in
    let room = c.args.limits.steps in
    let line = c.in_ok-draws.draws in
    let ran =
    ran_of hub cache room n line ss c.seat_all.new.seated.items its c.seat_all.ensures.seated
    c.run_workers.ensures.count c.run_workers.ensures.each in
    subst (λ (k : ℕ). All (DrawsFrom line k) c.unseat_all-sessions.new.seats.items) (sym w)
    (subst (All (DrawsFrom line n)) (sym c.unseat_all-sessions.ensures.seats)
    (seats_ran hub cache room n line 1 ss its ran))

pub tell_all-requires-clause-told : goal.tell_all-requires-clause-told
tell_all-requires-clause-told g c =
    let n : ℕ = length c.args.slots.now.items in
    let ss = slot_states g.D.Door.state g.G.Gate.crossings c.args.slots.now.items in
    let its = c.run_workers.new.workers.items in
    let hub = c.in_ok-hub.hub in
    let cache = c.args.limits.cache in
    let room = c.args.limits.steps in
    let line = c.in_ok-draws.draws in
    let ran =
    ran_of hub cache room n line ss c.seat_all.new.seated.items its c.seat_all.ensures.seated
    c.run_workers.ensures.count c.run_workers.ensures.each in
    subst (All IsSeatTold) (sym c.unseat_all-sessions.ensures.seats)
    (told_ran hub cache room n line 1 ss its ran)

pub close-store-requires : goal.close-store-requires
close-store-requires g c =
    let n : ℕ = length c.args.slots.now.items in
    let count : length c.run_workers.new.workers.items ≡ n = c.run_workers.ensures.count
    ∙ (ap length c.seat_all.ensures.seated
    ∙ (length-from c.in_ok-hub.hub c.args.limits.cache c.args.limits.steps n c.in_ok-draws.draws
    1 (slot_states g.D.Door.state g.G.Gate.crossings c.args.slots.now.items)
    ∙ length-slots g.D.Door.state g.G.Gate.crossings c.args.slots.now.items)) in
    let ss = slot_states g.D.Door.state g.G.Gate.crossings c.args.slots.now.items in
    let its = c.run_workers.new.workers.items in
    let hub = c.in_ok-hub.hub in
    let cache = c.args.limits.cache in
    let room = c.args.limits.steps in
    let line = c.in_ok-draws.draws in
    let ran =
    ran_of hub cache room n line ss c.seat_all.new.seated.items its c.seat_all.ensures.seated
    c.run_workers.ensures.count c.run_workers.ensures.each in
    let some = c.requires.slots.0 in
    subst (AreAll hub) (sym c.unseat_all-sessions.ensures.passes)
    (all_ran hub cache room n line ss its ran (sym count) (omega (arith, count, some)))

pub returns-clause-ran : goal.returns-clause-ran
returns-clause-ran g c =
    let n : ℕ = length c.args.slots.now.items in
    let count : length c.run_workers.new.workers.items ≡ n = c.run_workers.ensures.count
    ∙ (ap length c.seat_all.ensures.seated
    ∙ (length-from c.in_ok-hub.hub c.args.limits.cache c.args.limits.steps n c.in_ok-draws.draws
    1 (slot_states g.D.Door.state g.G.Gate.crossings c.args.slots.now.items)
    ∙ length-slots g.D.Door.state g.G.Gate.crossings c.args.slots.now.items)) in
    let w : c.len-workers.result ≡ length c.args.slots.now.items = search rules in
    let ss = slot_states g.D.Door.state g.G.Gate.crossings c.args.slots.now.items in
    let its = c.run_workers.new.workers.items in
    let hub = c.in_ok-hub.hub in
    let cache = c.args.limits.cache in
    let room = c.args.limits.steps in
    let line = c.in_ok-draws.draws in
    let ran =
    ran_of hub cache room n line ss c.seat_all.new.seated.items its c.seat_all.ensures.seated
    c.run_workers.ensures.count c.run_workers.ensures.each in
    let some = c.requires.slots.0 in
    let e = c.close-store.ensures in
    let u = c.unseat_all-sessions.ensures in
    let closed =
    subst (λ ps. Closed hub cache room n line ps c.close-store.result) u.passes
    record {
      all = e.all;
      below = e.seats;
      none = e.none;
      limits = e.limits;
      legal = e.legal;
    } in
    let told =
    subst (λ (k : ℕ). TellAll line k (map draws_of its)) w
    (subst (TellAll line c.len-workers.result) u.seats c.tell_all.ensures) in
    let whole =
    ran_all hub cache room n line ss its c.close-store.result c.args.sessions
    c.unseat_all-sessions.result.1 (new_pass hub cache room n 1) ran (sym count)
    (omega (arith, count, some)) closed told c.in_ok-draws.ensures.sessions u.failed in
    subst (λ (k : ℕ). Ran cache room c.args.sessions ss
    (slot_states g.D.Door.state g.G.Gate.crossings c.unseat_all-sessions.new.slots.items) k
    (nat_lt 0 c.unseat_all-sessions.result.1) c.close-store.result) (sym u.links)
    (subst (λ l. Ran cache room c.args.sessions ss l (slots_total links_of its)
    (nat_lt 0 c.unseat_all-sessions.result.1) c.close-store.result) (sym u.slots) whole)

pub run_workers-requires-sync-C : goal.run_workers-requires-sync-C
run_workers-requires-sync-C g c κs within = search (hub_sync, sendable)
