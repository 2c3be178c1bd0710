use Rattle.std.proofs.Common.{◌≡◌, ℕ, ◌+◌, ◌<◌, ◌≤◌, ◌++◌, length, get_or, All, vec_capacity}
use Rattle.turn_lock.specs.Knowledge.{Knowledge}
use Rattle.history_book.specs.declared.step.Step.{Step}
use Rattle.omos_hub.specs.Passes.{new_pass}
use Rattle.worker_line.specs.Drawn.{IsNew}
use Rattle.omosd_slots.specs.Slots.{seated_from, slot_states}
use Rattle.omosd_slots.proofs.run.seat_all.Given as goal

abbrev pub invariant-slots : goal.invariant-slots
invariant-slots g l =
    let count : ℕ = length l.fn.slots.items in
    let k : ℕ = length l.seated.items in record {
      all :
          l.seated.items ++ seated_from l.hub l.fn.limits.cache l.fn.limits.steps count l.draws
          (k + 1) (slot_states g.D.Door.state g.G.Gate.crossings l.slots.items)
          ≡ seated_from l.hub l.fn.limits.cache l.fn.limits.steps count l.draws 1
          (slot_states g.D.Door.state g.G.Gate.crossings l.fn.slots.items);
      count_is : k + length l.slots.items ≡ count;
      passes_are : length l.passes.items ≡ length l.slots.items;
      seats_are : length l.seats.items ≡ length l.slots.items;
      new_passes : (j : ℕ) (d : Knowledge Step) → j < length l.passes.items
          → get_or l.passes.items j d ≡ new_pass l.hub l.fn.limits.cache l.fn.limits.steps count
          (k + j + 1);
      new_seats : All (IsNew l.draws count) l.seats.items;
      room : count ≤ vec_capacity l.seated;
      slots_room : vec_capacity l.slots ≡ vec_capacity l.fn.slots;
      passes_room : vec_capacity l.passes ≡ vec_capacity l.fn.passes;
      seats_room : vec_capacity l.seats ≡ vec_capacity l.fn.seats;
    }

abbrev pub decreases-slots : goal.decreases-slots
decreases-slots g l = length l.slots.items
