use Rattle.std.proofs.Common.{rules, ◌≡◌, length}
use Rattle.omosd_slots.proofs.Seats.{gathers_first, gathers_next, first_told, tells_all}
use Rattle.omosd_slots.proofs.run.tell_all.Goals as goal

pub seats-init : goal.seats-init
seats-init c = (
  gathers_first _ _ _ _ _ c.requires.each c.take_first-all.ensures.items,
  first_told _ _ _ c.requires.told c.take_first-all.ensures.items,
)

pub seats-preserved : goal.seats-preserved
seats-preserved c = (
  gathers_next _ _ _ c.seats.all _ _ _ _ c.seats.invariant.0 c.take_first-seat.ensures.items
      c.join.ensures.got,
  (c.join.ensures.tells.within, λ some. c.join.ensures.tells),
)

pub returns : goal.returns
returns c =
    let none : length c.seats.seats.items ≡ 0 = search rules in
    tells_all _ _ _ _ _ c.seats.invariant.0 none c.seats.invariant.1
