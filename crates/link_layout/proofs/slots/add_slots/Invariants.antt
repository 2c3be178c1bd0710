use Rattle.std.proofs.Common.{◌≡◌, drop, fold}
use Rattle.std.specs.List.{zip}
use Rattle.link_layout.specs.inside.Fields.{slots_with_field}
use Rattle.link_layout.proofs.slots.add_slots.Given as goal

abbrev pub invariant-loop-place : goal.invariant-loop-place
invariant-loop-place l =
    fold slots_with_field l.slots.keys (drop l.place (zip l.fields l.landings))
    ≡ fold slots_with_field l.fn.slots.keys (zip l.fields l.landings)
