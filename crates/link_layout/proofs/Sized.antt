-- What the calls over a program's leaves and landings say of its parts.
use Rattle.std.proofs.Common.{◌≡◌, ℕ, ◌≤◌, List, [], length, fold, sym, ap, ◌∙◌, arith}
use Rattle.std.specs.List.{zip}
use Rattle.omos_model.specs.declared.mark.Target.{Target}
use Rattle.link_model.specs.declared.groups.ByGroup.{ByGroup}
use Rattle.link_model.specs.declared.groups.Groups.{Groups}
use Rattle.link_model.specs.Groups.{groups_of}
use Rattle.link_model.specs.Layout.{end_of, program_pieces, places_of, slots_of}
use Rattle.link_model.specs.Program.{Parts}
use Rattle.link_layout.specs.declared.program.Program.{Program}
use Rattle.link_layout.specs.Layout.{AreEnds, places_over}
use Rattle.link_layout.specs.Pieces.{all_pieces}
use Rattle.link_layout.specs.Program.{IsFew, parts_in}
use Rattle.link_layout.specs.Slots.{slots_with_leaf}
use Rattle.link_layout.proofs.Parts.{few-slots, pieces-parts, places-parts, slots-parts}

module _ (p : Program) (few : IsFew p) where
  pub places_are : (places : List (List ℕ))
      → places ≡ places_over (parts_in p) [] p.leaves.now → places ≡ places_of (parts_in p)
  places_are places h = h ∙ sym (places-parts p.leaves.now p.landings.now few.count)

  module _ (slots : List Target)
      (seen : slots ≡ fold slots_with_leaf [] (zip p.leaves.now p.landings.now)) where
    pub few_slots : length slots ≤ 1048576
    few_slots =
        omega (
          arith,
          ap length seen,
          few-slots [] p.leaves.now p.landings.now,
          few.references,
        )

    pub slots_are : slots ≡ slots_of (parts_in p)
    slots_are = seen ∙ sym (slots-parts p.leaves.now p.landings.now)

    pub groups_are : (ends : ByGroup) (groups : Groups) → AreEnds ends (all_pieces p.leaves.now)
        → ((parts : Parts) → AreEnds ends (program_pieces parts) → slots_of parts ≡ slots
        → groups ≡ groups_of parts)
        → groups ≡ groups_of (parts_in p)
    groups_are ends groups end h =
        let pieces = pieces-parts p.leaves.now p.landings.now few.count in
        h (parts_in p) (λ g. end g ∙ ap (end_of g) (sym pieces)) (sym slots_are)
