use Rattle.std.proofs.Common.{subst, sym, All, [], ◌∷◌}
use Rattle.std.proofs.lemmas.List.Elements.{All-append, All-cons, All-nil}
use Rattle.shared_cases.proofs.Unused.{IsUnused}
use Rattle.shared_cases.proofs.case.slots_of.Goals as goal

pub workers-preserved : goal.workers-preserved
workers-preserved g c =
    subst (All IsUnused) (sym c.in_ok-push.ensures.items)
    (All-append IsUnused c.workers.slots.items (c.in_ok-slot_of.field-0 ∷ [])
    c.workers.invariant
    (All-cons IsUnused c.in_ok-slot_of.field-0 [] c.in_ok-slot_of.ensures
    (All-nil IsUnused)))
