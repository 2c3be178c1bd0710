use Rattle.std.proofs.Common.{◌≡◌, ◌+◌, ◌≤◌, ℕ, List, [], ◌∷◌, Some, sym, subst, lit≤}
use Rattle.elf_words.specs.Sym.{sym_bytes}
use Rattle.workload.specs.Plain.{IsSmall}
use Rattle.workload.specs.declared.plain.PlainSymbol.{PlainSymbol}
use Rattle.omos_tests.proofs.tests.plain.a_plain_object.Goals as goal
use Rattle.workload.specs.Plan.{object_plan}

pub plain_object-requires-clause-small : goal.plain_object-requires-clause-small
unfolding object_plan sym_bytes
plain_object-requires-clause-small c d =
    subst (λ (n : List ℕ). IsSmall (233 ∷ 251 ∷ 255 ∷ 255 ∷ 255 ∷ [])
    (record { name = n; offset = Some 0 } ∷ []) [])
    (sym d.in_ok-read.ensures.0) (lit≤ tt)
