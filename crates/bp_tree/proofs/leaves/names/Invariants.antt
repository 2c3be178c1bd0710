use Rattle.std.proofs.Common.{◌≡◌, All, map, length}
use Rattle.omos_base.specs.SymNames.{IsSymName}
use Rattle.bp_tree.specs.Tokens.{Word}
use Rattle.bp_tree.specs.inside.Pending.{pending}
use Rattle.bp_tree.specs.inside.Symbols.{Names, HasGrown}
use Rattle.bp_tree.proofs.leaves.names.Given as goal

abbrev pub invariant-names : goal.invariant-names
invariant-names l =
    HasGrown Names (λ ws. (ws ≡ map Word l.names) × All IsSymName l.names) (pending l.fn.from)
    (pending l.rest)

abbrev pub decreases-names : goal.decreases-names
decreases-names l = length (pending l.rest)
