use Rattle.std.proofs.Common.{◌≡◌, drop}
use Rattle.std.specs.List.{enumerate_from, zip}
use Rattle.link_layout.specs.inside.References.{refusal_in}
use Rattle.link_layout.proofs.references.check_fixups.Given as goal

abbrev pub invariant-loop-number : goal.invariant-loop-number
invariant-loop-number l =
    refusal_in l.leaf (drop l.number (enumerate_from 0 (zip l.fixups l.landings)))
    ≡ refusal_in l.leaf (enumerate_from 0 (zip l.fixups l.landings))
