use Rattle.std.proofs.Common.{◌≡◌, length, drop}
use Rattle.std.specs.List.{enumerate_from, zip}
use Rattle.link_layout.specs.inside.References.{refusal_among}
use Rattle.link_layout.proofs.references.check_references.Given as goal

abbrev pub invariant-loop-number : goal.invariant-loop-number
invariant-loop-number l =
    refusal_among (drop (length l.yielded) (enumerate_from 0 (zip l.leaves l.landings)))
    ≡ refusal_among (enumerate_from 0 (zip l.leaves l.landings))
