use Rattle.std.specs.Prelude.{◌≡◌}
use Rattle.seeded_hash.specs.inside.NameHashes.{after_blocks}
use Rattle.seeded_hash.proofs.hasher.blocks.Given as goal

abbrev pub invariant-loop-block : goal.invariant-loop-block
invariant-loop-block l = l.mixed ≡ after_blocks l.key l.bytes l.state l.block
