use Rattle.std.proofs.Common.{arith, ◌≡◌, refl, ◌∙◌, ◌+◌, ◌-◌, ◌*◌, ◌/◌, suc, length, ap, sym}
use Rattle.std.proofs.Common.{add-one}
use Rattle.seeded_hash.specs.inside.NameHashes.{mixed, after_blocks}
use Rattle.seeded_hash.proofs.hasher.blocks.Goals as goal

-- no block yet
pub loop-block-init : goal.loop-block-init
unfolding after_blocks
loop-block-init c = refl

-- one block more
pub loop-block-preserved : goal.loop-block-preserved
unfolding after_blocks
loop-block-preserved c =
    let i = c.loop-block.block in
    let after = after_blocks c.args.key c.args.bytes.now c.args.state in
    let more : c.mix-mixed.result ≡ after (suc i) =
    c.mix-mixed.ensures
    ∙ ap (λ s. mixed c.args.key c.args.bytes.now s (16 * i) (16 * i + 8)) c.loop-block.invariant in
    more ∙ ap after (sym (add-one i))

-- and all of them at last
pub returns : goal.returns
returns c =
    let all : c.loop-block.block ≡ (length c.args.bytes.now - 1) / 16 =
    omega (arith, c.loop-block-test.false, c.loop-block.auto.block-end) in
    c.loop-block.invariant ∙ ap (after_blocks c.args.key c.args.bytes.now c.args.state) all
