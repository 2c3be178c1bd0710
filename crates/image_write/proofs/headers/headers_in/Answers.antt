use Rattle.std.proofs.Common.{arith, rules}
use Rattle.image_write.specs.inside.Headers.{all_groups}
use Rattle.image_write.proofs.Loads.{loads-step}
use Rattle.image_write.proofs.headers.headers_in.Goals as goal

pub loop-group-preserved : goal.loop-group-preserved
loop-group-preserved c = record {
  headers =
      loads-step c.args.groups.now c.args.base all_groups c.loop-group.group-index _ _ _
      c.in_ok-push_load.ensures.added c.loop-group.invariant.headers (omega arith)
      (search rules);
  few = omega (arith, c.in_ok-push_load.ensures.few, c.loop-group.invariant.few);
}
