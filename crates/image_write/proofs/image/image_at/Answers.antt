use Rattle.std.proofs.Common.{arith}
use Rattle.image_write.proofs.Answered.{pages-few, unlaid-answers, written-answers}
use Rattle.image_write.proofs.image.image_at.Goals as goal

pub write-requires-clause-range : goal.write-requires-clause-range
write-requires-clause-range c =
    let few = pages-few c.args.evaluated.now c.in-Ok.layout c.in-Ok.ensures.laid in
    omega (arith, few, c.requires.range)

pub returns-in-Ok : goal.returns-in-Ok
returns-in-Ok c =
    let m = c.args.evaluated.now in
    record {
      answered =
          written-answers m c.args.base _
          (c.modules_have_their_plan.ensures m c.path-path.ensures.evaluated)
          c.write.ensures.written;
    }

pub returns-in-Err : goal.returns-in-Err
returns-in-Err c =
    let m = c.args.evaluated.now in
    record {
      answered =
          unlaid-answers m c.args.base c.in-Err.fault
          (c.modules_have_their_plan.ensures m c.path-path.ensures.evaluated) c.in-Err.ensures.laid;
    }
