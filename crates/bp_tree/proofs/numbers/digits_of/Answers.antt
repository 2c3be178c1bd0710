use Rattle.bp_tree.proofs.Digits.{utf8}
use Rattle.bp_tree.proofs.numbers.digits_of.Goals as goal

pub returns-in-Err : goal.returns-in-Err
returns-in-Err c = utf8 c.args.base c.args.digits.now c.requires.high c.in-Err.ensures.cases.0
