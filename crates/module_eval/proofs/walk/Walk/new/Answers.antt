use Rattle.std.proofs.Common.{ap, arith, length}
use Rattle.omos_model.specs.Names.{Name}
use Rattle.omos_model.specs.Visit.{Visit}
use Rattle.std.proofs.Common.{List}
use Rattle.module_eval.specs.inside.Times.{away}
use Rattle.module_eval.specs.declared.memo.Kept.{Kept}
use Rattle.module_eval.proofs.Known.{known_first}
use Rattle.module_eval.proofs.walk.Walk.new.Goals as goal

pub returns-clause-ready : goal.returns-clause-ready
returns-clause-ready c ns =
    let none = ap (λ (ps : List Name). length ps) c.new.ensures in
    let memo = c.new-2.ensures in
    record {
      counted = c.new-3.ensures.counted;
      room = omega (arith, none);
      low = omega (arith, memo.low);
      kept = memo.kept ns;
      known = rw c.new.ensures
          (known_first ns _ _ _ (ap (λ (v : Visit). v.read) c.new-3.ensures.first) memo.none);
      away = record {
        planned = λ p. ap (λ (es : List (Name × Kept)). away es p) memo.none;
        named = λ p.
            let gone = ap (λ (es : List (Name × Kept)). away es p) memo.none in
            omega (arith, gone);
      };
    }
