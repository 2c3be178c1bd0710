use Rattle.std.proofs.Common.{ap, arith}
use Rattle.module_eval.specs.inside.Times.{occurs_in}
use Rattle.module_eval.proofs.Known.{charged, known_opened, not_read}
use Rattle.module_eval.proofs.opening.open.Goals as goal

pub returns-clause-known : goal.returns-clause-known
returns-clause-known c ns x apart all there fresh known =
    known_opened ns c.args.above.now c.push.new.self c.args.counts.now.read.entries
    c.enter.new.counts.read.entries apart all c.args.path.now x
    (rw c.copy.ensures at c.in_ok-push.ensures.ok) c.in_ok-node.ensures.alone
    c.in_ok-node.ensures.stay there fresh known

pub returns-clause-cost : goal.returns-clause-cost
returns-clause-cost c ns x apart all known there out fresh =
    charged ns c.args.above.now c.args.counts.now.read.entries c.enter.new.counts.read.entries apart
    all c.args.path.now x known there out fresh
    (c.in_ok-node.ensures.fresh ns x there)

pub returns-clause-fresh : goal.returns-clause-fresh
returns-clause-fresh c ns x apart all known there out unbuilt q =
    let unread =
    not_read ns c.args.above.now c.args.counts.now.read.entries apart all c.args.path.now x known
    there out unbuilt in
    let more = c.in_ok-node.ensures.first ns q unread in
    let own = ap (occurs_in q) there in
    omega (arith, more, own)
