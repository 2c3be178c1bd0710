use Rattle.std.proofs.Common.{◌≡◌, ◌+◌, ◌≤◌, true, sym, subst}
use Rattle.module_eval.specs.Costs.{is_built}
use Rattle.module_eval.specs.inside.Kept.{AreKept}
use Rattle.module_eval.specs.inside.Times.{once, away}
use Rattle.module_eval.proofs.Again.{inserted_spent, inserted_unspent, kept_more}
use Rattle.module_eval.proofs.Built.{built_only, built_still}
use Rattle.module_eval.proofs.memo.Memo.insert.Goals as goal

pub returns-clause-kept : goal.returns-clause-kept
returns-clause-kept c ns own all =
    subst (AreKept ns) (sym (rw c.of.ensures at c.in_ok-insert.ensures.entries))
    (kept_more ns c.args.self.now.kept.entries c.args.path.now c.args.kept own all)

pub returns-clause-stays : goal.returns-clause-stays
returns-clause-stays c q h =
    subst (λ es. is_built es q ≡ true) (sym (rw c.of.ensures at c.in_ok-insert.ensures.entries))
    (built_still c.args.self.now.kept.entries c.args.path.now c.args.kept q h)

pub returns-clause-others : goal.returns-clause-others
returns-clause-others c q out h =
    built_only c.args.self.now.kept.entries c.args.path.now c.args.kept q out
    (subst (λ es. is_built es q ≡ true) (rw c.of.ensures at c.in_ok-insert.ensures.entries) h)

pub returns-clause-away : goal.returns-clause-away
returns-clause-away c q =
    subst (λ es. away es q ≤ away c.args.self.now.kept.entries q + once q c.args.path.now)
    (sym (rw c.of.ensures at c.in_ok-insert.ensures.entries))
    (inserted_spent c.args.self.now.kept.entries c.args.path.now c.args.kept q)

pub returns-clause-unspent : goal.returns-clause-unspent
returns-clause-unspent c none q =
    subst (λ es. away es q ≤ away c.args.self.now.kept.entries q)
    (sym (rw c.of.ensures at c.in_ok-insert.ensures.entries))
    (inserted_unspent c.args.self.now.kept.entries c.args.path.now c.args.kept none q)
