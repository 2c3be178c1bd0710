use Rattle.module_share.proofs.exports.put.Goals as goal

pub returns : goal.returns
returns c = λ n. rw (c.in_ok-copy.ensures, c.target.ensures) at (c.in_ok-insert.ensures.updates.0 n)
