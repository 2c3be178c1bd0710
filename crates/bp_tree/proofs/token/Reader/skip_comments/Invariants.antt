use Rattle.std.proofs.Common.{◌≡◌, ◌≤◌, ◌+◌, length, false}
use Rattle.bp_tree.specs.Tokens.{tokens_from}
use Rattle.bp_tree.proofs.token.Reader.skip_comments.Given as goal

abbrev pub invariant-bytes : goal.invariant-bytes
invariant-bytes l = record {
  fits : l.place + length l.rest ≤ 65536;
  same : tokens_from l.comment l.place l.rest ≡ tokens_from false l.self.place l.self.rest.now;
}

abbrev pub decreases-bytes : goal.decreases-bytes
decreases-bytes l = length l.rest
