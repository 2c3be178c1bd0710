use Rattle.std.proofs.Common.{◌≡◌, ◌≤◌, ◌+◌, length, false}
use Rattle.bp_tree.specs.Tokens.{tokens_from}
use Rattle.bp_tree.proofs.token.Reader.skip_blanks.Given as goal

abbrev pub invariant-blanks : goal.invariant-blanks
invariant-blanks l = record {
  fits : l.place + length l.rest ≤ 65536;
  same : tokens_from false l.place l.rest ≡ tokens_from false l.self.place l.self.rest.now;
}

abbrev pub decreases-blanks : goal.decreases-blanks
decreases-blanks l = length l.rest
