use Rattle.std.proofs.Common.{map, string_bytes, arith}
use Rattle.std.proofs.lemmas.List.{length-map}
use Rattle.command_words.proofs.Others.{socket_other}
use Rattle.command_words.proofs.server.socket_words.Goals as goal

pub returns-else-words-eq6-clause-said : goal.returns-else-words-eq6-clause-said
returns-else-words-eq6-clause-said c =
    socket_other (map string_bytes c.args.words.now)
    (λ six. omega (arith, six, length-map c.args.words.now string_bytes, c.if-words-eq6.false))
