use Rattle.omos_wire.proofs.OneReply.{one_reply}
use Rattle.omos_wire.proofs.laws.one_reply.Goals as goal

pub returns : goal.returns
returns c = one_reply
