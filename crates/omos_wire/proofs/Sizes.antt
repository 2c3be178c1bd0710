-- How long replies are.
use Rattle.std.proofs.Common.{◌+◌, ◌*◌, ◌≤◌, List, length, refl, arith}
use Rattle.std.specs.List.{AllByRecursion}
use Rattle.omos_wire.specs.Answer.{IsReplyFrame, Places, longest_reply, reply_frame, IsCodedSpan}
use Rattle.omos_wire.specs.declared.span.Span.{Span}
use Rattle.omos_wire.proofs.Fitting.{length-spans}

-- a list of placements is read back, if it isn't too long
pub readable_places : (ss : List Span) → 5 + 12 * length ss ≤ longest_reply
    → AllByRecursion IsCodedSpan ss
    → IsReplyFrame (reply_frame (Places ss)) (Places ss)
readable_places ss few h =
    record { frame = refl; size = omega (arith, few, length-spans ss); values = h }
