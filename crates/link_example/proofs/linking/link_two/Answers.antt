use Rattle.std.proofs.Common.{Err}
use Rattle.link_example.proofs.Answered.{answered}
use Rattle.link_example.proofs.linking.link_two.Goals as goal

pub returns-in-Ok-link_path : goal.returns-in-Ok-link_path
returns-in-Ok-link_path c =
    answered c.args.first c.args.second c.args.third c.in-Ok.entry c.in-Ok-object.entry
    c.in-Ok-blueprint.entry _ _ _ c.in_ok-snap.snap.entries _ c.in-Ok.ensures c.in-Ok-object.ensures
    c.in-Ok-blueprint.ensures c.copy.ensures c.copy-in-Ok-object.ensures
    c.copy-in-Ok-blueprint.ensures c.in_ok-snap.ensures c.in-Ok-link_path.ensures.answered

pub returns-in-Err-Refused-link_path : goal.returns-in-Err-Refused-link_path
returns-in-Err-Refused-link_path c =
    answered c.args.first c.args.second c.args.third c.in-Ok.entry c.in-Ok-object.entry
    c.in-Ok-blueprint.entry _ _ _ c.in_ok-snap.snap.entries
    (Err c.in-Err-Refused-link_path.fault) c.in-Ok.ensures c.in-Ok-object.ensures
    c.in-Ok-blueprint.ensures c.copy.ensures c.copy-in-Ok-object.ensures
    c.copy-in-Ok-blueprint.ensures c.in_ok-snap.ensures
    (rw c.in-Err-Refused-link_path.field-0-is at c.in-Err-Refused-link_path.ensures.answered)
