use Rattle.std.proofs.Common.{◌∷◌, ◌++◌, ◌/◌, ◌^◌, [], ap, ◌∙◌}
use Rattle.omos_model.specs.FragmentOf.{aim_of}
use Rattle.omos_model.specs.declared.fragment.Fixup.{Fixup}
use Rattle.fragment_read.specs.inside.Gathered.{gathered}
use Rattle.fragment_read.proofs.Gathering.{gathered_more, still_gathered}
use Rattle.fragment_read.proofs.fixups.push_fixup.Goals as goal

pub returns-clause-right : goal.returns-clause-right
returns-clause-right c =
    still_gathered c.args.tables.now c.args.fields.now c.push.new.self c.args.used.now
    c.name.new.used c.field_with.result (c.args.entry.r_info / 2 ^ 32) c.requires.gathered
    c.in_ok-name.ensures c.requires.there c.in_ok-push.ensures.added

pub returns-clause-more : goal.returns-clause-more
returns-clause-more c =
    let file = c.args.tables.now in
    let k = c.args.entry.r_info / 2 ^ 32 in
    gathered_more file c.args.fields.now c.push.new.self c.args.used.now c.name.new.used
    c.field_with.result k c.requires.gathered c.in_ok-name.ensures c.in_ok-push.ensures.added
    ∙ ap (λ (x : Fixup). gathered file c.args.fields.now c.args.used.now ++ x ∷ [])
    (c.field_with.ensures (aim_of file k))
