use Rattle.std.proofs.Common.{ℕ, ◌+◌, List, Ok, ap, sym, ◌∙◌}
use Rattle.omos_model.specs.declared.fragment.Group.TheVariants.{Zeros}
use Rattle.image_write.specs.inside.Plans.{plan_with}
use Rattle.image_write.specs.inside.Filled.{entry_in}
use Rattle.image_write.proofs.Files.{rest-size, written-err, written-ok}
use Rattle.image_write.proofs.file.write.Goals as goal

pub fill-requires-clause-size : goal.fill-requires-clause-size
fill-requires-clause-size c =
    let sound = c.groups_in-groups.ensures.sound in
    rest-size c.into_vec-bytes.result.items c.in_ok-page.page c.len-head.result
    c.groups_in-groups.result.now.begins.zeros (c.into_vec-bytes.ensures
    ∙ c.in_ok-push_zeros.ensures.added) c.len-head.ensures
    ∙ ap (λ n. c.len-head.result + n) (sound.groups.begins Zeros)

pub returns-in-Ok : goal.returns-in-Ok
returns-in-Ok c =
    let sound = c.groups_in-groups.ensures.sound in
    let m = c.args.evaluated.now in
    let l = c.args.layout.now in
    let base = c.args.base in
    let entry = c.entry_in-entry.ensures
    ∙ ap (λ (ps : List (List ℕ)). entry_in ps base l.entry) c.places.ensures in
    let image =
    written-ok c.groups_in-groups.result.now m l base
    c.entry_in-entry.result c.len-head.result c.into_vec-bytes.result.items
    c.fill.new.bytes.items c.in_ok-page.page sound entry c.in_ok-page.ensures
    (c.into_vec-bytes.ensures ∙ c.in_ok-push_zeros.ensures.added) c.len-head.ensures
    c.in-Ok.ensures.0 c.in-Ok.ensures.1 in
    record { written = (plan_with m l, sound.plan, image ∙ ap Ok (sym c.from_vec.ensures)) }

pub returns-in-Err : goal.returns-in-Err
returns-in-Err c =
    let sound = c.groups_in-groups.ensures.sound in
    let m = c.args.evaluated.now in
    let l = c.args.layout.now in
    let base = c.args.base in
    record {
      written = (
        plan_with m l,
        sound.plan,
        written-err c.groups_in-groups.result.now m l base c.in-Err.refusal
            sound c.in-Err.ensures,
      );
    }
