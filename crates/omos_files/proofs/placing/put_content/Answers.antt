use Rattle.std.proofs.Common.{rules, ◌<◌, ◌≤◌, ◌∙◌, length, subst}
use Rattle.omos_files.proofs.Contents.{replaced_at, added}
use Rattle.omos_files.proofs.placing.put_content.Goals as goal

pub returns-then-place-len-clause-done : goal.returns-then-place-len-clause-done
returns-then-place-len-clause-done c =
    let place = c.place_of-place.ensures.place in
    let at = rw (c.as_slice.ensures.value, c.as_slice-2.ensures) at place in
    let below : c.place_of-place.result < length c.args.files.now.items = search rules in
    replaced_at _ _ _ _ _ _ at below c.index_mut.ensures.value

pub returns-in_ok-push-clause-done : goal.returns-in_ok-push-clause-done
returns-in_ok-push-clause-done c =
    let place = c.place_of-place.ensures.place in
    let at = rw (c.as_slice.ensures.value, c.as_slice-2.ensures) at place in
    let above : length c.args.files.now.items ≤ c.place_of-place.result = search rules in
    c.in_ok-push.ensures.items
    ∙ added _ _ _ (subst (λ k. length c.args.files.now.items ≤ k) at above)
