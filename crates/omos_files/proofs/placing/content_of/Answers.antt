use Rattle.std.proofs.Common.{◌<◌, ◌≤◌, ◌∙◌, length, Some, get_or, ap, sym, subst}
use Rattle.omos_files.proofs.Contents.{there, absent}
use Rattle.omos_files.proofs.placing.content_of.Goals as goal

pub returns-then-place-files-clause-there : goal.returns-then-place-files-clause-there
returns-then-place-files-clause-there c =
    let at = c.place_of-place.ensures.place in
    let d = c.index-files-place.result in
    let less = subst (λ k. k < length c.args.files.now) at c.if-place-files.true in
    there _ _ d less
    ∙ ap (λ k. Some (get_or c.args.files.now k d).1) (sym at)
    ∙ ap Some (sym c.as_slice.ensures)

pub returns-else-place-files-clause-none : goal.returns-else-place-files-clause-none
returns-else-place-files-clause-none c =
    absent _ _ (subst (λ k. length c.args.files.now ≤ k) c.place_of-place.ensures.place
    c.if-place-files.false)
