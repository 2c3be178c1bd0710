use Rattle.std.proofs.Common.{◌∙◌, ◌+◌, ap, sym}
use Rattle.omos_files.specs.Files.{is_same}
use Rattle.omos_files.proofs.Contents.{place_here, place_next}
use Rattle.omos_files.proofs.placing.+place_of.Goals as goal

pub returns-in-Some-clause-place : goal.returns-in-Some-clause-place
returns-in-Some-clause-place t c =
    let same = ap (λ n. is_same n c.args.name.now) (sym c.as_slice.ensures)
    ∙ sym c.eq.ensures ∙ c.if-eq.true in
    place_here _ _ _ _ c.in-Some.ensures.cases.0 same

pub returns-in-Some-2-clause-place : goal.returns-in-Some-2-clause-place
returns-in-Some-2-clause-place t c =
    let same = ap (λ n. is_same n c.args.name.now) (sym c.as_slice.ensures)
    ∙ sym c.eq.ensures ∙ c.if-eq.false in
    ap (λ n. n + 1) c.place_of.ensures.place ∙ place_next _ _ _ _ c.in-Some.ensures.cases.0 same
