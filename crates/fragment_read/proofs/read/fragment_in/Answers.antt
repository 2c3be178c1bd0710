use Rattle.std.proofs.Common.{Ok, sym, ap, ◌∙◌}
use Rattle.omos_model.specs.FragmentOf.{fragment_of, parts_of_file}
use Rattle.fragment_read.proofs.Whole.{fragment_is, refused_alike}
use Rattle.fragment_read.proofs.read.fragment_in.Goals as goal

pub returns-in_ok-parts_of_file-in-Ok : goal.returns-in_ok-parts_of_file-in-Ok
returns-in_ok-parts_of_file-in-Ok c =
    let a = c.in-Ok.ensures.tables in
    let b = c.in_ok-parts_of_file-in-Ok.ensures in
    ap fragment_of (sym c.as_slice.ensures) ∙ fragment_is c.as_slice.result.now a.1
    ∙ ap (λ f. Ok (parts_of_file f)) (sym a.0) ∙ ap Ok (sym b)

pub returns-in-Err : goal.returns-in-Err
returns-in-Err c =
    rw c.as_slice.ensures at
    (refused_alike c.as_slice.result.now _ c.in-Err.fault c.in-Err.ensures.tables)
