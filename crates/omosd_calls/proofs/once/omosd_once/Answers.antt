use Rattle.std.proofs.Common.{inl, inr, ℕ, List, sym, ap, ◌∙◌, subst}
use Rattle.omosd_calls.specs.declared.ending.Ending.TheVariants.{Refused, SinkFailed}
use Rattle.omosd_calls.specs.inside.Ending.{status_of}
use Rattle.omosd_calls.proofs.Determined.{ended_done, ended_refused, no_output, told_file}
use Rattle.omosd_calls.proofs.Endings.{answered_as}
use Rattle.omosd_calls.proofs.once.omosd_once.Goals as goal
use Rattle.omosd_calls.specs.Lone.{IsLoneImage, IsRefusalLine}

pub returns-in-Ok-clause-refused : goal.returns-in-Ok-clause-refused
returns-in-Ok-clause-refused g c = λ one.
    let answer = c.answer_file.ensures.answer in (
      c.in-Ok.file,
      c.in-Ok.ensures.input,
      answered_as Refused _ c.in-Ok.file _ _ (sym c.status-in-Ok.ensures ∙ one) answer,
    )

pub returns-in-Ok-clause-part : goal.returns-in-Ok-clause-part
returns-in-Ok-clause-part g c = λ four.
    let answer = c.answer_file.ensures.answer in (
      c.in-Ok.file,
      c.in-Ok.ensures.input,
      answered_as SinkFailed _ c.in-Ok.file _ _ (sym c.status-in-Ok.ensures ∙ four) answer,
    )

pub returns-in-Ok-clause-done_where : goal.returns-in-Ok-clause-done_where
returns-in-Ok-clause-done_where g c = λ file output once input image told.
    let answer = c.answer_file.ensures.answer in
    let same = told_file _ _ file c.in-Ok.file input c.in-Ok.ensures.input in
    let here = subst (λ (f : List ℕ). IsLoneImage f output) same image in
    c.status-in-Ok.ensures ∙ ap status_of (ended_done _ c.in-Ok.file _ _ output answer here told)

pub returns-in-Ok-clause-refused_where : goal.returns-in-Ok-clause-refused_where
returns-in-Ok-clause-refused_where g c = λ file output once input refusal told.
    let answer = c.answer_file.ensures.answer in
    let same = told_file _ _ file c.in-Ok.file input c.in-Ok.ensures.input in
    let here = subst (λ (f : List ℕ). IsRefusalLine f output) same refusal in
    c.status-in-Ok.ensures ∙ ap status_of (ended_refused _ c.in-Ok.file _ _ output answer here told)

pub returns-in-Err-SourceFailed-clause-done_where :
    goal.returns-in-Err-SourceFailed-clause-done_where
returns-in-Err-SourceFailed-clause-done_where g c = λ file output once input image told.
    absurd (no_output file _ output (inl image) told)

pub returns-in-Err-SourceFailed-clause-refused_where :
    goal.returns-in-Err-SourceFailed-clause-refused_where
returns-in-Err-SourceFailed-clause-refused_where g c = λ file output once input refusal told.
    absurd (no_output file _ output (inr refusal) told)

pub returns-in-Err-NoMemory-clause-done_where : goal.returns-in-Err-NoMemory-clause-done_where
returns-in-Err-NoMemory-clause-done_where g c = λ file output once input image told.
    absurd (no_output file _ output (inl image) told)

pub returns-in-Err-NoMemory-clause-refused_where : goal.returns-in-Err-NoMemory-clause-refused_where
returns-in-Err-NoMemory-clause-refused_where g c = λ file output once input refusal told.
    absurd (no_output file _ output (inr refusal) told)
