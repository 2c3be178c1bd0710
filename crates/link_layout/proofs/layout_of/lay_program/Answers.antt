use Rattle.std.proofs.Common.{ap, ◌∙◌}
use Rattle.std.proofs.lemmas.Result.{err_from_is_err_and}
use Rattle.link_model.specs.Module.{Placing}
use Rattle.link_layout.specs.Program.{parts_in}
use Rattle.link_layout.proofs.Planned.{at_least_one, is_small, laid, unstarted}
use Rattle.link_layout.proofs.layout_of.lay_program.Goals as goal

pub returns-in_err-entry : goal.returns-in_err-entry
returns-in_err-entry c =
    let p = c.args.program.now in
    let pages = c.all_pages-pages.ensures (parts_in p) c.in_ok-slots.ensures.sizes in
    let q = err_from_is_err_and c.from_residual-in_err-entry.result
    c.from_residual-in_err-entry.ensures.1 in
    record {
      laid =
          rw (q.1, q.2)
          (unstarted p c.in_err-entry.field-0.0
          (is_small (parts_in p) c.all_pages-pages.result pages c.if-pages-gt-MAX_PAGES.false)
          c.in_err-entry.ensures.refusal);
    }

pub returns : goal.returns
returns c =
    let p = c.args.program.now in
    let pages = c.all_pages-pages.ensures (parts_in p) c.in_ok-slots.ensures.sizes in
    record {
      laid = laid p c.of.result
          (is_small (parts_in p) c.all_pages-pages.result pages c.if-pages-gt-MAX_PAGES.false)
          c.in_ok-entry.ensures.refusal c.in_ok-check_landings.ensures
          (ap (λ (l : Placing). l.pages) c.of.ensures ∙ c.max.ensures
          ∙ at_least_one c.all_pages-pages.result _ pages)
          (ap (λ (l : Placing). l.groups) c.of.ensures ∙ c.in_ok-slots.ensures.groups)
          (ap (λ (l : Placing). l.places) c.of.ensures ∙ c.in_ok-places.ensures)
          (ap (λ (l : Placing). l.slots) c.of.ensures ∙ c.in_ok-slots.ensures.slots)
          (ap (λ (l : Placing). l.entry) c.of.ensures ∙ c.in_ok-entry.ensures.entry);
    }
